use Rattle.std.proofs.Common.{rules, ◌≡◌, Some, None, slice_get}
use Rattle.osm_parts.proofs.ShelfLemmas.{all-without}
use Rattle.osm_parts.proofs.shelf.ShelfOpenings.close.Goals as goal

pub returns-in-Some-clause-honest : goal.returns-in-Some-clause-honest
returns-in-Some-clause-honest g c = λ (well, all).
    let free : slice_get c.args.self.now.slots.items c.in-Some.index ≡ Some None = search rules in
    let both = all-without g.K.BlobReader.is_honest c.args.self.now.slots.items c.in-Some.index c.args.store free all in
    ((well, both.0), both.1)

pub returns-in-Some-clause-open_if : goal.returns-in-Some-clause-open_if
returns-in-Some-clause-open_if g c = λ (well, all).
    let free : slice_get c.args.self.now.slots.items c.in-Some.index ≡ Some None = search rules in
    let both = all-without g.K.BlobReader.is_open c.args.self.now.slots.items c.in-Some.index c.args.store free all in
    ((well, both.0), both.1)
