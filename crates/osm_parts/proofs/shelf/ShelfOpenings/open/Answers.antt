use Rattle.std.proofs.Common.{ap}
use Rattle.osm_parts.proofs.ShelfLemmas.{lent, all-with}
use Rattle.osm_parts.proofs.shelf.ShelfOpenings.open.Goals as goal

pub returns-in-Some-clause-lent : goal.returns-in-Some-clause-lent
returns-in-Some-clause-lent g c = λ maps all honest sound.
    let it = lent g.K.BlobReader.holds c.args.self.now.slots.items maps c.args.place c.in-Some.store all c.in-Some.ensures.store.0 in
    record { held = it.0; at = it.1; store = it.2; lent = rw c.in-Some.ensures.slots (rw (ap (λ shelf. shelf.taken) c.in-Some.ensures.taken) it.3) }

pub returns-in-Some-clause-honest : goal.returns-in-Some-clause-honest
returns-in-Some-clause-honest g c = λ (well, all) sound. (
  rw (ap (λ shelf. shelf.is_misused) c.in-Some.ensures.taken) at well,
  all-with g.K.BlobReader.is_honest c.args.self.now.slots.items c.args.place c.in-Some.store c.in-Some.ensures.store.0 (rw c.in-Some.ensures.slots at all) sound,
)

pub returns-in-Some-clause-open_if : goal.returns-in-Some-clause-open_if
returns-in-Some-clause-open_if g c = λ (well, all) sound. (
  rw (ap (λ shelf. shelf.is_misused) c.in-Some.ensures.taken) at well,
  all-with g.K.BlobReader.is_open c.args.self.now.slots.items c.args.place c.in-Some.store c.in-Some.ensures.store.0 (rw c.in-Some.ensures.slots at all) sound,
)
