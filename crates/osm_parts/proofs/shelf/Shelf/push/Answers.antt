use Rattle.osm_parts.proofs.ShelfLemmas.{pushed}
use Rattle.osm_parts.proofs.shelf.Shelf.push.Goals as goal

pub returns-clause-held : goal.returns-clause-held
returns-clause-held g c = λ maps held all is.
    let more = pushed g.K.BlobReader.holds c.args.self.now.slots.items maps c.args.store held all is in
    rw c.in_ok-push.ensures.items more
