use Rattle.osm_tree_writes.proofs.Obeying.{obey}
use Rattle.osm_tree_audits.proofs.Whole.{blobs_are, elements_are}
use Rattle.osm_tree_audits.proofs.laws.checked_trees_have_the_rows_of_the_map.Goals as goal

pub returns : goal.returns
returns c db held at counts meta shaped tables indexed =
    let blobs = blobs_are db held at counts shaped in
    let elements = elements_are db held at counts in
    (blobs, elements, obey held db meta blobs elements tables indexed)
