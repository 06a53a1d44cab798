use Rattle.osm_tree_audits.proofs.Shown.{blob_shown}
use Rattle.osm_tree_audits.proofs.laws.a_kept_blob_is_shown.Goals as goal

pub returns : goal.returns
returns c = blob_shown
