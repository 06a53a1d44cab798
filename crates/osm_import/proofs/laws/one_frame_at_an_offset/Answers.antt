use Rattle.osm_import.proofs.FilesLemmas.{stands-same}
use Rattle.osm_import.proofs.laws.one_frame_at_an_offset.Goals as goal

pub returns : goal.returns
returns c = stands-same 0
