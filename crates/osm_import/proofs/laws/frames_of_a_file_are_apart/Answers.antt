use Rattle.osm_import.proofs.FilesLemmas.{stands-apart}
use Rattle.osm_import.proofs.laws.frames_of_a_file_are_apart.Goals as goal

pub returns : goal.returns
returns c = stands-apart 0
