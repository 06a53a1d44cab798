use Rattle.osm_write.proofs.WrittenRead.{says_alone, answers_them}
use Rattle.osm_write.proofs.laws.what_is_written_is_read.Goals as goal

pub returns : goal.returns
returns c = record { says = says_alone; read = answers_them }
