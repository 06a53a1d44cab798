use Rattle.osm_verify.proofs.FileFrames.{parts-hold-file, agreed-hold-file}
use Rattle.osm_verify.proofs.laws.parts_hold_the_file.Goals as goal

pub returns-clause-parts : goal.returns-clause-parts
returns-clause-parts c = parts-hold-file

pub returns-clause-agreed : goal.returns-clause-agreed
returns-clause-agreed c = agreed-hold-file
