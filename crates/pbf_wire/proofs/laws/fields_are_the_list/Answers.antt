use Rattle.pbf_wire.proofs.ReadingLaws.{list_read, read_list}
use Rattle.pbf_wire.proofs.laws.fields_are_the_list.Goals as goal

pub returns-clause-spelled : goal.returns-clause-spelled
returns-clause-spelled c = list_read

pub returns-clause-read : goal.returns-clause-read
returns-clause-read c = read_list
