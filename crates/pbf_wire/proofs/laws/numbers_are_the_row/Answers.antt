use Rattle.pbf_wire.proofs.RowLaws.{row_read, read_row, one_row}
use Rattle.pbf_wire.proofs.laws.numbers_are_the_row.Goals as goal

pub returns-clause-spelled : goal.returns-clause-spelled
returns-clause-spelled c = row_read

pub returns-clause-read : goal.returns-clause-read
returns-clause-read c = read_row

pub returns-clause-one : goal.returns-clause-one
returns-clause-one c = one_row
