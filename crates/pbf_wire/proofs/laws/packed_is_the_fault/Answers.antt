use Rattle.pbf_wire.proofs.RowLaws.{row_fault_read, read_row_fault}
use Rattle.pbf_wire.proofs.laws.packed_is_the_fault.Goals as goal

pub returns-clause-stands : goal.returns-clause-stands
returns-clause-stands c = row_fault_read

pub returns-clause-read : goal.returns-clause-read
returns-clause-read c = read_row_fault
