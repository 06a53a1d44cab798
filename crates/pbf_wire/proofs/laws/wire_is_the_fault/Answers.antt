use Rattle.pbf_wire.proofs.ReadingLaws.{fault_read, read_fault, fields_before}
use Rattle.pbf_wire.proofs.laws.wire_is_the_fault.Goals as goal

pub returns-clause-stands : goal.returns-clause-stands
returns-clause-stands c = fault_read

pub returns-clause-read : goal.returns-clause-read
returns-clause-read c = read_fault

pub returns-clause-front : goal.returns-clause-front
returns-clause-front c = fields_before
