use Rattle.pbf_frame.proofs.WaitingLaws.{waiting_faulted, waiting_faults, fault_read, far_is_last}
use Rattle.pbf_frame.proofs.laws.fault_stands.Goals as goal

pub returns-clause-stands : goal.returns-clause-stands
returns-clause-stands c = waiting_faulted

pub returns-clause-read : goal.returns-clause-read
returns-clause-read c = λ f fault e. fault_read f fault (waiting_faults f fault e)

pub returns-clause-last : goal.returns-clause-last
returns-clause-last c = λ offset w fault far lt s. far_is_last offset w far fault lt s
