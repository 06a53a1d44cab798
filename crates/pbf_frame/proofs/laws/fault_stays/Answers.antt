use Rattle.std.proofs.Common.{[]}
use Rattle.pbf_frame.proofs.EndLaws.{stays}
use Rattle.pbf_frame.proofs.laws.fault_stays.Goals as goal

pub returns-clause-none : goal.returns-clause-none
returns-clause-none c = λ f fault piece e. (stays f fault piece e).takes_none

pub returns-clause-fed : goal.returns-clause-fed
returns-clause-fed c = λ f fault piece e. (stays f fault piece e).after_feed

pub returns-clause-next : goal.returns-clause-next
returns-clause-next c = λ f fault e. e

pub returns-clause-end : goal.returns-clause-end
returns-clause-end c = λ f fault e. (stays f fault [] e).at_end
