use Rattle.std.proofs.Common.{arith, ◌∙◌, sym}
use Rattle.pbf_frame.specs.View.{found}
use Rattle.pbf_wire.proofs.Choices.{neither_both}
use Rattle.pbf_frame.proofs.FrameLaws.{is_followed, front_read, none_follows}
use Rattle.pbf_frame.proofs.frame.whole_frame.Goals as goal

pub returns-in_err-frame-clause-trailing : goal.returns-in_err-frame-clause-trailing
returns-in_err-frame-clause-trailing c = λ h.
    let g = front_read c.args.bytes.now h in
    neither_both g.0 _ (sym c.in_err-frame.ensures.exact ∙ g.1)

pub returns-then-frame-bytes-clause-fault : goal.returns-then-frame-bytes-clause-fault
returns-then-frame-bytes-clause-fault c = is_followed c.args.bytes.now (found c.in_ok-frame.frame) c.in_ok-frame.ensures.exact (omega arith)

pub returns-clause-trailing : goal.returns-clause-trailing
returns-clause-trailing c = λ h. none_follows c.args.bytes.now (found c.in_ok-frame.frame) c.in_ok-frame.ensures.exact (omega arith) h
