use Rattle.std.proofs.Common.{◌≡◌, ℕ, List, refl, rules, Some, None}
use Rattle.pbf_frame.specs.Framer.{shown, waiting}
use Rattle.pbf_frame.proofs.EndLaws.{shown_waits, shown_faults}
use Rattle.pbf_frame.proofs.WaitingLaws.{shown_frame}
use Rattle.pbf_frame.proofs.framer.Framer.next_frame.Goals as goal

pub returns-in_err-at : goal.returns-in_err-at
returns-in_err-at c =
    let old = c.args.self.now in
    let e : shown c.from_residual.result ≡ waiting old = search rules in
    ((refl, λ x. tt, search rules), record { frame = shown_waits (shown c.from_residual.result) old e; fault = shown_faults (shown c.from_residual.result) old e; exact = e; after = tt })

pub returns-in-Some : goal.returns-in-Some
returns-in-Some c =
    let old = c.args.self.now in
    let frame : ℕ × List ℕ = (c.in-Some.at, c.as_slice.result.now) in
    let e : shown_frame (Some frame) ≡ waiting old = search rules in
    ((refl, λ x. tt, search rules), record { frame = shown_waits (shown_frame (Some frame)) old e; fault = shown_faults (shown_frame (Some frame)) old e; exact = e; after = tt })

pub returns-in-None : goal.returns-in-None
returns-in-None c =
    let old = c.args.self.now in
    let e : shown_frame None ≡ waiting old = search rules in
    ((refl, λ x. tt, search rules), record { frame = shown_waits (shown_frame None) old e; fault = shown_faults (shown_frame None) old e; exact = e; after = tt })
