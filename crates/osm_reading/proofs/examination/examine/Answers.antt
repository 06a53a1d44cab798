use Rattle.std.proofs.Common.{◌≡◌, ◌∙◌, Ok, sym, subst}
use Rattle.std.specs.Prelude.{IfOk}
use Rattle.pbf_frame.specs.Frame.{Found}
use Rattle.pbf_frame.specs.View.{found}
use Rattle.osm_reading.specs.Good.{HasHeader}
use Rattle.osm_reading.specs.declared.examination.Good.{Good}
use Rattle.osm_reading.proofs.ExamineLemmas.{whole-faults}
use Rattle.osm_reading.proofs.examination.examine.Goals as goal

pub returns-in-Ok-clause-header : goal.returns-in-Ok-clause-header
returns-in-Ok-clause-header c = λ frame is.
    let both : Ok (found c.in-Ok.frame) ≡ Ok frame = sym c.in-Ok.ensures.exact ∙ is in
    let same : found c.in-Ok.frame ≡ frame = cc in
    subst (λ (f : Found). IfOk c.examine_frame.result (λ (good : Good). HasHeader f.kind f.blob good.header)) same c.examine_frame.ensures.header

pub returns-in-Err-clause-bad : goal.returns-in-Err-clause-bad
returns-in-Err-clause-bad c = whole-faults c.args.off c.args.bytes.now c.in-Err.fault c.in-Err.ensures.exact
