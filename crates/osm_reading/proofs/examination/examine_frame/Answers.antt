use Rattle.pbf_frame.specs.View.{found}
use Rattle.pbf_frame.proofs.FrameLaws.{whole_takes}
use Rattle.osm_reading.specs.Bad.{CanStand, IsMisplaced}
use Rattle.osm_reading.proofs.ExamineLemmas.{misplaced, good-of, finding-of, when_none}
use Rattle.osm_reading.proofs.examination.examine_frame.Goals as goal

pub returns-in-Some-clause-bad : goal.returns-in-Some-clause-bad
returns-in-Some-clause-bad c = λ bytes is. misplaced c.args.off bytes (found c.args.frame.now) c.in-Some.fault is c.in-Some.ensures

pub returns-in-Ok-clause-good : goal.returns-in-Ok-clause-good
returns-in-Ok-clause-good c = λ bytes is.
    good-of c.args.off bytes (found c.args.frame.now) c.in-Ok.content.elements.items is
    (when_none c.placing_fault.result (CanStand c.args.off c.args.frame.now.kind c.args.frame.now.length) (IsMisplaced c.args.off c.args.frame.now.kind c.args.frame.now.length) c.placing_fault.ensures c.in_default.not-Some)
    c.in-Ok.ensures.ok

pub returns-in-Ok-clause-length : goal.returns-in-Ok-clause-length
returns-in-Ok-clause-length c = λ bytes is. (whole_takes bytes (found c.args.frame.now) is).2

pub returns-in-Err-clause-bad : goal.returns-in-Err-clause-bad
returns-in-Err-clause-bad c = λ bytes is.
    finding-of c.args.off bytes (found c.args.frame.now) c.in-Err.fault is
    (when_none c.placing_fault.result (CanStand c.args.off c.args.frame.now.kind c.args.frame.now.length) (IsMisplaced c.args.off c.args.frame.now.kind c.args.frame.now.length) c.placing_fault.ensures c.in_default.not-Some)
    c.in-Err.ensures.err
