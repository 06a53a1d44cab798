use Rattle.std.proofs.Common.{◌++◌, Ok, Err, refl, ap}
use Rattle.osm_value.proofs.SinkLemmas.{Wrote-text}
use Rattle.pbfrow_reading.specs.Checking.{bad_line}
use Rattle.pbfrow_reading.specs.Listing.{Plain}
use Rattle.pbfrow_reading.specs.Showing.{blob_line, content_lines}
use Rattle.pbfrow_reading.specs.Verdicts.{Content}
use Rattle.pbfrow_reading.proofs.Judging.{judged, is-judged-bad, is-judged-good, wrote-fault}
use Rattle.pbfrow_reading.proofs.ShowLemmas.{shown-parts}
use Rattle.pbfrow_reading.proofs.show.show_blob.Goals as goal

pub returns-in-Ok-clause-ok : goal.returns-in-Ok-clause-ok
returns-in-Ok-clause-ok g c =
    let w = c.args.bytes.now in
    let frame = c.frame_of-frame.result in
    let good = c.in-Ok.good in
    let content : Content = record { elements = good.elements.items; header = good.header } in (
      judged frame.type_name.now frame.blob.now w (Ok content),
      is-judged-good c.args.at frame.type_name.now frame.blob.now w good.kind frame.kind good.elements.items good.header c.frame_of-frame.ensures.frame (c.in-Ok.ensures.good w c.frame_of-frame.ensures.whole) c.in-Ok.ensures.header,
      λ start before h. Wrote-text start _ _ _ _ (shown-parts before c.args.at frame.type_name.now (content_lines good.header good.elements.items) frame.length _ c.frame_of-frame.ensures.length)
          (c.put_content.ensures start _ (c.put_blob.ensures start before h)),
      refl,
    )

pub returns-in-Err-Bad-clause-ok : goal.returns-in-Err-Bad-clause-ok
returns-in-Err-Bad-clause-ok g c =
    let w = c.args.bytes.now in
    let frame = c.frame_of-frame.result in
    let fault = c.in-Err-Bad.fault in (
      judged frame.type_name.now frame.blob.now w (Err fault),
      is-judged-bad c.args.at frame.type_name.now frame.blob.now w fault c.frame_of-frame.ensures.frame.1 (rw c.in-Err-Bad.field-0-is at (c.in-Err-Bad.ensures.bad w c.frame_of-frame.ensures.whole)),
      λ start before h. Wrote-text start _ _ _ _ (shown-parts before c.args.at frame.type_name.now (bad_line c.args.at (Err fault)) frame.length _ c.frame_of-frame.ensures.length)
          (wrote-fault start _ _ _ c.args.at c.number.result c.name.result.now fault c.number.ensures c.name.ensures (c.put_fault_at.ensures start _ (c.put_blob.ensures start before h))),
      refl,
    )

pub returns-in-Err-Memory-clause-err : goal.returns-in-Err-Memory-clause-err
returns-in-Err-Memory-clause-err g c =
    let frame = c.frame_of-frame.result in
    let p : Plain = record { type_name = frame.type_name.now; blob = frame.blob.now; bytes = c.args.bytes.now; found = tt } in (
      p,
      refl,
      c.frame_of-frame.ensures.frame.1,
      λ start before h. Wrote-text start _ _ _ _ (ap (λ n. before ++ blob_line c.args.at frame.type_name.now n) c.frame_of-frame.ensures.length) (c.put_blob.ensures start before h),
    )
