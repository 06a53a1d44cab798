use Rattle.std.proofs.Common.{length, List, ◌+◌, ◌++◌, Ok, Err, refl, sym, ap, ◌∙◌, append-nil, []}
use Rattle.osm_value.specs.declared.element.Element.{Element}
use Rattle.osm_value.proofs.SinkLemmas.{Wrote-text}
use Rattle.pbfrow_reading.specs.Checking.{tally}
use Rattle.pbfrow_reading.specs.Verdicts.{Content}
use Rattle.pbfrow_reading.proofs.CheckLemmas.{all_in, bad_in, bad-counted, good-counted}
use Rattle.pbfrow_reading.proofs.Judging.{judged, is-judged-bad, is-judged-good, wrote-fault}
use Rattle.pbfrow_reading.proofs.check.count_blob.Goals as goal

pub returns-in-Ok-clause-ok : goal.returns-in-Ok-clause-ok
returns-in-Ok-clause-ok g c =
    let w = c.args.bytes.now in
    let frame = c.frame_of.result in
    let good = c.in-Ok.good in
    let content : Content = record { elements = good.elements.items; header = good.header } in
    let p = judged frame.type_name.now frame.blob.now w (Ok content) in (
      p,
      is-judged-good c.args.at frame.type_name.now frame.blob.now w good.kind frame.kind good.elements.items good.header c.frame_of.ensures.frame (c.in-Ok.ensures.good w c.frame_of.ensures.whole) c.in-Ok.ensures.header,
      λ start before h. Wrote-text start before (before ++ []) _ _ (sym (append-nil before)) h,
      λ blobs is. good-counted blobs p content c.add_elements.new.self refl
          (c.add_elements.ensures (length blobs + 1) (bad_in blobs + 0) (all_in blobs) (c.add_blob.ensures (length blobs) (bad_in blobs + 0) (all_in blobs) is)
          ∙ ap (λ (es : List Element). tally (length blobs + 1) (all_in blobs ++ es) (bad_in blobs + 0)) c.deref.ensures.value),
    )

pub returns-in-Err-Bad-clause-ok : goal.returns-in-Err-Bad-clause-ok
returns-in-Err-Bad-clause-ok g c =
    let w = c.args.bytes.now in
    let frame = c.frame_of.result in
    let fault = c.in-Err-Bad.fault in
    let p = judged frame.type_name.now frame.blob.now w (Err fault) in (
      p,
      is-judged-bad c.args.at frame.type_name.now frame.blob.now w fault c.frame_of.ensures.frame.1 (rw c.in-Err-Bad.field-0-is at (c.in-Err-Bad.ensures.bad w c.frame_of.ensures.whole)),
      λ start before h. wrote-fault start before _ _ c.args.at c.number.result c.name.result.now fault c.number.ensures c.name.ensures (c.put_fault_at.ensures start before h),
      λ blobs is. bad-counted blobs p fault c.add_fault.new.self refl
          (c.add_fault.ensures (length blobs + 1) (bad_in blobs + 0) (all_in blobs) (c.add_blob-in-Err-Bad.ensures (length blobs) (bad_in blobs + 0) (all_in blobs) is)),
    )
