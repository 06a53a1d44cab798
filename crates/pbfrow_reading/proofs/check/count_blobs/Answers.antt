use Rattle.std.proofs.Common.{◌≡◌, [], ◌∷◌, ◌++◌, sym, subst, ◌∙◌, rules}
use Rattle.osm_reading.specs.FrameReads.{GivesFrame, Halts}
use Rattle.pbfrow_reading.specs.Checking.{checked_line}
use Rattle.pbfrow_reading.specs.Verdicts.{HasVerdict}
use Rattle.pbfrow_reading.specs.Walks.{TellsFrames}
use Rattle.pbfrow_reading.proofs.Walking.{going-none, going-on, going-more, tells-early, tells-nothing, tells-refused, tells-unwritten}
use Rattle.pbfrow_reading.proofs.check.count_blobs.Goals as goal

pub returns-in-Err : goal.returns-in-Err
returns-in-Err g c = ([], tells-nothing HasVerdict checked_line (g.R.Read.remaining c.args.input.now) (g.W.Write.contents c.args.out.now.writer) c.args.out.now.has_failed c.in-Err.stop c.in-Err.ensures.err, c.requires)

pub loop-frames-init : goal.loop-frames-init
loop-frames-init g c =
    let left = g.R.Read.remaining c.args.input.now in
    let here : c.in-Ok.frames.offset ≡ 0 = search rules in
    let same : c.in-Ok.frames.left ≡ left = search rules in
    ([], going-none HasVerdict checked_line left (g.W.Write.contents c.args.out.now.writer) c.in-Ok.frames c.args.out.now.has_failed here same, c.requires)

pub returns-in_default : goal.returns-in_default
returns-in_default g c =
    let so_far = c.loop-frames.invariant in
    (so_far.0, tells-unwritten HasVerdict checked_line _ _ _ _ _ _ _ _ c.in_default.ensures.err c.in_default.ensures.kept so_far.1, so_far.2)

pub loop-frames-preserved : goal.loop-frames-preserved
loop-frames-preserved g c =
    let frames = c.loop-frames.invariant.0 in
    let fine = c.in-Ok-flush_to_wait.ensures in
    let so_far = going-on HasVerdict checked_line _ _ _ _ _ (g.W.Write.contents c.flush_to_wait.new.out.writer) _ c.flush_to_wait.new.out.has_failed _ fine.frames fine.ok.0 fine.kept c.loop-frames.invariant.1 in
    let gives : GivesFrame c.flush_to_wait.new.frames c.next.follows.lender-at-none c.in-Ok-Some.at c.in-Ok-Some.bytes.now = rw (c.in-Ok-Some.is, c.in-Ok-Some.field-0-is) at c.next.follows.holds-at-none in
    let counted = c.in-Ok-count_blob.ensures.ok in
    let p = counted.0 in (
      frames ++ p ∷ [],
      going-more HasVerdict checked_line _ _ _ c.in-Ok-Some.at c.in-Ok-Some.bytes.now _ _ (g.W.Write.contents c.count_blob.new.out.writer) _ c.count_blob.new.out.has_failed frames p so_far gives counted.1.0
          counted.1.1 counted.1.2 counted.2,
      counted.3 frames c.loop-frames.invariant.2,
    )

pub returns-in-Err-next : goal.returns-in-Err-next
returns-in-Err-next g c =
    let frames = c.loop-frames.invariant.0 in
    let fine = c.in-Ok-flush_to_wait.ensures in
    let so_far = going-on HasVerdict checked_line _ _ _ _ _ (g.W.Write.contents c.flush_to_wait.new.out.writer) _ c.flush_to_wait.new.out.has_failed _ fine.frames fine.ok.0 fine.kept c.loop-frames.invariant.1 in
    let halts : Halts c.flush_to_wait.new.frames c.next.follows.lender-at-none c.in-Err-next.stop = rw c.in-Err-next.is at c.next.follows.holds-at-none in
    (frames, tells-early HasVerdict checked_line _ _ _ _ _ _ frames c.in-Err-next.stop so_far halts, c.loop-frames.invariant.2)

pub returns-in-Err-count_blob : goal.returns-in-Err-count_blob
returns-in-Err-count_blob g c =
    let frames = c.loop-frames.invariant.0 in
    let fine = c.in-Ok-flush_to_wait.ensures in
    let so_far = going-on HasVerdict checked_line _ _ _ _ _ (g.W.Write.contents c.flush_to_wait.new.out.writer) _ c.flush_to_wait.new.out.has_failed _ fine.frames fine.ok.0 fine.kept c.loop-frames.invariant.1 in
    let gives : GivesFrame c.flush_to_wait.new.frames c.next.follows.lender-at-none c.in-Ok-Some.at c.in-Ok-Some.bytes.now = rw (c.in-Ok-Some.is, c.in-Ok-Some.field-0-is) at c.next.follows.holds-at-none in
    let same = c.in-Err-count_blob.ensures.err in (
      frames,
      subst (λ o. TellsFrames HasVerdict checked_line (g.R.Read.remaining c.args.input.now) (g.W.Write.contents c.args.out.now.writer) (g.W.Write.contents o.writer) o.has_failed frames c.without_memory.result) (sym same.0)
          (tells-refused HasVerdict checked_line _ _ _ c.in-Ok-Some.at c.in-Ok-Some.bytes.now _ _ _ frames c.without_memory.result so_far gives c.without_memory.ensures),
      same.1 ∙ c.loop-frames.invariant.2,
    )
