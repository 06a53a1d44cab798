use Rattle.std.proofs.Common.{◌≡◌, ◌&&◌, [], ◌∷◌, ◌++◌, Some, None, sym, ap, subst, ◌∙◌, rules}
use Rattle.osm_reading.specs.FrameReads.{GivesFrame, Halts}
use Rattle.pbfrow_reading.specs.Showing.{ShowsBlobs, shown_lines}
use Rattle.pbfrow_reading.specs.Verdicts.{HasVerdict, all_good}
use Rattle.pbfrow_reading.specs.declared.input.Ending.{Ending}
use Rattle.pbfrow_reading.proofs.ShowLemmas.{all-push, shows-blobs, shows-refused}
use Rattle.pbfrow_reading.proofs.Walking.{going-none, going-on, going-more, tells-early, tells-nothing, tells-unwritten}
use Rattle.pbfrow_reading.proofs.show.show_blobs.Goals as goal

pub returns-in-Err : goal.returns-in-Err
returns-in-Err g c = ([], None, shows-blobs _ _ _ _ _ _ (tells-nothing HasVerdict shown_lines (g.R.Read.remaining c.args.input.now) (g.W.Write.contents c.args.out.now.writer) c.args.out.now.has_failed c.in-Err.stop c.in-Err.ensures.err), c.requires)

pub loop-frames-init : goal.loop-frames-init
loop-frames-init g c =
    let left = g.R.Read.remaining c.args.input.now in
    let here : c.in-Ok.frames.offset ≡ 0 = search rules in
    let same : c.in-Ok.frames.left ≡ left = search rules in
    ([], going-none HasVerdict shown_lines left (g.W.Write.contents c.args.out.now.writer) c.in-Ok.frames c.args.out.now.has_failed here same, c.requires)

pub returns-in_default : goal.returns-in_default
returns-in_default g c =
    let so_far = c.loop-frames.invariant in
    (so_far.0, None, shows-blobs _ _ _ _ _ _ (tells-unwritten HasVerdict shown_lines _ _ _ _ _ _ _ _ c.in_default.ensures.err c.in_default.ensures.kept so_far.1), so_far.2)

pub loop-frames-preserved : goal.loop-frames-preserved
loop-frames-preserved g c =
    let frames = c.loop-frames.invariant.0 in
    let fine = c.in-Ok-flush_to_wait.ensures in
    let so_far = going-on HasVerdict shown_lines _ _ _ _ _ (g.W.Write.contents c.flush_to_wait.new.out.writer) _ c.flush_to_wait.new.out.has_failed _ fine.frames fine.ok.0 fine.kept c.loop-frames.invariant.1 in
    let gives : GivesFrame c.flush_to_wait.new.frames c.next.follows.lender-at-none c.in-Ok-Some.at c.in-Ok-Some.bytes.now = rw (c.in-Ok-Some.is, c.in-Ok-Some.field-0-is) at c.next.follows.holds-at-none in
    let shown = c.in-Ok-show_blob.ensures.ok in
    let p = shown.0 in (
      frames ++ p ∷ [],
      going-more HasVerdict shown_lines _ _ _ c.in-Ok-Some.at c.in-Ok-Some.bytes.now _ _ (g.W.Write.contents c.show_blob.new.out.writer) _ c.show_blob.new.out.has_failed frames p so_far gives shown.1.0
          shown.1.1 shown.1.2 shown.2,
      ap (λ b. b && c.in-Ok-show_blob.is_next_good) c.loop-frames.invariant.2 ∙ ap (λ b. all_good frames && b) shown.3 ∙ sym (all-push frames p),
    )

pub returns-in-Err-next : goal.returns-in-Err-next
returns-in-Err-next g c =
    let frames = c.loop-frames.invariant.0 in
    let fine = c.in-Ok-flush_to_wait.ensures in
    let so_far = going-on HasVerdict shown_lines _ _ _ _ _ (g.W.Write.contents c.flush_to_wait.new.out.writer) _ c.flush_to_wait.new.out.has_failed _ fine.frames fine.ok.0 fine.kept c.loop-frames.invariant.1 in
    let halts : Halts c.flush_to_wait.new.frames c.next.follows.lender-at-none c.in-Err-next.stop = rw c.in-Err-next.is at c.next.follows.holds-at-none in
    (frames, None, shows-blobs _ _ _ _ _ _ (tells-early HasVerdict shown_lines _ _ _ _ _ _ frames c.in-Err-next.stop so_far halts), c.loop-frames.invariant.2)

pub returns-in-Err-show_blob : goal.returns-in-Err-show_blob
returns-in-Err-show_blob g c =
    let frames = c.loop-frames.invariant.0 in
    let fine = c.in-Ok-flush_to_wait.ensures in
    let so_far = going-on HasVerdict shown_lines _ _ _ _ _ (g.W.Write.contents c.flush_to_wait.new.out.writer) _ c.flush_to_wait.new.out.has_failed _ fine.frames fine.ok.0 fine.kept c.loop-frames.invariant.1 in
    let gives : GivesFrame c.flush_to_wait.new.frames c.next.follows.lender-at-none c.in-Ok-Some.at c.in-Ok-Some.bytes.now = rw (c.in-Ok-Some.is, c.in-Ok-Some.field-0-is) at c.next.follows.holds-at-none in
    let begun = c.in-Err-show_blob.ensures.err in
    let written = g.W.Write.contents c.show_blob.new.out.writer in (
      frames,
      Some begun.0,
      subst (λ (e : Ending). ShowsBlobs (g.R.Read.remaining c.args.input.now) (g.W.Write.contents c.args.out.now.writer) written c.show_blob.new.out.has_failed frames (Some begun.0) e) (sym c.without_memory.ensures)
          (shows-refused _ _ _ c.in-Ok-Some.at c.in-Ok-Some.bytes.now _ _ written _ c.show_blob.new.out.has_failed frames begun.0 so_far gives begun.1 begun.2 begun.3),
      c.loop-frames.invariant.2,
    )
