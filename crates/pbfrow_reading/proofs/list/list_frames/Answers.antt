use Rattle.std.proofs.Common.{◌≡◌, [], ◌∷◌, ◌++◌, refl, rules}
use Rattle.osm_reading.specs.FrameReads.{GivesFrame, Halts}
use Rattle.pbfrow_reading.specs.Listing.{Plain, HasAny, listed_line}
use Rattle.pbfrow_reading.proofs.Walking.{going-none, going-on, going-more, tells-early, tells-nothing, tells-unwritten}
use Rattle.pbfrow_reading.proofs.list.list_frames.Goals as goal

pub returns-in-Err : goal.returns-in-Err
returns-in-Err g c = ([], tells-nothing HasAny listed_line (g.R.Read.remaining c.args.input.now) (g.W.Write.contents c.args.out.now.writer) c.args.out.now.has_failed c.in-Err.stop c.in-Err.ensures.err)

pub loop-frames-init : goal.loop-frames-init
loop-frames-init g c =
    let left = g.R.Read.remaining c.args.input.now in
    let here : c.in-Ok.frames.offset ≡ 0 = search rules in
    let same : c.in-Ok.frames.left ≡ left = search rules in
    ([], going-none HasAny listed_line left (g.W.Write.contents c.args.out.now.writer) c.in-Ok.frames c.args.out.now.has_failed here same)

pub returns-in_default : goal.returns-in_default
returns-in_default g c =
    let so_far = c.loop-frames.invariant in
    (so_far.0, tells-unwritten HasAny listed_line _ _ _ _ _ _ _ _ c.in_default.ensures.err c.in_default.ensures.kept so_far.1)

pub loop-frames-preserved : goal.loop-frames-preserved
loop-frames-preserved g c =
    let frames = c.loop-frames.invariant.0 in
    let fine = c.in-Ok-flush_to_wait.ensures in
    let so_far = going-on HasAny listed_line _ _ _ _ _ (g.W.Write.contents c.flush_to_wait.new.out.writer) _ c.flush_to_wait.new.out.has_failed _ fine.frames fine.ok.0 fine.kept c.loop-frames.invariant.1 in
    let gives : GivesFrame c.flush_to_wait.new.frames c.next.follows.lender-at-none c.in-Ok-Some.at c.in-Ok-Some.bytes.now = rw (c.in-Ok-Some.is, c.in-Ok-Some.field-0-is) at c.next.follows.holds-at-none in
    let frame = c.frame_of.result in
    let p : Plain = record { type_name = frame.type_name.now; blob = frame.blob.now; bytes = c.in-Ok-Some.bytes.now; found = tt } in (
      frames ++ p ∷ [],
      going-more HasAny listed_line _ _ _ c.in-Ok-Some.at c.in-Ok-Some.bytes.now _ _ (g.W.Write.contents c.put_frame.new.out.writer) _ c.put_frame.new.out.has_failed frames p so_far gives refl
          c.frame_of.ensures.frame.1 tt c.put_frame.ensures,
    )

pub returns-in-Err-next : goal.returns-in-Err-next
returns-in-Err-next g c =
    let frames = c.loop-frames.invariant.0 in
    let fine = c.in-Ok-flush_to_wait.ensures in
    let so_far = going-on HasAny listed_line _ _ _ _ _ (g.W.Write.contents c.flush_to_wait.new.out.writer) _ c.flush_to_wait.new.out.has_failed _ fine.frames fine.ok.0 fine.kept c.loop-frames.invariant.1 in
    let halts : Halts c.flush_to_wait.new.frames c.next.follows.lender-at-none c.in-Err-next.stop = rw c.in-Err-next.is at c.next.follows.holds-at-none in
    (frames, tells-early HasAny listed_line _ _ _ _ _ _ frames c.in-Err-next.stop so_far halts)
