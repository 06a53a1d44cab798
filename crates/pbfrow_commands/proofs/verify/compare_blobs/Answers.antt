use Rattle.std.proofs.Common.{◌≡◌, ◌≤◌, ◌∙◌, ◌++◌, [], ◌∷◌, Ok, None, refl, sym, subst, ap, arith, rules}
use Rattle.osm_verify.specs.Audits.{Trees}
use Rattle.osm_reading.specs.FrameReads.{GivesFrame, Halts, Reading, ReadsFrame}
use Rattle.pbfrow_commands.specs.Verifying.{HasCompared, HasSeen, ComparesBlobs, IsBroken, compared_lines}
use Rattle.pbfrow_commands.specs.declared.verify.Close.TheVariants.{Broken}
use Rattle.pbfrow_commands.proofs.VerifyLemmas.{Reads, reads-none, reads-more, rows-held, rows-push, seen-whole, cause-later, closing-later, closes-nothing, closes-early, closes-broken, closes-unwritten, closes-whole}
use Rattle.pbfrow_reading.proofs.Walking.{going-none, going-on, going-more}
use Rattle.pbfrow_commands.proofs.verify.compare_blobs.Goals as goal

pub returns-in-Err-clause-told : goal.returns-in-Err-clause-told
returns-in-Err-clause-told g c = λ held holds honest.
    ([], closes-nothing c.args.depth held (g.R.Read.remaining c.args.input.now) (g.W.Write.contents c.args.out.now.writer) c.args.out.now.has_failed _ _ c.in-Err.stop c.in-Err.ensures.err, c.requires)

pub loop-frames-init : goal.loop-frames-init
loop-frames-init g c =
    let left = g.R.Read.remaining c.args.input.now in
    let here : c.in-Ok.frames.offset ≡ 0 = search rules in
    let same : c.in-Ok.frames.left ≡ left = search rules in
    record {
      honest = λ h. h;
      open_if = λ o. o;
      kept = λ h held holds. holds;
      crash = λ h held leaves. leaves;
      whole = λ h was. was;
      counted = omega arith;
      end = sym here;
      limit = omega arith;
      going = λ held holds honest. ([], going-none (HasCompared c.args.depth held) compared_lines left (g.W.Write.contents c.args.out.now.writer) c.in-Ok.frames c.args.out.now.has_failed here same, c.requires, refl);
      same = λ honest up. g.met.K.BlobReader.same_tables_self _;
      reads = ([], reads-none _ _ _ left _ _ _ here same c.requires refl);
    }

pub returns-in_default-clause-told : goal.returns-in_default-clause-told
returns-in_default-clause-told g c = λ held holds honest.
    let before = c.loop-frames.invariant.going held holds honest in
    (before.0, closes-unwritten c.args.depth held _ _ _ _ _ _ _ _ _ _ c.in_default.ensures.err c.in_default.ensures.kept before.1, before.2)

pub loop-frames-preserved : goal.loop-frames-preserved
loop-frames-preserved g c =
    let gives : GivesFrame c.flush_to_wait.new.frames c.next.follows.lender-at-none c.in-Ok-Some.at c.in-Ok-Some.bytes.now = rw (c.in-Ok-Some.is, c.in-Ok-Some.field-0-is) at c.next.follows.holds-at-none in
    let inv = c.loop-frames.invariant in
    let ok = c.in-Ok-compare_blob.ensures in
    let stays = ok.reads.rereads.stays in
    let end : c.in-Ok-compare_blob.next ≡ c.next.follows.lender-at-none.offset = ok.end ∙ sym gives.next in
    record {
      honest = λ h. inv.honest (stays.honest h);
      open_if = λ o. inv.open_if (stays.open_if o);
      kept = λ h held holds. ok.reads.rereads.ok h held (inv.kept (stays.honest h) held holds);
      crash = λ h held leaves. inv.crash (stays.honest h) held (stays.crash h held leaves);
      whole = λ h was. stays.whole h (inv.whole (stays.honest h) was);
      counted = omega (arith, inv.counted, ok.reads.counted);
      end = end;
      limit = subst (λ n. n ≤ 4611686018427387904) (sym end) gives.limit;
      going = λ held holds honest.
          let fine = c.in-Ok-flush_to_wait.ensures in
          let before = c.loop-frames.invariant.going held holds (stays.honest honest) in
          let blobs = before.0 in
          let so_far = going-on (HasCompared c.args.depth held) compared_lines _ _ _ _ _ (g.W.Write.contents c.flush_to_wait.new.out.writer) _ c.flush_to_wait.new.out.has_failed _ fine.frames fine.ok.0 fine.kept before.1 in
          let told = ok.told held (inv.kept (stays.honest honest) held holds) honest in
          let p = told.0 in (
            blobs ++ p ∷ [],
            going-more (HasCompared c.args.depth held) compared_lines _ _ _ c.in-Ok-Some.at c.in-Ok-Some.bytes.now _ _ (g.W.Write.contents c.compare_blob.new.out.writer) _ c.compare_blob.new.out.has_failed blobs p
                so_far gives told.1.bytes_are told.1.is_part told.2 told.3,
            told.1.counted blobs before.2,
            rows-push blobs p _ _ told.1.rows before.3,
          );
      same = λ honest up. g.met.K.BlobReader.same_tables_then _ _ _ (inv.same (stays.honest honest) (stays.open_if up)) (ok.reads.same honest up);
      reads =
          let K = g.K.BlobReader in
          let A = g.K.Audited in
          let fine = c.in-Ok-flush_to_wait.ensures in
          let first = c.args.store.now in
          let before = inv.reads in
          let blobs = before.0 in
          let db = A.trees first in
          let so_far = subst (λ (r : Reading). Reads (K.is_honest c.loop-frames.store × K.is_open c.loop-frames.store × A.has_tables first) (A.has_rows db) c.args.depth (g.R.Read.remaining c.args.input.now) r c.loop-frames.counts c.loop-frames.rows blobs)
          (sym fine.frames) before.1 in
          let told = ok.seen in
          let p = told.0 in (
            blobs ++ p ∷ [],
            reads-more _ (K.is_honest c.compare_blob.new.store × K.is_open c.compare_blob.new.store × A.has_tables first) (A.has_rows db) c.args.depth _ _ _ c.in-Ok-Some.at c.in-Ok-Some.bytes.now _ _ _ _ blobs p
                (λ trust. (stays.honest trust.0, stays.open_if trust.1, trust.2)) so_far gives told.1.bytes_are told.1.is_part told.2 told.1.counted told.1.rows
                (λ trust.
                let same = inv.same (stays.honest trust.0) (stays.open_if trust.1) in
                subst (λ (db : Trees). HasSeen (A.has_rows db) c.args.depth c.in-Ok-Some.at p) (g.met.K.Audited.same_trees _ _ same) (told.3 trust.0 trust.1 (g.met.K.Audited.same_has_tables _ _ same trust.2))),
          );
    }

pub returns-in-Err-compare_blob-clause-told : goal.returns-in-Err-compare_blob-clause-told
returns-in-Err-compare_blob-clause-told g c = λ held holds honest.
    let failed = c.in-Err-compare_blob.ensures in
    let earlier = failed.reads.rereads.stays.honest honest in
    let fine = c.in-Ok-flush_to_wait.ensures in
    let before = c.loop-frames.invariant.going held holds earlier in
    let blobs = before.0 in
    let so_far = going-on (HasCompared c.args.depth held) compared_lines _ _ _ _ _ (g.W.Write.contents c.flush_to_wait.new.out.writer) _ c.flush_to_wait.new.out.has_failed _ fine.frames fine.ok.0 fine.kept before.1 in
    let gives : GivesFrame c.flush_to_wait.new.frames c.next.follows.lender-at-none c.in-Ok-Some.at c.in-Ok-Some.bytes.now = rw (c.in-Ok-Some.is, c.in-Ok-Some.field-0-is) at c.next.follows.holds-at-none in
    let first = g.K.BlobReader.failures c.args.store.now in
    let last = g.K.BlobReader.failures c.compare_blob.new.store in
    let fault = c.in-Err-compare_blob.fault in
    let broken : IsBroken first last fault = record {
      cause = cause-later first _ last fault c.loop-frames.invariant.counted failed.reads.cause;
      own = failed.reads.own held (c.loop-frames.invariant.kept earlier held holds) honest;
    } in
    let same = failed.err in (
      blobs,
      subst (λ o. ComparesBlobs c.args.depth held (g.R.Read.remaining c.args.input.now) (g.W.Write.contents c.args.out.now.writer) (g.W.Write.contents o.writer) o.has_failed first last blobs (Broken fault c.in-Ok-Some.at)) (sym same.0)
          (closes-broken c.args.depth held _ _ _ _ _ first last blobs fault c.in-Ok-Some.at so_far gives.here broken),
      same.1 ∙ before.2,
    )

pub returns-in-Ok-None-clause-told : goal.returns-in-Ok-None-clause-told
returns-in-Ok-None-clause-told g c = λ held holds honest.
    let earlier = c.close_whole.ensures.stays.honest honest in
    let fine = c.in-Ok-flush_to_wait.ensures in
    let before = c.loop-frames.invariant.going held holds earlier in
    let blobs = before.0 in
    let so_far = going-on (HasCompared c.args.depth held) compared_lines _ _ _ _ _ (g.W.Write.contents c.flush_to_wait.new.out.writer) _ c.flush_to_wait.new.out.has_failed _ fine.frames fine.ok.0 fine.kept before.1 in
    let ends : ReadsFrame c.flush_to_wait.new.frames c.next.follows.lender-at-none (Ok None) = rw (c.in-Ok-None.is, c.in-Ok-None.field-0-is) at c.next.follows.holds-at-none in
    let here : c.loop-frames.end ≡ c.flush_to_wait.new.frames.offset = c.loop-frames.invariant.end ∙ sym (ap (λ (r : Reading). r.offset) fine.frames) in
    let kept = c.loop-frames.invariant.kept earlier held holds in
    let rows = rows-held c.args.depth held blobs c.loop-frames.end _ _ (g.met.K.BlobReader.is_apart _ held kept) before.1.found (here ∙ so_far.stands) before.2 before.3 in
    let closing = closing-later held c.loop-frames.end (g.K.BlobReader.failures c.args.store.now) _ _ c.close_whole.result c.loop-frames.invariant.counted (c.close_whole.ensures.extras held kept honest rows) in (
      blobs,
      closes-whole c.args.depth held _ _ _ _ _ _ _ blobs c.loop-frames.end c.close_whole.result so_far ends.0 here closing,
      before.2,
    )

pub returns-in-Err-next-clause-told : goal.returns-in-Err-next-clause-told
returns-in-Err-next-clause-told g c = λ held holds honest.
    let fine = c.in-Ok-flush_to_wait.ensures in
    let before = c.loop-frames.invariant.going held holds honest in
    let blobs = before.0 in
    let so_far = going-on (HasCompared c.args.depth held) compared_lines _ _ _ _ _ (g.W.Write.contents c.flush_to_wait.new.out.writer) _ c.flush_to_wait.new.out.has_failed _ fine.frames fine.ok.0 fine.kept before.1 in
    let halts : Halts c.flush_to_wait.new.frames c.next.follows.lender-at-none c.in-Err-next.stop = rw c.in-Err-next.is at c.next.follows.holds-at-none in
    (blobs, closes-early c.args.depth held _ _ _ _ _ _ _ _ blobs c.in-Err-next.stop so_far halts, before.2)

-- ---- whatever rows the tables have

pub returns-in-Ok-None-clause-seen : goal.returns-in-Ok-None-clause-seen
returns-in-Ok-None-clause-seen g c = λ honest tables.
    let K = g.K.BlobReader in
    let A = g.K.Audited in
    let stays = c.close_whole.ensures.stays in
    let inv = c.loop-frames.invariant in
    let fine = c.in-Ok-flush_to_wait.ensures in
    let was = c.flush_to_wait.new.frames in
    let now = c.next.follows.lender-at-none in
    let first = c.args.store.now in
    let before = inv.reads in
    let so_far = subst (λ (r : Reading). Reads (K.is_honest c.loop-frames.store × K.is_open c.loop-frames.store × A.has_tables first) (A.has_rows (A.trees first)) c.args.depth (g.R.Read.remaining c.args.input.now) r c.loop-frames.counts c.loop-frames.rows before.0)
    (sym fine.frames) before.1 in
    let ends : ReadsFrame was now (Ok None) = rw (c.in-Ok-None.is, c.in-Ok-None.field-0-is) at c.next.follows.holds-at-none in
    seen-whole _ (K.is_open c.close_whole.new.store) (A.has_tables c.loop-frames.store) (A.has_rows (A.trees first)) A.layout (A.trees first) (A.trees c.loop-frames.store) c.args.depth _ was _ _ before.0 c.close_whole.result so_far ends.0
    (λ up. (stays.honest honest, stays.open_if up, tables))
    (λ up.
    let same = inv.same (stays.honest honest) (stays.open_if up) in
    (g.met.K.Audited.same_trees _ _ same, g.met.K.Audited.same_has_tables _ _ same tables)) (c.close_whole.ensures.shown honest)
