use Rattle.std.proofs.Common.{◌≡◌, ◌+◌, ◌∙◌, [], ◌∷◌, ◌++◌, take, Ok, Err, refl, sym, subst, ap, inr, arith, rules}
use Rattle.osm_rows.specs.Held.{HeldMap}
use Rattle.osm_import.specs.Copies.{IsMerged}
use Rattle.osm_import.specs.Stores.{Keeps}
use Rattle.osm_import.proofs.CopiesLemmas.{copies-push, counted-push, copies-same, keeps-same, keeps-then}
use Rattle.osm_import.proofs.CopyLemmas.{IsAt, at_blob, taken_more, taken_below, taken_all, counted_all, merged_none, merged_step, crash_below, stops_at, cause_wider, tells_on, held_more, held_by, held_all, already}
use Rattle.osm_import.proofs.WalkLemmas.{read-is}
use Rattle.osm_import.proofs.copy.copy_blobs.Goals as goal
use Rattle.osm_import.proofs.copy.copy_blobs.Goals.{in-Added, in-AlreadyHeld}

pub loop-extent-init : goal.loop-extent-init
loop-extent-init g c = record {
  counts = refl;
  from_honest = λ h. h;
  from_open_if = λ h. h;
  from_kept = λ h source holds. holds;
  from_crash = λ h source left. left;
  from_whole = λ h maps. maps;
  from_counted = omega arith;
  honest = λ h. h;
  open_if = λ h. h;
  counted = omega arith;
  told = (refl, refl);
  kept = λ held holds honest. (held, keeps-same held, holds);
  list = λ held holds honest rows lists. lists;
  each = ([], (refl, refl), (refl, refl, refl));
  merged = λ source held from_holds from_honest holds honest are. (held, merged_none (λ off. IsAt [] off) source held (λ off none. none), holds, refl);
}

pub loop-extent-preserved : goal.loop-extent-preserved
loop-extent-preserved g c =
    let T = g.T.BlobReader in
    let new_held : c.match-answer.held ≡ c.loop-extent.held + already c.in-Ok.answer = elim c.match-answer.branch [
      | in-Added w ↦ (let known = w.in-Added.is in let same = ap already known in let kept = w.held-is in omega (arith, same, kept))
      | in-AlreadyHeld w ↦ (let known = w.in-AlreadyHeld.is in let same = ap already known in let more = w.held-is in omega (arith, same, more))
    ] in
    let inv = c.loop-extent.invariant in
    let made = c.in-Ok.ensures in
    let counts : c.match-answer.copied + c.match-answer.held ≡ c.loop-extent.extent-index + 1 = search rules in
    record {
      counts = counts;
      from_honest = λ h. inv.from_honest (made.source.stays.honest h);
      from_open_if = λ h. inv.from_open_if (made.source.stays.open_if h);
      from_kept = λ h source holds. made.source.ok h source (inv.from_kept (made.source.stays.honest h) source holds);
      from_crash = λ h source left. inv.from_crash (made.source.stays.honest h) source (made.source.stays.crash h source left);
      from_whole = λ h maps. made.source.stays.whole h (inv.from_whole (made.source.stays.honest h) maps);
      from_counted = omega (arith, inv.from_counted, made.counted.0);
      honest = λ h. inv.honest (made.honest h);
      open_if = λ h. inv.open_if (made.open_if h);
      counted = omega (arith, inv.counted, made.counted.1);
      told = (made.told.0 ∙ inv.told.0, made.told.1 ∙ inv.told.1);
      kept = λ held holds honest.
          let before = inv.kept held holds (made.honest honest) in
          let step = (made.kept before.0 before.2 honest).ok in
          (step.0, keeps-then held before.0 step.0 before.1 step.1, step.2);
      list = λ held holds honest rows lists. (let before = inv.kept held holds (made.honest honest) in made.list before.0 before.2 honest rows (inv.list held holds (made.honest honest) rows lists));
      each = (
        inv.each.0 ++ (_, Ok c.in-Ok.answer) ∷ [],
        copies-push g.F.BlobReader T c.args.from.now c.loop-extent.from c.copy_blob.new.from c.args.to.now c.loop-extent.to c.copy_blob.new.to inv.each.0 _ inv.each.1 made,
        counted-push inv.each.0 _ c.in-Ok.answer c.loop-extent.copied c.loop-extent.held c.match-answer.copied c.match-answer.held inv.each.2 new_held (omega (arith, inv.counts, counts)),
      );
      merged = λ source held from_holds from_honest holds honest are.
          let before = inv.merged source held from_holds (made.source.stays.honest from_honest) holds (made.honest honest) are in
          let is = read-is c.args.extents.now c.loop-extent.extent-index _ _ (omega arith) in
          let at = at_blob source c.args.extents.now c.loop-extent.extent-index _ are (omega arith) is in
          let from_now = inv.from_kept (made.source.stays.honest from_honest) source from_holds in
          let step = made.step source before.0 at.blob from_now from_honest before.2 honest at.found at.same in (
            step.0,
            taken_more c.args.extents.now c.loop-extent.extent-index _ source held step.0 (omega arith) is
                (merged_step (λ off. IsAt (take c.loop-extent.extent-index c.args.extents.now) off) source held before.0 step.0 _ at.blob c.in-Ok.answer before.1 (g.met.T.BlobReader.is_apart _ before.0 before.2)
                ((g.met.F.BlobReader.is_apart _ source from_now).filled _ at.blob at.found) at.found step.1),
            step.2,
            held_more source held c.args.extents.now c.loop-extent.extent-index _ c.loop-extent.held _ are (omega arith) is before.3
                (new_held ∙ ap (λ n. c.loop-extent.held + n) (sym (held_by source held before.0 step.0 c.args.extents.now c.loop-extent.extent-index _ at.blob c.in-Ok.answer are (omega arith) is before.1 (g.met.T.BlobReader.is_apart _ before.0 before.2)
                ((g.met.F.BlobReader.is_apart _ source from_now).filled _ at.blob at.found) at.found step.1))),
          );
    }

pub returns-in-Err : goal.returns-in-Err
returns-in-Err g c =
    let F = g.F.BlobReader in
    let T = g.T.BlobReader in
    let inv = c.loop-extent.invariant in
    let made = c.in-Err.ensures in
    let is = read-is c.args.extents.now c.loop-extent.extent-index _ _ (omega arith) in
    record {
      copies = λ source held of from_honest holds honest.
          let before = inv.merged source held of.0 (made.source.stays.honest from_honest) holds (made.honest honest) of.1 in
          let at = at_blob source c.args.extents.now c.loop-extent.extent-index _ of.1 (omega arith) is in
          let from_now = inv.from_kept (made.source.stays.honest from_honest) source of.0 in
          stops_at (T.is_open c.copy_blob.new.to) (T.holds c.copy_blob.new.to) source held before.0 _ at.blob c.in-Err.fault
          (taken_below c.args.extents.now c.loop-extent.extent-index _ source held before.0 of.1 (omega arith) is before.1) at.found
          (made.step source before.0 at.blob from_now from_honest before.2 honest at.found at.same);
      reached = λ source of from_honest. (let at = at_blob source c.args.extents.now c.loop-extent.extent-index _ of.1 (omega arith) is in inr (at.blob, at.found));
      crash = λ source held of from_honest holds honest left leaves.
          let before = inv.merged source held of.0 (made.source.stays.honest from_honest) holds (made.honest honest) of.1 in
          let at = at_blob source c.args.extents.now c.loop-extent.extent-index _ of.1 (omega arith) is in
          let from_now = inv.from_kept (made.source.stays.honest from_honest) source of.0 in
          crash_below source held before.0 left _ at.blob (taken_below c.args.extents.now c.loop-extent.extent-index _ source held before.0 of.1 (omega arith) is before.1) (g.met.T.BlobReader.is_apart _ before.0 before.2)
          ((g.met.F.BlobReader.is_apart _ source from_now).filled _ at.blob at.found) at.found
          (made.crash source before.0 at.blob from_now from_honest before.2 honest at.found at.same left leaves);
      kept = λ held holds honest.
          let before = inv.kept held holds (made.honest honest) in
          let kept = made.kept before.0 before.2 honest in
          record {
            ok = tt;
            err = λ up. (let now = kept.err up in (now.0, keeps-then held before.0 now.0 before.1 now.1, now.2));
            crash = λ left leaves. keeps-then held before.0 left before.1 (kept.crash left leaves);
          };
      whole = λ held holds honest. (let before = inv.kept held holds (made.honest honest) in made.whole before.0 before.2 honest);
      list = λ held holds honest rows lists. (let before = inv.kept held holds (made.honest honest) in made.list before.0 before.2 honest rows (inv.list held holds (made.honest honest) rows lists));
      source = record {
        stays = record {
          honest = λ h. inv.from_honest (made.source.stays.honest h);
          open_if = λ up. inv.from_open_if (made.source.stays.open_if up);
          kept = λ h up source holds. made.source.stays.kept h up source (inv.from_kept (made.source.stays.honest h) source holds);
          crash = λ h source left. inv.from_crash (made.source.stays.honest h) source (made.source.stays.crash h source left);
          whole = λ h all. made.source.stays.whole h (inv.from_whole (made.source.stays.honest h) all);
        };
        ok = tt;
      };
      own = λ source held of from_honest holds honest.
          let before = inv.merged source held of.0 (made.source.stays.honest from_honest) holds (made.honest honest) of.1 in
          let at = at_blob source c.args.extents.now c.loop-extent.extent-index _ of.1 (omega arith) is in
          let from_now = inv.from_kept (made.source.stays.honest from_honest) source of.0 in
          made.own source before.0 at.blob from_now from_honest before.2 honest at.found at.same;
      cause = cause_wider (F.failures c.args.from.now) (F.failures c.loop-extent.from) (F.failures c.copy_blob.new.from) (T.failures c.args.to.now) (T.failures c.loop-extent.to) (T.failures c.copy_blob.new.to) c.in-Err.fault
          inv.from_counted inv.counted made.cause;
      told = tells_on (F.failures c.args.from.now) (F.failures c.loop-extent.from) (F.failures c.copy_blob.new.from) (T.failures c.args.to.now) (T.failures c.loop-extent.to) (T.failures c.copy_blob.new.to) c.in-Err.fault
          inv.told.0 inv.told.1 made.told;
      honest = λ h. inv.honest (made.honest h);
      open_if = λ up. inv.open_if (made.open_if up);
      each = record {
        listed = c.args.from.now;
        lists = record { honest = λ h. h; open_if = λ up. up; kept = λ h up held holds. holds; crash = λ h held left. left; whole = λ h all. all };
        copies = inv.each.0 ++ (_, Err c.in-Err.fault) ∷ [];
        each = copies-push F T c.args.from.now c.loop-extent.from c.copy_blob.new.from c.args.to.now c.loop-extent.to c.copy_blob.new.to inv.each.0 _ inv.each.1 made;
        come = inr (inv.each.0, _, refl, refl);
      };
      same = λ honest up. tt;
      counted = (omega (arith, inv.from_counted, made.counted.0), omega (arith, inv.counted, made.counted.1));
    }

pub returns : goal.returns
returns g c =
    let T = g.T.BlobReader in
    let inv = c.loop-extent.invariant in
    record {
      copies = λ source held of from_honest holds honest.
          let made = inv.merged source held of.0 from_honest holds honest of.1 in
          let count = inv.counts in
          let all = counted_all source c.args.extents.now of.1 in
          (made.0, taken_all c.args.extents.now c.loop-extent.extent-index source held made.0 of.1 (omega arith) made.1, made.2, omega (arith, count, all), held_all source held c.args.extents.now c.loop-extent.extent-index _ of.1 (omega arith) made.3);
      reached = λ source of from_honest. tt;
      crash = λ source held of from_honest holds honest left leaves.
          let made = inv.merged source held of.0 from_honest holds honest of.1 in
          subst (λ (h : HeldMap). IsMerged (λ off. Unit {0}) source held h) (sym (g.met.T.BlobReader.settled _ made.0 left made.2 leaves))
          (taken_all c.args.extents.now c.loop-extent.extent-index source held made.0 of.1 (omega arith) made.1);
      kept = λ held holds honest.
          let now = inv.kept held holds honest in
          record { ok = now; err = tt; crash = λ left leaves. subst (Keeps held) (sym (g.met.T.BlobReader.settled _ now.0 left now.2 leaves)) now.1 };
      whole = λ held holds honest. (let now = inv.kept held holds honest in g.met.T.BlobReader.leaves_held _ now.0 now.2);
      list = inv.list;
      source = record {
        stays = record { honest = inv.from_honest; open_if = inv.from_open_if; kept = λ h up source holds. inv.from_kept h source holds; crash = inv.from_crash; whole = inv.from_whole };
        ok = inv.from_kept;
      };
      own = λ source held of from_honest holds honest. tt;
      cause = tt;
      told = inv.told;
      honest = inv.honest;
      open_if = inv.open_if;
      each = record {
        listed = c.args.from.now;
        lists = record { honest = λ h. h; open_if = λ up. up; kept = λ h up held holds. holds; crash = λ h held left. left; whole = λ h all. all };
        copies = inv.each.0;
        each = inv.each.1;
        come = inv.each.2;
      };
      same = λ honest up none.
          copies-same g.F.BlobReader T g.met.T.BlobReader.same_tables_self g.met.T.BlobReader.same_tables_then c.args.from.now c.loop-extent.from c.args.to.now c.loop-extent.to inv.each.0 inv.each.1 honest up
          (sym inv.each.2.0 ∙ none);
      counted = (inv.from_counted, inv.counted);
    }
