use Rattle.std.proofs.Common.{◌<◌, ◌++◌, ◌∷◌, [], List, length, take, Result, Err, refl, sym, subst, arith}
use Rattle.std.proofs.lemmas.List.{take_all}
use Rattle.osm_value.specs.Sink.{Writes}
use Rattle.osm_rows.specs.Held.{HeldMap}
use Rattle.osm_import.specs.declared.copy.CopyCounts.{CopyCounts}
use Rattle.osm_import.specs.Merges.{AreUnited, IsFrontUnited}
use Rattle.osm_import.specs.Stores.{Keeps}
use Rattle.osm_import.proofs.CopiesLemmas.{keeps-same, keeps-then}
use Rattle.osm_import.proofs.HandedOn.{handed}
use Rattle.osm_parts.proofs.PieceLemmas.{held-at}
use Rattle.pbfrow_commands.specs.Merging.{AreCopied, IsTotal, MergesStores, store_lines}
use Rattle.pbfrow_commands.specs.declared.merge.MergeStop.{MergeStop}
use Rattle.pbfrow_commands.proofs.MergingLemmas.{parted, take-next, take-none, copied-front, copied-united, copied-more, left-front, merge-cause-later, line-more, lines-end}
use Rattle.pbfrow_reading.proofs.LineLemmas.{lines-none}
use Rattle.pbfrow_commands.proofs.merge.merge_each.Goals as goal

pub loop-place-init : goal.loop-place-init
loop-place-init g c = record {
  from_honest = λ h. h;
  from_open_if = λ o. o;
  from_kept = λ h maps holds. holds;
  from_counted = omega arith;
  counted = omega arith;
  kept = λ held into_holds into_honest. (held, keeps-same held, into_holds);
  list = λ held into_holds into_honest rows lists. lists;
  honest = λ h. h;
  open_if = λ o. o;
  copied = (
    [],
    refl,
    (λ start before h. lines-none start before _ _ h),
    (λ maps held holds honest all into_holds into_honest. (held, subst (λ (l : List HeldMap). AreCopied l [] held held) (sym (take-none maps)) refl, into_holds)),
  );
}

pub loop-place-preserved : goal.loop-place-preserved
loop-place-preserved g c =
    let inv = c.loop-place.invariant in
    let made = c.in_ok-counts.ensures in
    let so_far = inv.copied.0 in
    let more = c.in_ok-counts.counts in
    record {
      from_honest = λ h. inv.from_honest (made.opens.keeps.honest h);
      from_open_if = λ o. inv.from_open_if (made.opens.keeps.open_if o);
      from_kept = λ h maps holds. made.opens.ok h maps (inv.from_kept (made.opens.keeps.honest h) maps holds);
      from_counted = omega (arith, inv.from_counted, made.counted.0);
      counted = omega (arith, inv.counted, made.counted.1);
      kept = λ held into_holds into_honest.
          let before = inv.kept held into_holds (made.honest into_honest) in
          let step = (made.merges.kept before.0 before.2 into_honest).ok in
          (step.0, keeps-then held before.0 step.0 before.1 step.1, step.2);
      list = λ held into_holds into_honest rows lists.
          let before = inv.kept held into_holds (made.honest into_honest) in
          made.merges.list before.0 before.2 into_honest rows (inv.list held into_holds (made.honest into_honest) rows lists);
      honest = λ h. inv.honest (made.honest h);
      open_if = λ o. inv.open_if (made.open_if o);
      copied = (
        so_far ++ more ∷ [],
        c.sum_of-total.ensures so_far inv.copied.1,
        (λ start before h. line-more start before so_far more _ _ (made.line start _ (inv.copied.2 start before h))),
        (λ maps held holds honest all into_holds into_honest.
            let earlier = made.opens.keeps.honest honest in
            let before = inv.copied.3 maps held holds earlier all into_holds (made.honest into_honest) in
            let low : c.loop-place.place < length maps = omega (arith, all, c.loop-place-test.true) in
            let at = held-at maps c.loop-place.place low in
            let step = made.merges.copies maps at.0 before.0 (inv.from_kept earlier maps holds) honest at.1 before.2 into_honest in (
              step.0,
              subst (λ (l : List HeldMap). AreCopied l (so_far ++ more ∷ []) held step.0) (sym (take-next maps c.loop-place.place at.0 at.1))
                  (copied-more (take c.loop-place.place maps) so_far at.0 held before.0 step.0 more before.1 step.1 step.3 step.4),
              step.2,
            )),
      );
    }

pub returns-clause-merges : goal.returns-clause-merges
returns-clause-merges g c =
    let inv = c.loop-place.invariant in
    let counts = inv.copied.0 in
    let T = g.T.BlobReader in
    let into = c.loop-place.into in (
      counts,
      record {
        merges = λ maps held holds honest all into_holds into_honest.
            let it = inv.copied.3 maps held holds honest all into_holds into_honest in
            (it.0, subst (λ (l : List HeldMap). AreCopied l counts held it.0) (take_all c.loop-place.place maps (omega (arith, all, c.loop-place-test.false))) it.1, it.2);
        crash = λ maps held holds honest all into_holds into_honest left may.
            let it = inv.copied.3 maps held holds honest all into_holds into_honest in
            let copied = subst (λ (l : List HeldMap). AreCopied l counts held it.0) (take_all c.loop-place.place maps (omega (arith, all, c.loop-place-test.false))) it.1 in
            subst (λ (h : HeldMap). IsFrontUnited maps held h) (sym (g.met.T.BlobReader.settled _ it.0 left it.2 may)) (copied-front maps counts held it.0 copied);
        all = λ maps held holds honest all into_holds into_honest left may.
            let it = inv.copied.3 maps held holds honest all into_holds into_honest in
            let copied = subst (λ (l : List HeldMap). AreCopied l counts held it.0) (take_all c.loop-place.place maps (omega (arith, all, c.loop-place-test.false))) it.1 in
            subst (λ (h : HeldMap). AreUnited maps held h) (sym (g.met.T.BlobReader.settled _ it.0 left it.2 may)) (copied-united maps counts held it.0 copied);
        kept = λ held into_holds into_honest.
            let now = inv.kept held into_holds into_honest in
            record {
              ok = now;
              err = tt;
              crash = λ left may. subst (Keeps held) (sym (g.met.T.BlobReader.settled _ now.0 left now.2 may)) now.1;
            };
        whole = λ held into_holds into_honest. (let now = inv.kept held into_holds into_honest in g.met.T.BlobReader.leaves_held _ now.0 now.2);
        list = inv.list;
        own = λ maps held holds honest all into_holds into_honest. tt;
        cause = tt;
      },
      inv.copied.1,
      inv.copied.2,
    )

pub returns-in_err-counts-clause-merges : goal.returns-in_err-counts-clause-merges
returns-in_err-counts-clause-merges g c =
    let O = g.O.Openings in
    let S = g.S.Sink in
    let T = g.T.BlobReader in
    let inv = c.loop-place.invariant in
    let made = c.in_err-counts.ensures in
    let counts = inv.copied.0 in
    let stop = c.in_err-counts.field-0.0 in
    let openings = c.merge_at.new.openings in
    let into = c.merge_at.new.into in
    let out = c.merge_at.new.out in
    let Whole : Result CopyCounts MergeStop → Type 0 = λ r. (counts : List CopyCounts) × MergesStores O.holds O.is_honest O.failures T c.args.openings.now openings c.args.count c.args.into.now into counts r
    × IsTotal counts r × Writes (S.written c.args.out.now) (S.has_failed c.args.out.now) (S.written out) (S.has_failed out) (store_lines counts r) in
    subst Whole (sym (handed c.from_residual.result stop c.from_residual.ensures.1)) (
      counts,
      record {
        merges = λ maps held holds honest all into_holds into_honest.
            let earlier = made.opens.keeps.honest honest in
            let before = inv.copied.3 maps held holds earlier all into_holds (made.honest into_honest) in
            let low : c.loop-place.place < length maps = omega (arith, all, c.loop-place-test.true) in
            let at = held-at maps c.loop-place.place low in
            let rest = parted maps c.loop-place.place at.0 at.1 in
            (take c.loop-place.place maps, at.0, rest.0, rest.1, before.0, before.1, made.merges.copies maps at.0 before.0 (inv.from_kept earlier maps holds) honest at.1 before.2 into_honest);
        crash = λ maps held holds honest all into_holds into_honest left may.
            let earlier = made.opens.keeps.honest honest in
            let before = inv.copied.3 maps held holds earlier all into_holds (made.honest into_honest) in
            let low : c.loop-place.place < length maps = omega (arith, all, c.loop-place-test.true) in
            let at = held-at maps c.loop-place.place low in
            left-front maps c.loop-place.place at.0 held before.0 left counts at.1 before.1 (made.merges.crash maps at.0 before.0 (inv.from_kept earlier maps holds) honest at.1 before.2 into_honest left may);
        all = λ maps held holds honest all into_holds into_honest. tt;
        kept = λ held into_holds into_honest.
            let before = inv.kept held into_holds (made.honest into_honest) in
            let kept = made.merges.kept before.0 before.2 into_honest in
            record {
              ok = tt;
              err = λ up. (let now = kept.err up in (now.0, keeps-then held before.0 now.0 before.1 now.1, now.2));
              crash = λ left may. keeps-then held before.0 left before.1 (kept.crash left may);
            };
        whole = λ held into_holds into_honest. (let before = inv.kept held into_holds (made.honest into_honest) in made.merges.whole before.0 before.2 into_honest);
        list = λ held into_holds into_honest rows lists.
            let before = inv.kept held into_holds (made.honest into_honest) in
            made.merges.list before.0 before.2 into_honest rows (inv.list held into_holds (made.honest into_honest) rows lists);
        own = λ maps held holds honest all into_holds into_honest.
            let earlier = made.opens.keeps.honest honest in
            let before = inv.copied.3 maps held holds earlier all into_holds (made.honest into_honest) in
            let low : c.loop-place.place < length maps = omega (arith, all, c.loop-place-test.true) in
            let at = held-at maps c.loop-place.place low in
            made.merges.own maps at.0 before.0 (inv.from_kept earlier maps holds) honest at.1 before.2 into_honest;
        cause = merge-cause-later _ _ _ _ _ _ (Err stop) inv.from_counted inv.counted made.cause;
      },
      tt,
      (λ start before h. lines-end start before counts stop _ _ (made.line start _ (inv.copied.2 start before h))),
    )
