use Rattle.std.specs.Prelude.{IsNone}
use Rattle.std.proofs.Common.{◌≡◌, ◌∙◌, ◌++◌, ◌∷◌, ◌+◌, List, [], Option, get_or, take, refl, sym, ap, subst, arith}
use Rattle.sqlite.specs.Tree.{Trees}
use Rattle.osm_rows.specs.Audit.{counts_of, elements_held}
use Rattle.osm_rows.specs.declared.keeper.Extent.{Extent}
use Rattle.osm_reading.specs.Framings.{Known}
use Rattle.osm_verify.specs.Agreements.{IsSame}
use Rattle.osm_verify.specs.Audits.{IsEntryOf}
use Rattle.osm_verify.specs.declared.comparing.Depth.{Depth}
use Rattle.osm_verify.specs.InFile.{IsIn}
use Rattle.osm_verify.specs.Judging.{AreEntriesIn, AreJudged, IsJudged}
use Rattle.osm_verify.specs.declared.part_audit.Finding.{Finding}
use Rattle.osm_verify.proofs.JudgingLemmas.{blank, elements-all, elements-more, entries-more, extent-read, extent-taken, extents-all, judged-more, nothing-more}
use Rattle.osm_verify.proofs.part_audit.audit_extents.Goals as goal

pub loop-extent-init : goal.loop-extent-init
loop-extent-init g c = record {
  honest = λ h. h;
  open_if = λ o. o;
  kept = λ h held holds. holds;
  crash = λ h held leaves. leaves;
  whole = λ h was. was;
  counted = omega arith;
  same = λ honest up. g.met.K.BlobReader.same_tables_self _;
  bytes = refl;
  found = λ held holds honest. c.new-findings.ensures.items;
  held_rows = λ held holds honest are deep none. c.requires.none;
  seen = λ none. ([], c.requires.none, tt, (λ honest up tables deep. tt));
}

pub loop-extent-preserved : goal.loop-extent-preserved
loop-extent-preserved g c =
    let K = g.K.BlobReader in
    let A = g.K.Audited in
    let F = g.F.FileBytes in
    let inv = c.loop-extent.invariant in
    let made = c.in_ok-found.ensures in
    let stays = made.reads.rereads.stays in
    let known : Known = F.bytes c.args.file.now in
    let i = c.loop-extent.extent-index in
    let extents = c.args.extents.now in
    let extent = get_or extents i blank in
    let is = extent-read extents i c.loop-extent-test.true in
    let depth = c.args.depth in
    let taken : take (i + 1) extents ≡ take i extents ++ extent ∷ [] = extent-taken extents i extent c.loop-extent-test.true is in
    record {
      honest = λ h. inv.honest (stays.honest h);
      open_if = λ o. inv.open_if (stays.open_if o);
      kept = λ h held holds. made.reads.rereads.ok h held (inv.kept (stays.honest h) held holds);
      crash = λ h held leaves. inv.crash (stays.honest h) held (stays.crash h held leaves);
      whole = λ h was. stays.whole h (inv.whole (stays.honest h) was);
      counted = omega (arith, inv.counted, made.reads.counted);
      same = λ honest up. g.met.K.BlobReader.same_tables_then _ _ _ (inv.same (stays.honest honest) (stays.open_if up)) (made.reads.same honest up);
      bytes = made.kept ∙ inv.bytes;
      found = λ held holds honest.
          let earlier = stays.honest honest in
          let judged : IsJudged depth held known extent c.in_ok-found.found = subst (λ (k : Known). IsJudged depth held k extent c.in_ok-found.found) inv.bytes (made.found held (inv.kept earlier held holds) honest) in
          subst (λ (es : List Extent). AreJudged depth held known es c.note.new.findings.items) (sym taken)
          (subst (λ (fs : List Finding). AreJudged depth held known (take i extents ++ extent ∷ []) fs) (sym c.in_ok-note.ensures)
          (judged-more depth held known (take i extents) c.loop-extent.findings.items extent c.in_ok-found.found (inv.found held holds earlier) judged));
      held_rows = λ held holds honest are deep none.
          let earlier = stays.honest honest in
          let both = nothing-more c.loop-extent.findings.items c.in_ok-found.found (sym c.in_ok-note.ensures ∙ none) in
          let it = made.seen (subst (λ (o : Option Finding). IsNone o) (sym both.1) refl) in
          let same = subst (λ (d : Depth). IsSame d held extent.off it.frame) deep (it.same held (inv.kept earlier held holds) honest) in
          let more = elements-more held extents i extent it.frame it.seen.elements are c.loop-extent-test.true is same it.seen.good in
          it.seen.counted (take i (elements_held held)) (inv.held_rows held holds earlier are deep both.0) ∙ ap counts_of (sym more);
      seen = λ none.
          let both = nothing-more c.loop-extent.findings.items c.in_ok-found.found (sym c.in_ok-note.ensures ∙ none) in
          let it = made.seen (subst (λ (o : Option Finding). IsNone o) (sym both.1) refl) in
          let before = inv.seen both.0 in
          let within : IsIn known extent.off it.frame = subst (λ (k : Known). IsIn k extent.off it.frame) inv.bytes it.within in
          let elements = it.seen.elements in (
            before.0 ++ elements ∷ [],
            it.seen.counted before.0 before.1,
            subst (λ (es : List Extent). AreEntriesIn (λ off blob. Unit {0}) known es (before.0 ++ elements ∷ [])) (sym taken)
                (entries-more (λ off blob. Unit {0}) known (take i extents) before.0 extent elements before.2 (it.frame, within, it.seen.good, it.ends)),
            (λ honest up tables deep.
                let earlier = stays.honest honest in
                let sooner = stays.open_if up in
                let first = inv.same earlier sooner in
                let P = A.has_rows (A.trees c.args.store.now) in
                let own : IsEntryOf (P extent.off) extent.off it.frame elements = subst (λ (db : Trees). IsEntryOf (A.has_rows db extent.off) extent.off it.frame elements) (g.met.K.Audited.same_trees _ _ first)
                (it.seen.rows honest up (g.met.K.Audited.same_has_tables _ _ first tables) deep) in
                subst (λ (es : List Extent). AreEntriesIn P known es (before.0 ++ elements ∷ [])) (sym taken)
                (entries-more P known (take i extents) before.0 extent elements (before.3 earlier sooner tables deep) (it.frame, within, own, it.ends))),
          );
    }

pub returns-clause-found : goal.returns-clause-found
returns-clause-found g c = λ held holds honest.
    subst (λ (es : List Extent). AreJudged c.args.depth held (g.F.FileBytes.bytes c.args.file.now) es c.loop-extent.findings.items) (extents-all c.args.extents.now c.loop-extent.extent-index c.loop-extent-test.false)
    (c.loop-extent.invariant.found held holds honest)

pub returns-clause-seen : goal.returns-clause-seen
returns-clause-seen g c = λ none.
    let it = c.loop-extent.invariant.seen none in
    let known = g.F.FileBytes.bytes c.args.file.now in
    let all = extents-all c.args.extents.now c.loop-extent.extent-index c.loop-extent-test.false in
    let A = g.K.Audited in
    record {
      blobs = it.0;
      counted = it.1;
      good = subst (λ (es : List Extent). AreEntriesIn (λ off blob. Unit {0}) known es it.0) all it.2;
      rows = λ honest up tables deep. subst (λ (es : List Extent). AreEntriesIn (A.has_rows (A.trees c.args.store.now)) known es it.0) all (it.3 honest up tables deep);
      held_rows = λ held holds honest are deep.
          c.loop-extent.invariant.held_rows held holds honest are deep none ∙ ap counts_of (elements-all held c.args.extents.now c.loop-extent.extent-index are c.loop-extent-test.false);
    }
