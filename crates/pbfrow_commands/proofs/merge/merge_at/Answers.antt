use Rattle.std.proofs.Common.{◌∷◌, [], Result, sym, subst}
use Rattle.osm_value.specs.Sink.{Writes}
use Rattle.osm_rows.specs.Held.{HeldMap}
use Rattle.osm_import.specs.Merges.{IsFrontUnited}
use Rattle.osm_import.specs.Stores.{KeepsHeld}
use Rattle.osm_import.specs.declared.copy.CopyCounts.{CopyCounts}
use Rattle.osm_import.proofs.CopiesLemmas.{kept-still}
use Rattle.osm_import.proofs.MergeLemmas.{front_begun}
use Rattle.osm_parts.proofs.OpeningLemmas.{same-held, opened-closed}
use Rattle.osm_parts.specs.Opening.{OnlyOpens}
use Rattle.pbfrow_commands.specs.Merging.{CopiesAt, IsOwnMerge, MergeHasCause, store_line}
use Rattle.pbfrow_commands.specs.declared.merge.MergeStop.{MergeStop}
use Rattle.pbfrow_commands.proofs.MergingLemmas.{copies-at, crash-front, own-merged, cause-merged, kept-merged, line-merged, opens-merged}
use Rattle.pbfrow_commands.proofs.merge.merge_at.Goals as goal

pub returns-in-Err-clause-merges : goal.returns-in-Err-clause-merges
returns-in-Err-clause-merges g c = record {
  copies = λ maps source held holds honest at into_holds into_honest. into_holds;
  crash = λ maps source held holds honest at into_holds into_honest left may.
      subst (λ (h : HeldMap). IsFrontUnited (source ∷ []) held h) (sym (g.met.T.BlobReader.settled _ held left into_holds may)) (front_begun (source ∷ []) held);
  kept = λ held into_holds into_honest. kept-still g.T.BlobReader c.args.into.now _ held into_holds (λ left may. g.met.T.BlobReader.settled _ held left into_holds may);
  whole = λ held into_holds into_honest. g.met.T.BlobReader.leaves_held _ held into_holds;
  list = λ held into_holds into_honest rows lists. lists;
  own = λ maps source held holds honest at into_holds into_honest. c.in-Err.ensures.own maps holds honest;
}

pub returns-in-Err-clause-opens : goal.returns-in-Err-clause-opens
returns-in-Err-clause-opens g c = record { keeps = c.in-Err.ensures.refused; ok = tt }

pub returns-clause-merges : goal.returns-clause-merges
returns-clause-merges g c = record {
  copies = λ maps source held holds honest at into_holds into_honest.
      let both = c.close.ensures.honest honest in
      let made = c.merge_one-outcome.ensures in
      let it = c.in-Ok.ensures.lent maps holds both.0 (made.source.stays.honest both.1) in
      let from_holds = subst (λ (m : HeldMap). g.F.BlobReader.holds c.in-Ok.store m) (same-held maps c.args.place it.held source it.at at) it.store in
      let T = g.T.BlobReader in
      let into = c.merge_one-outcome.new.into in
      subst (λ (r : Result CopyCounts MergeStop). CopiesAt (T.is_open into) (T.holds into) source held r) (sym c.merge_outcome.ensures)
      (copies-at (T.is_open into) (T.holds into) source held c.merge_one-outcome.result (made.copies.copies source held from_holds both.1 into_holds into_honest));
  crash = λ maps source held holds honest at into_holds into_honest left may.
      let both = c.close.ensures.honest honest in
      let made = c.merge_one-outcome.ensures in
      let it = c.in-Ok.ensures.lent maps holds both.0 (made.source.stays.honest both.1) in
      let from_holds = subst (λ (m : HeldMap). g.F.BlobReader.holds c.in-Ok.store m) (same-held maps c.args.place it.held source it.at at) it.store in
      crash-front (g.T.BlobReader.leaves c.merge_one-outcome.new.into) source held left c.merge_one-outcome.result (made.copies.crash source held from_holds both.1 into_holds into_honest) may;
  kept = λ held into_holds into_honest.
      let into = c.merge_one-outcome.new.into in
      subst (λ (r : Result CopyCounts MergeStop). KeepsHeld g.T.BlobReader into r held) (sym c.merge_outcome.ensures)
      (kept-merged g.T.BlobReader into c.merge_one-outcome.result held (c.merge_one-outcome.ensures.copies.kept held into_holds into_honest));
  whole = c.merge_one-outcome.ensures.copies.whole;
  list = c.merge_one-outcome.ensures.copies.list;
  own = λ maps source held holds honest at into_holds into_honest.
      let both = c.close.ensures.honest honest in
      let made = c.merge_one-outcome.ensures in
      let it = c.in-Ok.ensures.lent maps holds both.0 (made.source.stays.honest both.1) in
      let from_holds = subst (λ (m : HeldMap). g.F.BlobReader.holds c.in-Ok.store m) (same-held maps c.args.place it.held source it.at at) it.store in
      subst (λ (r : Result CopyCounts MergeStop). IsOwnMerge r) (sym c.merge_outcome.ensures) (own-merged c.merge_one-outcome.result (made.copies.own source held from_holds both.1 into_holds into_honest));
}

pub returns-clause-opens : goal.returns-clause-opens
returns-clause-opens g c =
    let O = g.O.Openings in
    let opened = c.in-Ok.ensures in
    let closed = c.close.ensures in
    let outcome = c.merge_one-outcome.result in
    subst (λ (r : Result CopyCounts MergeStop). OnlyOpens O.holds O.is_honest O.is_open c.args.openings.now r c.close.new.self) (sym c.merge_outcome.ensures)
    (opens-merged O.holds O.is_honest O.is_open c.args.openings.now c.close.new.self outcome
    (opened-closed O.holds O.lends O.is_honest O.is_open g.F.BlobReader c.args.openings.now c.open.new.self c.close.new.self c.in-Ok.store c.merge_one-outcome.new.from c.args.place outcome opened.lent opened.honest opened.open_if
    c.merge_one-outcome.ensures.source closed.back closed.honest closed.open_if))

pub returns-clause-cause : goal.returns-clause-cause
returns-clause-cause g c =
    let O = g.O.Openings in
    let T = g.T.BlobReader in
    subst (λ (r : Result CopyCounts MergeStop). MergeHasCause (O.failures c.args.openings.now) (O.failures c.close.new.self) (T.failures c.args.into.now) (T.failures c.merge_one-outcome.new.into) r) (sym c.merge_outcome.ensures)
    (cause-merged _ _ _ _ _ _ _ c.merge_one-outcome.result c.in-Ok.ensures.counted c.close.ensures.counted c.merge_one-outcome.ensures.copies.cause)

pub returns-clause-line : goal.returns-clause-line
returns-clause-line g c =
    let S = g.S.Sink in
    let old = c.args.out.now in
    let new = c.merge_one-outcome.new.out in
    subst (λ (r : Result CopyCounts MergeStop). Writes (S.written old) (S.has_failed old) (S.written new) (S.has_failed new) (store_line r)) (sym c.merge_outcome.ensures)
    (line-merged (S.written old) (S.has_failed old) (S.written new) (S.has_failed new) c.merge_one-outcome.result c.merge_one-outcome.ensures.line)
