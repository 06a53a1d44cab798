use Rattle.std.proofs.Common.{◌≡◌, ◌<◌, ◌+◌, ◌++◌, ◌∷◌, ◌∙◌, [], false, List, length, take, refl, sym, ap, subst, arith, length-append}
use Rattle.std.proofs.lemmas.List.{take_all, length-take}
use Rattle.osm_rows.specs.Held.{HeldMap}
use Rattle.osm_reading.specs.Framings.{Known}
use Rattle.osm_parts.specs.Reading.{AreStores, IsReadOf}
use Rattle.osm_parts.specs.declared.runs.Part.{Part}
use Rattle.osm_parts.proofs.PieceLemmas.{held-at}
use Rattle.osm_rows.specs.Keeping.{extents_of}
use Rattle.osm_rows.specs.declared.fault.StoreFault.TheVariants.{Memory}
use Rattle.osm_rows.specs.declared.keeper.Extent.{Extent}
use Rattle.osm_parts.specs.declared.fault.PartsFault.TheVariants.{Store}
use Rattle.osm_parts.proofs.OpeningLemmas.{if-err}
use Rattle.osm_verify.specs.Faults.{IsOwnFault}
use Rattle.osm_verify.specs.Judging.{AreJudged, ShowsPart}
use Rattle.osm_verify.specs.Showing.{AreShownParts, IsShownAt, IsShownPart}
use Rattle.osm_verify.specs.Together.{AreAllJudged}
use Rattle.osm_verify.specs.declared.fault.AuditFault.TheVariants.{Parts}
use Rattle.osm_verify.specs.declared.part_audit.Finding.{Finding}
use Rattle.osm_verify.proofs.FileFrames.{both-none}
use Rattle.osm_verify.proofs.ShowingLemmas.{none-shown, shown-more}
use Rattle.osm_verify.proofs.TogetherLemmas.{all-more, audit-later, memory-own, no-stores, nothing-judged, stores-more, taken-place}
use Rattle.osm_verify.proofs.together.gather.Goals as goal

pub loop-place-init : goal.loop-place-init
loop-place-init g c = record {
  honest = λ h. h;
  open_if = λ o. o;
  kept = λ h maps holds. holds;
  counted = omega arith;
  still = λ at store lies. lies;
  many = ap length c.new-stores.ensures.items;
  shown = λ honest deep tables none. none-shown _ _ 0 _ c.new-stores.ensures.items;
  bytes = refl;
  read = λ maps holds honest all. subst (λ (l : List Part). AreStores false 0 (take 0 maps) l) (sym c.new-stores.ensures.items) (no-stores maps);
  found = λ maps holds honest all. nothing-judged c.args.depth (g.F.FileBytes.bytes c.args.file.now) maps _ c.new-findings.ensures.items;
}

pub loop-place-preserved : goal.loop-place-preserved
loop-place-preserved g c =
    let inv = c.loop-place.invariant in
    let made = c.in_ok-audit.ensures in
    let F = g.F.FileBytes in
    let known : Known = F.bytes c.args.file.now in
    let place = c.loop-place.place in
    let audit = c.in_ok-audit.audit in
    let O = g.O.Openings in
    let A = g.K.Audited in
    let part : Part = record { place = place; extents = audit.extents; history = false } in
    record {
      honest = λ h. inv.honest (made.opens.keeps.honest h);
      open_if = λ o. inv.open_if (made.opens.keeps.open_if o);
      kept = λ h maps holds. made.opens.ok h maps (inv.kept (made.opens.keeps.honest h) maps holds);
      counted = omega (arith, inv.counted, made.counted);
      still = λ at store lies. inv.still at store (made.still at store lies);
      many = omega (arith, ap length c.in_ok-push.ensures.items, length-append c.loop-place.stores.items (part ∷ []), inv.many);
      shown = λ honest deep tables none.
          let both = both-none c.loop-place.findings.items audit.findings.items
          (sym (c.in_ok-extend_from_slice.ensures.items ∙ ap (λ (fs : List Finding). c.loop-place.findings.items ++ fs) c.deref.ensures.value) ∙ none) in
          let before = inv.shown (made.opens.keeps.honest honest) deep tables both.0 in
          let shows : g.row.K.Denot → List Extent → Type 0 = λ store extents. ShowsPart (A.has_rows (A.trees store)) A.layout (A.trees store) known extents in
          let own = made.shown honest deep (λ store lies. tables place store (inv.still place store lies)) both.1 in
          let here : IsShownAt (O.lies c.args.openings.now place) shows audit.extents.items = record {
            store = own.store;
            there = inv.still place own.store own.there;
            shown = subst (λ (k : Known). ShowsPart (A.has_rows (A.trees own.store)) A.layout (A.trees own.store) k audit.extents.items) inv.bytes own.shown;
          } in
          let at : place ≡ 0 + length c.loop-place.stores.items = omega (arith, inv.many) in
          subst (λ (l : List Part). AreShownParts (O.lies c.args.openings.now) shows 0 l) (sym c.in_ok-push.ensures.items)
          (shown-more (O.lies c.args.openings.now) shows 0 c.loop-place.stores.items part before
          (subst (λ n. IsShownPart (O.lies c.args.openings.now n) shows n part) at (record { placed = refl; plain = refl; ranges = made.ranges; at = here })));
      bytes = made.kept ∙ inv.bytes;
      read = λ maps holds honest all.
          let earlier = made.opens.keeps.honest honest in
          let low : place < length maps = omega (arith, all, c.loop-place-test.true) in
          let it = held-at maps place low in
          let still = inv.kept earlier maps holds in
          let part : Part = record { place = place; extents = audit.extents; history = false } in
          let long : 0 + length (take place maps) ≡ place = omega (arith, length-take place maps, low) in
          let own : IsReadOf false (0 + length (take place maps)) it.0 part = record { placed = sym long; extents = (made.audited maps still honest it.0 it.1).extents; history = refl } in
          subst (λ (l : List HeldMap). AreStores false 0 l c.push.new.self.items) (sym (taken-place maps place it.0 it.1))
          (subst (λ (l : List Part). AreStores false 0 (take place maps ++ it.0 ∷ []) l) (sym c.in_ok-push.ensures.items)
          (stores-more false 0 (take place maps) c.loop-place.stores.items it.0 part (inv.read maps holds earlier all) own (made.audited maps still honest it.0 it.1).apart));
      found = λ maps holds honest all.
          let earlier = made.opens.keeps.honest honest in
          let low : place < length maps = omega (arith, all, c.loop-place-test.true) in
          let it = held-at maps place low in
          let judged : AreJudged c.args.depth it.0 known (extents_of it.0) audit.findings.items = subst (λ (k : Known). AreJudged c.args.depth it.0 k (extents_of it.0) audit.findings.items) inv.bytes (made.audited maps (inv.kept earlier maps holds) honest it.0 it.1).found in
          subst (λ (l : List HeldMap). AreAllJudged c.args.depth known l c.extend_from_slice.new.self.items) (sym (taken-place maps place it.0 it.1))
          (subst (λ (fs : List Finding). AreAllJudged c.args.depth known (take place maps ++ it.0 ∷ []) fs) (sym (c.in_ok-extend_from_slice.ensures.items ∙ ap (λ (fs : List Finding). c.loop-place.findings.items ++ fs) c.deref.ensures.value))
          (all-more c.args.depth known (take place maps) c.loop-place.findings.items it.0 audit.findings.items (inv.found maps holds earlier all) judged));
    }

pub returns-clause-audited : goal.returns-clause-audited
returns-clause-audited g c = λ maps holds honest all.
    let inv = c.loop-place.invariant in
    let whole : take c.loop-place.place maps ≡ maps = take_all c.loop-place.place maps (omega (arith, all, c.loop-place-test.false)) in
    record {
      read = subst (λ (l : List HeldMap). AreStores false 0 l c.loop-place.stores.items) whole (inv.read maps holds honest all);
      found = subst (λ (l : List HeldMap). AreAllJudged c.args.depth (g.F.FileBytes.bytes c.args.file.now) l c.loop-place.findings.items) whole (inv.found maps holds honest all);
    }

pub returns-in_err-audit-clause-fault : goal.returns-in_err-audit-clause-fault
returns-in_err-audit-clause-fault g c = λ maps holds honest.
    let inv = c.loop-place.invariant in
    let failed = c.in_err-audit.ensures in
    let old = g.O.Openings.failures c.args.openings.now in
    let now = g.O.Openings.failures c.audit_at.new.openings in
    let fault = c.in_err-audit.field-0.0 in
    let it = failed.fault maps (inv.kept (failed.opens.keeps.honest honest) maps holds) honest in
    if-err c.from_residual.result fault (IsOwnFault old now) c.from_residual.ensures.1
    (record { own = it.own; cause = audit-later old (g.O.Openings.failures c.loop-place.openings) now fault inv.counted it.cause })

pub returns-in_err-extend_from_slice-clause-fault : goal.returns-in_err-extend_from_slice-clause-fault
returns-in_err-extend_from_slice-clause-fault g c = λ maps holds honest.
    let old = g.O.Openings.failures c.args.openings.now in
    let now = g.O.Openings.failures c.audit_at.new.openings in
    if-err c.from_residual-in_err-extend_from_slice.result (Parts (Store Memory)) (IsOwnFault old now) c.from_residual-in_err-extend_from_slice.ensures.1 (memory-own old now)

pub returns-in_err-push-clause-fault : goal.returns-in_err-push-clause-fault
returns-in_err-push-clause-fault g c = λ maps holds honest.
    let old = g.O.Openings.failures c.args.openings.now in
    let now = g.O.Openings.failures c.audit_at.new.openings in
    if-err c.from_residual-in_err-push.result (Parts (Store Memory)) (IsOwnFault old now) c.from_residual-in_err-push.ensures.1 (memory-own old now)

pub returns-clause-shown : goal.returns-clause-shown
returns-clause-shown g c = λ honest deep tables none. c.loop-place.invariant.shown honest deep tables none
