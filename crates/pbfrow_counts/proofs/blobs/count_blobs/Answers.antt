use Rattle.std.proofs.Common.{Result, Err, ℕ, [], refl, sym, ◌∙◌, subst, arith}
use Rattle.osm_import.proofs.HandedOn.{handed}
use Rattle.osm_import.proofs.WalkLemmas.{read-is}
use Rattle.osm_parts.proofs.OpeningLemmas.{if-err}
use Rattle.pbfrow_counts.specs.Counting.{CountTells, IsOfMap}
use Rattle.pbfrow_counts.specs.declared.fault.CountFault.{CountFault}
use Rattle.pbfrow_counts.proofs.CountLemmas.{no-more}
use Rattle.pbfrow_counts.proofs.WalkLemmas.{blob-fault, blob-more, blobs-all, complete-all, complete-more}
use Rattle.pbfrow_counts.proofs.blobs.count_blobs.Goals as goal

pub loop-extent-init : goal.loop-extent-init
loop-extent-init g c = record {
  honest = λ h. h;
  open_if = λ h. h;
  kept = λ h held holds. holds;
  crash = λ h held left. left;
  whole = λ h maps. maps;
  counted = omega arith;
  told = refl;
  held = λ held run holds honest within are. no-more c.args.counts.now;
  complete = ([], refl, no-more c.args.counts.now);
}

pub loop-extent-preserved : goal.loop-extent-preserved
loop-extent-preserved g c =
    let inv = c.loop-extent.invariant in
    let made = c.in_ok-count_blob.ensures in
    record {
      honest = λ h. inv.honest (made.rereads.stays.honest h);
      open_if = λ h. inv.open_if (made.rereads.stays.open_if h);
      kept = λ h held holds. made.rereads.ok h held (inv.kept (made.rereads.stays.honest h) held holds);
      crash = λ h held left. inv.crash (made.rereads.stays.honest h) held (made.rereads.stays.crash h held left);
      whole = λ h maps. made.rereads.stays.whole h (inv.whole (made.rereads.stays.honest h) maps);
      counted = omega (arith, inv.counted, made.counted);
      told = made.told ∙ inv.told;
      held = λ held run holds honest within are.
          blob-more run c.args.extents.now c.loop-extent.extent-index _ c.args.counts.now c.loop-extent.counts c.count_blob.new.counts are (omega arith)
          (read-is c.args.extents.now c.loop-extent.extent-index _ _ (omega arith)) (inv.held held run holds (made.rereads.stays.honest honest) within are)
          (λ blob found same. made.held held blob (inv.kept (made.rereads.stays.honest honest) held holds) honest (within _ blob found) same);
      complete = complete-more c.args.extents.now c.loop-extent.extent-index _ c.args.counts.now c.loop-extent.counts c.count_blob.new.counts (omega arith)
          (read-is c.args.extents.now c.loop-extent.extent-index _ _ (omega arith)) inv.complete made.complete;
    }

pub returns-in_err-count_blob-clause-own : goal.returns-in_err-count_blob-clause-own
returns-in_err-count_blob-clause-own g c = λ held run holds honest within are.
    let inv = c.loop-extent.invariant in
    let earlier = c.count_blob.ensures.rereads.stays.honest honest in
    if-err c.from_residual.result c.in_err-count_blob.field-0.0 IsOfMap c.from_residual.ensures.1
    (blob-fault run c.args.extents.now c.loop-extent.extent-index _ (IsOfMap c.in_err-count_blob.field-0.0) are (omega arith)
    (read-is c.args.extents.now c.loop-extent.extent-index _ _ (omega arith))
    (λ blob found same. c.in_err-count_blob.ensures.own held blob (inv.kept earlier held holds) honest (within _ blob found) same))

pub returns-in_err-count_blob-clause-told : goal.returns-in_err-count_blob-clause-told
returns-in_err-count_blob-clause-told g c =
    let now = g.K.BlobReader.failures c.count_blob.new.keeper in
    subst (λ (r : Result (Unit {0}) CountFault). CountTells (g.K.BlobReader.failures c.args.keeper.now) now r) (sym (handed c.from_residual.result _ c.from_residual.ensures.1))
    (subst (λ (before : ℕ). CountTells before now (Err c.in_err-count_blob.field-0.0)) c.loop-extent.invariant.told c.in_err-count_blob.ensures.told)

pub returns-clause-held : goal.returns-clause-held
returns-clause-held g c = λ held run holds honest within are.
    blobs-all run c.args.extents.now c.loop-extent.extent-index c.args.counts.now c.loop-extent.counts are (omega arith) (c.loop-extent.invariant.held held run holds honest within are)

pub returns-clause-complete : goal.returns-clause-complete
returns-clause-complete g c = complete-all c.args.extents.now c.loop-extent.extent-index c.args.counts.now c.loop-extent.counts (omega arith) c.loop-extent.invariant.complete

pub returns-clause-told : goal.returns-clause-told
returns-clause-told g c = c.loop-extent.invariant.told
