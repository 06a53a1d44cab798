use Rattle.std.proofs.Common.{Result, Err, refl, inl, sym, ◌∙◌, subst, arith}
use Rattle.std.specs.FinMap.{entries}
use Rattle.osm_import.specs.ExportCauses.{ExportHasCause, ExportIsOwn, ExportTells}
use Rattle.osm_import.specs.Walks.{Walks, WalksComplete}
use Rattle.osm_import.specs.declared.export.fault.ExportFault.{ExportFault}
use Rattle.osm_import.specs.declared.export.fault.ExportFault.TheVariants.{Store}
use Rattle.osm_import.proofs.HandedOn.{handed}
use Rattle.osm_import.proofs.WalkLemmas.{element-at, walk-more, walk-stops, walk-all, read-is, complete-more, complete-stops, complete-all, tells-none}
use Rattle.osm_import.proofs.export.blobs.write_blobs.Goals as goal

-- ---- a blob couldn't be loaded

pub returns-in_err-loaded-clause-wrote : goal.returns-in_err-loaded-clause-wrote
returns-in_err-loaded-clause-wrote g c = λ held run holds honest within are.
    let inv = c.loop-extent.invariant in
    let earlier = c.load.ensures.reads.honest honest in
    let there = element-at c.args.extents.now c.loop-extent.extent-index (omega arith) in
    subst (λ (r : Result (Unit {0}) ExportFault). Walks g.W.BlobStep.writes (g.S.Sink.written c.args.out.now) (entries run) (g.S.Sink.written c.loop-extent.out) r) (sym (handed c.from_residual.result _ c.from_residual.ensures.1))
    (walk-stops g.W.BlobStep.writes run c.args.extents.now c.loop-extent.extent-index there.0 (g.S.Sink.written c.args.out.now) (g.S.Sink.written c.loop-extent.out) (g.S.Sink.written c.loop-extent.out) (Store c.in_err-loaded.field-0.0) are (omega arith)
    there.1 (inv.wrote held run holds earlier within are)
    (λ blob found same. inl refl))

pub returns-in_err-loaded-clause-complete : goal.returns-in_err-loaded-clause-complete
returns-in_err-loaded-clause-complete g c =
    let there = element-at c.args.extents.now c.loop-extent.extent-index (omega arith) in
    subst (λ (r : Result (Unit {0}) ExportFault). WalksComplete g.W.BlobStep.writes (g.S.Sink.written c.args.out.now) c.args.extents.now (g.S.Sink.written c.loop-extent.out) r) (sym (handed c.from_residual.result _ c.from_residual.ensures.1))
    (complete-stops g.W.BlobStep.writes c.args.extents.now c.loop-extent.extent-index there.0 (g.S.Sink.written c.args.out.now) (g.S.Sink.written c.loop-extent.out) (g.S.Sink.written c.loop-extent.out) (Store c.in_err-loaded.field-0.0) (omega arith)
    there.1 c.loop-extent.invariant.complete (inl refl))

-- ---- a blob wasn't written whole

pub returns-in_err-write_loaded-clause-wrote : goal.returns-in_err-write_loaded-clause-wrote
returns-in_err-write_loaded-clause-wrote g c = λ held run holds honest within are.
    let inv = c.loop-extent.invariant in
    let earlier = c.in_ok-loaded.ensures.reads.honest honest in
    let kept = inv.kept earlier held holds in
    subst (λ (r : Result (Unit {0}) ExportFault). Walks g.W.BlobStep.writes (g.S.Sink.written c.args.out.now) (entries run) (g.S.Sink.written c.write_loaded.new.out) r) (sym (handed c.from_residual-in_err-write_loaded.result _ c.from_residual-in_err-write_loaded.ensures.1))
    (walk-stops g.W.BlobStep.writes run c.args.extents.now c.loop-extent.extent-index _ (g.S.Sink.written c.args.out.now) (g.S.Sink.written c.loop-extent.out) (g.S.Sink.written c.write_loaded.new.out) c.in_err-write_loaded.field-0.0 are (omega arith)
    (read-is c.args.extents.now c.loop-extent.extent-index _ _ (omega arith)) (inv.wrote held run holds earlier within are)
    (λ blob found same. c.in_err-write_loaded.ensures.wrote blob (c.in_ok-loaded.ensures.rows held blob kept honest (within _ blob found)) same))

pub returns-in_err-write_loaded-clause-own : goal.returns-in_err-write_loaded-clause-own
returns-in_err-write_loaded-clause-own g c = λ held holds honest.
    subst (λ (r : Result (Unit {0}) ExportFault). ExportIsOwn r) (sym (handed c.from_residual-in_err-write_loaded.result _ c.from_residual-in_err-write_loaded.ensures.1)) c.in_err-write_loaded.ensures.own

pub returns-in_err-write_loaded-clause-told : goal.returns-in_err-write_loaded-clause-told
returns-in_err-write_loaded-clause-told g c =
    let now = g.K.BlobReader.failures c.load.new.self in
    subst (λ (r : Result (Unit {0}) ExportFault). ExportTells (g.K.BlobReader.failures c.args.keeper.now) now r) (sym (handed c.from_residual-in_err-write_loaded.result _ c.from_residual-in_err-write_loaded.ensures.1))
    (tells-none _ now (c.in_ok-loaded.ensures.reads.counted ∙ c.loop-extent.invariant.told) (let answer : Result (Unit {0}) ExportFault = Err c.in_err-write_loaded.field-0.0 in answer))

pub returns-in_err-write_loaded-clause-complete : goal.returns-in_err-write_loaded-clause-complete
returns-in_err-write_loaded-clause-complete g c =
    subst (λ (r : Result (Unit {0}) ExportFault). WalksComplete g.W.BlobStep.writes (g.S.Sink.written c.args.out.now) c.args.extents.now (g.S.Sink.written c.write_loaded.new.out) r) (sym (handed c.from_residual-in_err-write_loaded.result _ c.from_residual-in_err-write_loaded.ensures.1))
    (complete-stops g.W.BlobStep.writes c.args.extents.now c.loop-extent.extent-index _ (g.S.Sink.written c.args.out.now) (g.S.Sink.written c.loop-extent.out) (g.S.Sink.written c.write_loaded.new.out) c.in_err-write_loaded.field-0.0 (omega arith)
    (read-is c.args.extents.now c.loop-extent.extent-index _ _ (omega arith)) c.loop-extent.invariant.complete c.in_err-write_loaded.ensures.complete)

pub returns-in_err-write_loaded-clause-cause : goal.returns-in_err-write_loaded-clause-cause
returns-in_err-write_loaded-clause-cause g c =
    let before = g.K.BlobReader.failures c.args.keeper.now in
    let now = g.K.BlobReader.failures c.load.new.self in
    subst (λ (r : Result (Unit {0}) ExportFault). ExportHasCause before now (g.S.Sink.has_failed c.write_loaded.new.out) r) (sym (handed c.from_residual-in_err-write_loaded.result _ c.from_residual-in_err-write_loaded.ensures.1))
    (c.in_err-write_loaded.ensures.cause before now)

-- ---- all of them

pub loop-extent-preserved : goal.loop-extent-preserved
loop-extent-preserved g c =
    let inv = c.loop-extent.invariant in
    let read = c.in_ok-loaded.ensures in
    let made = c.in_ok-write_loaded.ensures in
    record {
      honest = λ h. inv.honest (read.reads.honest h);
      open_if = λ h. inv.open_if (read.reads.open_if h);
      kept = λ h held holds. read.reads.ok h held (inv.kept (read.reads.honest h) held holds);
      crash = λ h held left. inv.crash (read.reads.honest h) held (read.reads.crash h held left);
      whole = λ h maps. read.reads.whole h (inv.whole (read.reads.honest h) maps);
      counted = omega (arith, inv.counted, read.reads.counted);
      told = read.reads.counted ∙ inv.told;
      wrote = λ held run holds honest within are.
          walk-more g.W.BlobStep.writes run c.args.extents.now c.loop-extent.extent-index _ (g.S.Sink.written c.args.out.now) (g.S.Sink.written c.loop-extent.out) (g.S.Sink.written c.write_loaded.new.out) are (omega arith)
          (read-is c.args.extents.now c.loop-extent.extent-index _ _ (omega arith)) (inv.wrote held run holds (read.reads.honest honest) within are)
          (λ blob found same. made.wrote blob (read.rows held blob (inv.kept (read.reads.honest honest) held holds) honest (within _ blob found)) same);
      complete = complete-more g.W.BlobStep.writes c.args.extents.now c.loop-extent.extent-index _ (g.S.Sink.written c.args.out.now) (g.S.Sink.written c.loop-extent.out) (g.S.Sink.written c.write_loaded.new.out) (omega arith)
          (read-is c.args.extents.now c.loop-extent.extent-index _ _ (omega arith)) inv.complete made.complete;
    }

pub loop-extent-init : goal.loop-extent-init
loop-extent-init g c = record {
  honest = λ h. h;
  open_if = λ h. h;
  kept = λ h held holds. holds;
  crash = λ h held left. left;
  whole = λ h maps. maps;
  counted = omega arith;
  told = refl;
  wrote = λ held run holds honest within are. refl;
  complete = refl;
}

pub returns-clause-wrote : goal.returns-clause-wrote
returns-clause-wrote g c = λ held run holds honest within are.
    walk-all g.W.BlobStep.writes run c.args.extents.now c.loop-extent.extent-index (g.S.Sink.written c.args.out.now) (g.S.Sink.written c.loop-extent.out) are (omega arith) (c.loop-extent.invariant.wrote held run holds honest within are)

pub returns-clause-told : goal.returns-clause-told
returns-clause-told g c = c.loop-extent.invariant.told

pub returns-clause-complete : goal.returns-clause-complete
returns-clause-complete g c = complete-all g.W.BlobStep.writes c.args.extents.now c.loop-extent.extent-index (g.S.Sink.written c.args.out.now) (g.S.Sink.written c.loop-extent.out) (omega arith) c.loop-extent.invariant.complete
