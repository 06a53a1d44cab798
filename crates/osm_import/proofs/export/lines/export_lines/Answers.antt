use Rattle.std.proofs.Common.{◌∙◌, ℕ, Result, sym, subst}
use Rattle.osm_rows.specs.Keeping.{extents_of}
use Rattle.osm_import.specs.Exports.{size_of, IsExport}
use Rattle.osm_import.specs.ExportCauses.{ExportHasCause, ExportTells}
use Rattle.osm_import.specs.declared.export.fault.ExportFault.{ExportFault}
use Rattle.osm_import.proofs.ExportLemmas.{file-lines, exported, export-unbegun}
use Rattle.osm_import.proofs.HandedOn.{handed}
use Rattle.osm_import.proofs.WalkLemmas.{cause-unwritten}
use Rattle.osm_import.proofs.export.lines.export_lines.Goals as goal

pub returns-in_err-extents-clause-export : goal.returns-in_err-extents-clause-export
returns-in_err-extents-clause-export g c = λ held holds honest.
    subst (λ (r : Result (Unit {0}) ExportFault). IsExport held (size_of c.args.size (extents_of held)) c.args.partial (g.S.Sink.written c.args.out.now) (g.S.Sink.written c.args.out.now) r) (sym (handed c.from_residual.result _ c.from_residual.ensures.1))
    (export-unbegun held (size_of c.args.size (extents_of held)) c.args.partial (g.S.Sink.written c.args.out.now) c.in_err-extents.field-0.0 (c.in_err-extents.ensures.refused held holds honest))

pub returns-clause-export : goal.returns-clause-export
returns-clause-export g c = λ held holds honest.
    let made = c.in_ok-extents.ensures in
    let earlier = c.write_blobs.ensures.rereads.stays.honest honest in
    exported held (size_of c.args.size (extents_of held)) c.args.partial (g.S.Sink.written c.args.out.now) (g.S.Sink.written c.write_blobs.new.out) c.write_blobs.result
    (c.write_blobs.ensures.wrote held held (made.rereads.ok earlier held holds) honest (λ off blob found. found) (c.deref.ensures.value ∙ made.all held holds earlier)) (made.tiled held holds earlier)

pub returns-in_err-extents-clause-one_file : goal.returns-in_err-extents-clause-one_file
returns-in_err-extents-clause-one_file g c = λ held file frames holds honest is_file of_file tiles asked.
    file-lines held file frames c.args.size c.args.partial (g.S.Sink.written c.args.out.now) (g.S.Sink.written c.args.out.now) c.from_residual.result (g.met.K.BlobReader.is_apart _ held holds) is_file of_file tiles asked
    (returns-in_err-extents-clause-export g c held holds honest)

pub returns-clause-one_file : goal.returns-clause-one_file
returns-clause-one_file g c = λ held file frames holds honest is_file of_file tiles asked.
    file-lines held file frames c.args.size c.args.partial (g.S.Sink.written c.args.out.now) (g.S.Sink.written c.write_blobs.new.out) c.write_blobs.result (g.met.K.BlobReader.is_apart _ held holds) is_file of_file tiles asked
    (returns-clause-export g c held holds honest)

pub returns-in_err-extents-clause-cause : goal.returns-in_err-extents-clause-cause
returns-in_err-extents-clause-cause g c =
    subst (λ (r : Result (Unit {0}) ExportFault). ExportHasCause (g.K.BlobReader.failures c.args.keeper.now) (g.K.BlobReader.failures c.extents_to_export.new.keeper) (g.S.Sink.has_failed c.args.out.now) r) (sym (handed c.from_residual.result _ c.from_residual.ensures.1))
    (cause-unwritten _ _ (g.S.Sink.has_failed c.args.out.now) c.in_err-extents.field-0.0 c.in_err-extents.ensures.cause)

pub returns-clause-told : goal.returns-clause-told
returns-clause-told g c = subst (λ (before : ℕ). ExportTells before (g.K.BlobReader.failures c.write_blobs.new.keeper) c.write_blobs.result) c.in_ok-extents.ensures.told c.write_blobs.ensures.told
