use Rattle.std.proofs.Common.{◌∙◌, ℕ, Bool, Result, Err, ap, sym, subst}
use Rattle.std.proofs.lemmas.Result.{err_from_is_err_and}
use Rattle.std.specs.Io.KnownBytes.{Appends}
use Rattle.osm_rows.specs.Flags.{has_flags}
use Rattle.osm_rows.specs.Keeping.{extents_of}
use Rattle.osm_import.specs.Exports.{WritesBlob, size_of}
use Rattle.osm_import.specs.Pbf.{header_frame, IsPbfExport}
use Rattle.osm_import.specs.ExportCauses.{ExportHasCause, ExportTells}
use Rattle.osm_import.specs.declared.export.fault.ExportFault.{ExportFault}
use Rattle.osm_import.specs.declared.export.fault.ExportFault.TheVariants.{Store}
use Rattle.osm_import.proofs.PbfLemmas.{pbf-unbegun, pbf-no_header, pbf-exported}
use Rattle.osm_import.proofs.PbfFile.{pbf-file}
use Rattle.osm_import.proofs.HandedOn.{handed}
use Rattle.osm_import.proofs.WalkLemmas.{cause-unwritten, tells-none}
use Rattle.osm_import.proofs.export.pbf.export_pbf.Goals as goal

pub returns-in_err-extents-clause-export : goal.returns-in_err-extents-clause-export
returns-in_err-extents-clause-export g c = λ held holds honest.
    subst (λ (r : Result (Unit {0}) ExportFault). IsPbfExport held (size_of c.args.size (extents_of held)) c.args.partial (g.S.Sink.written c.args.out.now) (g.S.Sink.written c.args.out.now) r) (sym (handed c.from_residual.result _ c.from_residual.ensures.1))
    (pbf-unbegun (has_flags held) held (size_of c.args.size (extents_of held)) c.args.partial (g.S.Sink.written c.args.out.now) c.in_err-extents.field-0.0 (c.in_err-extents.ensures.refused held holds honest))

-- the store has failed before the first byte
pub returns-in_err-history-clause-export : goal.returns-in_err-history-clause-export
returns-in_err-history-clause-export g c = λ held holds honest.
    let p = err_from_is_err_and c.from_residual-in_err-history.result c.from_residual-in_err-history.ensures.1 in
    subst (λ (r : Result (Unit {0}) ExportFault). IsPbfExport held (size_of c.args.size (extents_of held)) c.args.partial (g.S.Sink.written c.args.out.now) (g.S.Sink.written c.args.out.now) r) (sym (p.1 ∙ ap (λ (fault : ExportFault). Err fault) p.2))
    (pbf-unbegun (has_flags held) held (size_of c.args.size (extents_of held)) c.args.partial (g.S.Sink.written c.args.out.now) (Store c.in_err-history.field-0.0) tt)

pub returns-in_err-write_header-clause-export : goal.returns-in_err-write_header-clause-export
returns-in_err-write_header-clause-export g c = λ held holds honest.
    let made = c.in_ok-extents.ensures in
    let asked = c.in_ok-history.ensures in
    let earlier = asked.reads.honest honest in
    let history = asked.flags held (made.rereads.ok earlier held holds) honest in
    subst (λ (r : Result (Unit {0}) ExportFault). IsPbfExport held (size_of c.args.size (extents_of held)) c.args.partial (g.S.Sink.written c.args.out.now) (g.S.Sink.written c.write_header.new.out) r) (sym (handed c.from_residual-in_err-write_header.result _ c.from_residual-in_err-write_header.ensures.1))
    (pbf-no_header (has_flags held) held (size_of c.args.size (extents_of held)) c.args.partial (g.S.Sink.written c.args.out.now) (g.S.Sink.written c.write_header.new.out) c.in_err-write_header.field-0.0
    (subst (λ (b : Bool). WritesBlob (g.S.Sink.written c.args.out.now) (header_frame b) (g.S.Sink.written c.write_header.new.out) (Err c.in_err-write_header.field-0.0)) history c.in_err-write_header.ensures.wrote)
    (made.tiled held holds earlier))

pub returns-clause-export : goal.returns-clause-export
returns-clause-export g c = λ held holds honest.
    let made = c.in_ok-extents.ensures in
    let asked = c.in_ok-history.ensures in
    let later = c.write_blobs.ensures.rereads.stays.honest honest in
    let earlier = asked.reads.honest later in
    let still = made.rereads.ok earlier held holds in
    pbf-exported (has_flags held) held (size_of c.args.size (extents_of held)) c.args.partial (g.S.Sink.written c.args.out.now) (g.S.Sink.written c.write_header.new.out) (g.S.Sink.written c.write_blobs.new.out) c.write_blobs.result
    (subst (λ (b : Bool). Appends (g.S.Sink.written c.args.out.now) (g.S.Sink.written c.write_header.new.out) (header_frame b)) (asked.flags held still later) c.in_ok-write_header.ensures.wrote)
    (c.write_blobs.ensures.wrote held held (asked.reads.ok later held still) honest (λ off blob found. found) (c.deref.ensures.value ∙ made.all held holds earlier)) (made.tiled held holds earlier)

pub returns-in_err-extents-clause-one_file : goal.returns-in_err-extents-clause-one_file
returns-in_err-extents-clause-one_file g c = λ held file frames holds honest is_file of_file tiles asked.
    pbf-file held file frames c.args.size c.args.partial (g.S.Sink.written c.args.out.now) (g.S.Sink.written c.args.out.now) c.from_residual.result (g.met.K.BlobReader.is_apart _ held holds) is_file of_file tiles asked
    (returns-in_err-extents-clause-export g c held holds honest)

pub returns-in_err-write_header-clause-one_file : goal.returns-in_err-write_header-clause-one_file
returns-in_err-write_header-clause-one_file g c = λ held file frames holds honest is_file of_file tiles asked.
    pbf-file held file frames c.args.size c.args.partial (g.S.Sink.written c.args.out.now) (g.S.Sink.written c.write_header.new.out) c.from_residual-in_err-write_header.result (g.met.K.BlobReader.is_apart _ held holds) is_file of_file tiles asked
    (returns-in_err-write_header-clause-export g c held holds honest)

pub returns-clause-one_file : goal.returns-clause-one_file
returns-clause-one_file g c = λ held file frames holds honest is_file of_file tiles asked.
    pbf-file held file frames c.args.size c.args.partial (g.S.Sink.written c.args.out.now) (g.S.Sink.written c.write_blobs.new.out) c.write_blobs.result (g.met.K.BlobReader.is_apart _ held holds) is_file of_file tiles asked
    (returns-clause-export g c held holds honest)

pub returns-in_err-extents-clause-cause : goal.returns-in_err-extents-clause-cause
returns-in_err-extents-clause-cause g c =
    subst (λ (r : Result (Unit {0}) ExportFault). ExportHasCause (g.K.BlobReader.failures c.args.keeper.now) (g.K.BlobReader.failures c.extents_to_export.new.keeper) (g.S.Sink.has_failed c.args.out.now) r) (sym (handed c.from_residual.result _ c.from_residual.ensures.1))
    (cause-unwritten _ _ (g.S.Sink.has_failed c.args.out.now) c.in_err-extents.field-0.0 c.in_err-extents.ensures.cause)

pub returns-in_err-write_header-clause-told : goal.returns-in_err-write_header-clause-told
returns-in_err-write_header-clause-told g c = tells-none _ _ (c.in_ok-history.ensures.reads.counted ∙ c.in_ok-extents.ensures.told) c.from_residual-in_err-write_header.result

pub returns-clause-told : goal.returns-clause-told
returns-clause-told g c =
    subst (λ (before : ℕ). ExportTells before (g.K.BlobReader.failures c.write_blobs.new.keeper) c.write_blobs.result) (c.in_ok-history.ensures.reads.counted ∙ c.in_ok-extents.ensures.told) c.write_blobs.ensures.told
