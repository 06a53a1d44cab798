use Rattle.std.proofs.Common.{Bool, true, false, List, Result, Err, sym, subst}
use Rattle.std.specs.Io.KnownBytes.{Appends}
use Rattle.std.specs.List.{list_any}
use Rattle.osm_rows.specs.Keeping.{extents_of}
use Rattle.osm_import.specs.Exports.{WritesBlob, size_of}
use Rattle.osm_import.specs.ExportCauses.{ExportHasCause, ExportIsOwn}
use Rattle.osm_import.specs.Pbf.{header_frame, IsHeadedExport, WritesBlocks}
use Rattle.osm_import.specs.declared.export.fault.ExportFault.{ExportFault}
use Rattle.osm_import.proofs.HandedOn.{handed}
use Rattle.osm_import.proofs.PbfLemmas.{pbf-unbegun, pbf-no_header, pbf-exported}
use Rattle.osm_import.proofs.WalkLemmas.{cause-unwritten, write-cause, write-own}
use Rattle.osm_parts.specs.declared.runs.Part.{Part}
use Rattle.osm_parts.proofs.FlagLemmas.{history-read}
use Rattle.osm_parts.proofs.ExportingLemmas.{walks-whole}
use Rattle.osm_parts.proofs.exporting.export_parts_as_pbf.Goals as goal

abbrev history_in : List Part → Bool
history_in parts = list_any (λ (part : Part). part.history) parts

pub returns-in_err-refuse_untiled-clause-export : goal.returns-in_err-refuse_untiled-clause-export
returns-in_err-refuse_untiled-clause-export g c = λ maps whole holds honest read are. (
  history_in c.args.parts.now,
  history-read maps c.args.parts.now whole read are,
  subst (λ (r : Result (Unit {0}) ExportFault). IsHeadedExport (history_in c.args.parts.now) whole (size_of c.args.size (extents_of whole)) c.args.partial (g.S.Sink.written c.args.out.now) (g.S.Sink.written c.args.out.now) r)
      (sym (handed c.from_residual.result _ c.from_residual.ensures.1))
      (pbf-unbegun (history_in c.args.parts.now) whole (size_of c.args.size (extents_of whole)) c.args.partial (g.S.Sink.written c.args.out.now) c.in_err-refuse_untiled.field-0.0 (c.in_err-refuse_untiled.ensures.refused maps true whole read are)),
)

pub returns-in_err-refuse_untiled-clause-own : goal.returns-in_err-refuse_untiled-clause-own
returns-in_err-refuse_untiled-clause-own g c = λ maps holds honest.
    subst (λ (r : Result (Unit {0}) ExportFault). ExportIsOwn r) (sym (handed c.from_residual.result _ c.from_residual.ensures.1))
    (write-own false (Err c.in_err-refuse_untiled.field-0.0) c.in_err-refuse_untiled.ensures.cause)

pub returns-in_err-refuse_untiled-clause-cause : goal.returns-in_err-refuse_untiled-clause-cause
returns-in_err-refuse_untiled-clause-cause g c =
    subst (λ (r : Result (Unit {0}) ExportFault). ExportHasCause (g.O.Openings.failures c.args.openings.now) (g.O.Openings.failures c.args.openings.now) (g.S.Sink.has_failed c.args.out.now) r) (sym (handed c.from_residual.result _ c.from_residual.ensures.1))
    (cause-unwritten (g.O.Openings.failures c.args.openings.now) (g.O.Openings.failures c.args.openings.now) (g.S.Sink.has_failed c.args.out.now) c.in_err-refuse_untiled.field-0.0
    (write-cause (g.O.Openings.failures c.args.openings.now) (g.O.Openings.failures c.args.openings.now) false (Err c.in_err-refuse_untiled.field-0.0) c.in_err-refuse_untiled.ensures.cause))

pub returns-in_err-write_header-clause-export : goal.returns-in_err-write_header-clause-export
returns-in_err-write_header-clause-export g c = λ maps whole holds honest read are. (
  history_in c.args.parts.now,
  history-read maps c.args.parts.now whole read are,
  subst (λ (r : Result (Unit {0}) ExportFault). IsHeadedExport (history_in c.args.parts.now) whole (size_of c.args.size (extents_of whole)) c.args.partial (g.S.Sink.written c.args.out.now) (g.S.Sink.written c.write_header.new.out) r)
      (sym (handed c.from_residual-in_err-write_header.result _ c.from_residual-in_err-write_header.ensures.1))
      (pbf-no_header (history_in c.args.parts.now) whole (size_of c.args.size (extents_of whole)) c.args.partial (g.S.Sink.written c.args.out.now) (g.S.Sink.written c.write_header.new.out) c.in_err-write_header.field-0.0
      (subst (λ (b : Bool). WritesBlob (g.S.Sink.written c.args.out.now) (header_frame b) (g.S.Sink.written c.write_header.new.out) (Err c.in_err-write_header.field-0.0)) c.have_history.ensures c.in_err-write_header.ensures.wrote)
      (c.in_ok-refuse_untiled.ensures.tiled maps true whole read are)),
)

pub returns-clause-export : goal.returns-clause-export
returns-clause-export g c = λ maps whole holds honest read are. (
  history_in c.args.parts.now,
  history-read maps c.args.parts.now whole read are,
  pbf-exported (history_in c.args.parts.now) whole (size_of c.args.size (extents_of whole)) c.args.partial (g.S.Sink.written c.args.out.now) (g.S.Sink.written c.write_header.new.out) (g.S.Sink.written c.write_in_turn.new.out) c.write_in_turn.result
      (subst (λ (b : Bool). Appends (g.S.Sink.written c.args.out.now) (g.S.Sink.written c.write_header.new.out) (header_frame b)) c.have_history.ensures c.in_ok-write_header.ensures.wrote)
      (walks-whole WritesBlocks maps true c.args.parts.now whole (g.S.Sink.written c.write_header.new.out) (g.S.Sink.written c.write_in_turn.new.out) c.write_in_turn.result read are
      (c.write_in_turn.ensures.wrote maps true read.ordered holds honest read.each))
      (c.in_ok-refuse_untiled.ensures.tiled maps true whole read are),
)
