use Rattle.std.proofs.Common.{false, Result, Err, sym, subst}
use Rattle.osm_rows.specs.Keeping.{extents_of}
use Rattle.osm_import.specs.Exports.{size_of, IsExport, WritesLines}
use Rattle.osm_import.specs.ExportCauses.{ExportHasCause, ExportIsOwn}
use Rattle.osm_import.specs.declared.export.fault.ExportFault.{ExportFault}
use Rattle.osm_import.proofs.ExportLemmas.{exported, export-unbegun}
use Rattle.osm_import.proofs.HandedOn.{handed}
use Rattle.osm_import.proofs.WalkLemmas.{cause-unwritten, write-cause, write-own}
use Rattle.osm_parts.proofs.ExportingLemmas.{walks-whole}
use Rattle.osm_parts.proofs.exporting.export_parts_as_lines.Goals as goal

pub returns-in_err-refuse_untiled-clause-export : goal.returns-in_err-refuse_untiled-clause-export
returns-in_err-refuse_untiled-clause-export g c = λ maps asked whole holds honest read are.
    subst (λ (r : Result (Unit {0}) ExportFault). IsExport whole (size_of c.args.size (extents_of whole)) c.args.partial (g.S.Sink.written c.args.out.now) (g.S.Sink.written c.args.out.now) r) (sym (handed c.from_residual.result _ c.from_residual.ensures.1))
    (export-unbegun whole (size_of c.args.size (extents_of whole)) c.args.partial (g.S.Sink.written c.args.out.now) c.in_err-refuse_untiled.field-0.0 (c.in_err-refuse_untiled.ensures.refused maps asked whole read are))

pub returns-in_err-refuse_untiled-clause-own : goal.returns-in_err-refuse_untiled-clause-own
returns-in_err-refuse_untiled-clause-own g c = λ maps holds honest.
    subst (λ (r : Result (Unit {0}) ExportFault). ExportIsOwn r) (sym (handed c.from_residual.result _ c.from_residual.ensures.1))
    (write-own false (Err c.in_err-refuse_untiled.field-0.0) c.in_err-refuse_untiled.ensures.cause)

pub returns-in_err-refuse_untiled-clause-cause : goal.returns-in_err-refuse_untiled-clause-cause
returns-in_err-refuse_untiled-clause-cause g c =
    subst (λ (r : Result (Unit {0}) ExportFault). ExportHasCause (g.O.Openings.failures c.args.openings.now) (g.O.Openings.failures c.args.openings.now) (g.S.Sink.has_failed c.args.out.now) r) (sym (handed c.from_residual.result _ c.from_residual.ensures.1))
    (cause-unwritten (g.O.Openings.failures c.args.openings.now) (g.O.Openings.failures c.args.openings.now) (g.S.Sink.has_failed c.args.out.now) c.in_err-refuse_untiled.field-0.0
    (write-cause (g.O.Openings.failures c.args.openings.now) (g.O.Openings.failures c.args.openings.now) false (Err c.in_err-refuse_untiled.field-0.0) c.in_err-refuse_untiled.ensures.cause))

pub returns-clause-export : goal.returns-clause-export
returns-clause-export g c = λ maps asked whole holds honest read are.
    exported whole (size_of c.args.size (extents_of whole)) c.args.partial (g.S.Sink.written c.args.out.now) (g.S.Sink.written c.write_in_turn.new.out) c.write_in_turn.result
    (walks-whole WritesLines maps asked c.args.parts.now whole (g.S.Sink.written c.args.out.now) (g.S.Sink.written c.write_in_turn.new.out) c.write_in_turn.result read are
    (c.write_in_turn.ensures.wrote maps asked read.ordered holds honest read.each))
    (c.in_ok-refuse_untiled.ensures.tiled maps asked whole read are)
