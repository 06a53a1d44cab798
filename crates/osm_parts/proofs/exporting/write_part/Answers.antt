use Rattle.std.proofs.Common.{◌∙◌, Result, Err, ap, sym, subst}
use Rattle.std.proofs.lemmas.Result.{err_from_is_err_and}
use Rattle.std.specs.FinMap.{entries}
use Rattle.osm_rows.specs.Held.{HeldMap}
use Rattle.osm_import.specs.Walks.{Walks}
use Rattle.osm_import.specs.declared.export.fault.ExportFault.{ExportFault}
use Rattle.osm_parts.proofs.OpeningLemmas.{same-held}
use Rattle.osm_parts.proofs.ExportingLemmas.{unopened, export-closed}
use Rattle.osm_parts.proofs.exporting.write_part.Goals as goal

pub returns-in_err-store-clause-wrote : goal.returns-in_err-store-clause-wrote
returns-in_err-store-clause-wrote g c = λ maps asked run holds honest is.
    let p = err_from_is_err_and c.from_residual.result c.from_residual.ensures.1 in
    subst (λ (r : Result (Unit {0}) ExportFault). Walks g.W.BlobStep.writes (g.S.Sink.written c.args.out.now) (entries run) (g.S.Sink.written c.args.out.now) r) (sym (p.1 ∙ ap (λ (fault : ExportFault). Err fault) p.2))
    (unopened g.W.BlobStep.writes (g.S.Sink.written c.args.out.now) maps asked c.args.part.now run c.in_err-store.field-0.0 is)

pub returns-clause-wrote : goal.returns-clause-wrote
returns-clause-wrote g c = λ maps asked run holds honest is.
    let both = c.close.ensures.honest honest in
    let it = c.in_ok-store.ensures.lent maps holds both.0 (c.write_blobs-answer.ensures.rereads.stays.honest both.1) in
    let same = same-held maps c.args.part.now.place it.held is.store it.at is.at in
    c.write_blobs-answer.ensures.wrote is.store run (subst (λ (m : HeldMap). g.K.BlobReader.holds c.in_ok-store.store m) same it.store) both.1 is.within (c.deref.ensures.value ∙ is.extents)

pub returns-clause-cause : goal.returns-clause-cause
returns-clause-cause g c =
    export-closed _ _ _ _ _ (g.S.Sink.has_failed c.write_blobs-answer.new.out) c.write_blobs-answer.result c.in_ok-store.ensures.counted c.close.ensures.counted c.write_blobs-answer.ensures.cause
