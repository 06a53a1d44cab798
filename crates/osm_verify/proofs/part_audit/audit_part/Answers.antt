use Rattle.std.proofs.Common.{◌≡◌, ◌∙◌, List, [], sym, subst, arith}
use Rattle.sqlite.specs.Tree.{Trees}
use Rattle.osm_rows.specs.Audit.{AreCountable, ShowsCounts, counts_of, elements_held}
use Rattle.osm_rows.specs.declared.audit.counts.Counts.{Counts}
use Rattle.osm_rows.specs.declared.keeper.Extent.{Extent}
use Rattle.osm_parts.specs.declared.fault.PartsFault.TheVariants.{Store}
use Rattle.osm_parts.proofs.OpeningLemmas.{if-err}
use Rattle.osm_verify.specs.Faults.{IsOwnFault}
use Rattle.osm_verify.specs.Judging.{AreEntriesIn, AreJudged}
use Rattle.osm_verify.specs.declared.comparing.Depth.TheVariants.{Elements}
use Rattle.osm_verify.specs.declared.fault.AuditFault.TheVariants.{Parts}
use Rattle.osm_verify.proofs.TogetherLemmas.{audit-later, failed-call}
use Rattle.osm_verify.proofs.part_audit.audit_part.Goals as goal

pub returns-clause-audited : goal.returns-clause-audited
returns-clause-audited g c = λ held holds honest.
    let first = c.in_ok-extents.ensures in
    let middle = c.in_ok-findings.ensures in
    let second = c.in_ok-refuse_other_rows.ensures.rereads.stays.honest honest in
    let early = middle.reads.rereads.stays.honest second in
    record {
      apart = g.met.K.BlobReader.is_apart c.args.store.now held holds;
      extents = first.all held holds early;
      found = subst (λ (es : List Extent). AreJudged c.args.depth held (g.F.FileBytes.bytes c.args.file.now) es c.in_ok-findings.findings.items) (c.deref.ensures.value ∙ first.all held holds early)
          (middle.found held (first.reads.ok early held holds) second);
    }

pub returns-clause-shown : goal.returns-clause-shown
returns-clause-shown g c = λ honest tables deep none.
    let A = g.K.Audited in
    let M = g.met.K.Audited in
    let known = g.F.FileBytes.bytes c.args.file.now in
    let first = c.in_ok-extents.ensures in
    let middle = c.in_ok-findings.ensures in
    let last = c.in_ok-refuse_other_rows.ensures in
    let second = last.rereads.stays.honest honest in
    let early = middle.reads.rereads.stays.honest second in
    let seen = middle.seen none in
    let value = c.deref.ensures.value in
    record {
      apart = first.apart;
      blobs = seen.blobs;
      are = subst (λ (es : List Extent). AreEntriesIn (λ off blob. Unit {0}) known es seen.blobs) value seen.good;
      shown = λ few.
          let told = last.shown honest (subst (λ (r : Counts). AreCountable r) (sym seen.counted) few) (c.deref-2.ensures.value ∙ none) deep in
          let open_second = last.rereads.stays.open_if told.0 in
          let open_early = middle.reads.rereads.stays.open_if open_second in
          let same = first.reads.same early open_early in
          let again = middle.reads.same second open_second in
          let tables_early = M.same_has_tables _ _ same tables in
          let tables_second = M.same_has_tables _ _ again tables_early in (
            subst (λ (db : Trees). AreEntriesIn (A.has_rows db) known c.in_ok-extents.extents.items seen.blobs) (M.same_trees _ _ same)
                (subst (λ (es : List Extent). AreEntriesIn (A.has_rows (A.trees c.extents.new.self)) known es seen.blobs) value (seen.rows second open_second tables_early deep)),
            subst (λ (db : Trees). ShowsCounts A.layout db (counts_of seen.blobs)) (M.same_trees _ _ again ∙ M.same_trees _ _ same)
                (subst (λ (r : Counts). ShowsCounts A.layout (A.trees c.audit_extents.new.store) r) seen.counted (told.1 tables_second)),
          );
    }

pub returns-in_err-extents-clause-fault : goal.returns-in_err-extents-clause-fault
returns-in_err-extents-clause-fault g c = λ held holds honest.
    let failed = c.in_err-extents.ensures.reads in
    let fault = c.in_err-extents.field-0.0 in
    let old = g.K.BlobReader.failures c.args.store.now in
    let now = g.K.BlobReader.failures c.extents.new.self in
    if-err c.from_residual.result (Parts (Store fault)) (IsOwnFault old now) c.from_residual.ensures.1
    (record { own = failed.own held holds honest; cause = failed-call old now fault failed.counted })

pub returns-in_err-findings-clause-fault : goal.returns-in_err-findings-clause-fault
returns-in_err-findings-clause-fault g c = λ held holds honest.
    let first = c.in_ok-extents.ensures in
    let failed = c.in_err-findings.ensures in
    let fault = c.in_err-findings.field-0.0 in
    let early = failed.reads.rereads.stays.honest honest in
    let old = g.K.BlobReader.failures c.args.store.now in
    let middle = g.K.BlobReader.failures c.extents.new.self in
    let now = g.K.BlobReader.failures c.audit_extents.new.store in
    if-err c.from_residual-in_err-findings.result fault (IsOwnFault old now) c.from_residual-in_err-findings.ensures.1
    (record { own = failed.own held (first.reads.ok early held holds) honest; cause = audit-later old middle now fault (omega (arith, first.reads.counted)) failed.cause })

pub returns-in_err-refuse_other_rows-clause-fault : goal.returns-in_err-refuse_other_rows-clause-fault
returns-in_err-refuse_other_rows-clause-fault g c = λ held holds honest.
    let first = c.in_ok-extents.ensures in
    let middle = c.in_ok-findings.ensures in
    let failed = c.in_err-refuse_other_rows.ensures in
    let fault = c.in_err-refuse_other_rows.field-0.0 in
    let second = failed.rereads.stays.honest honest in
    let early = middle.reads.rereads.stays.honest second in
    let still = first.reads.ok early held holds in
    let again = middle.reads.rereads.ok second held still in
    let rows_are : c.deref-2.result.now ≡ [] → c.args.depth ≡ Elements → c.audit_extents.new.rows ≡ counts_of (elements_held held) =
    λ none deep. (middle.seen (sym c.deref-2.ensures.value ∙ none)).held_rows held still second (c.deref.ensures.value ∙ first.all held holds early) deep in
    let old = g.K.BlobReader.failures c.args.store.now in
    let before = g.K.BlobReader.failures c.audit_extents.new.store in
    let now = g.K.BlobReader.failures c.refuse_other_rows.new.store in
    if-err c.from_residual-in_err-refuse_other_rows.result fault (IsOwnFault old now) c.from_residual-in_err-refuse_other_rows.ensures.1
    (record {
      own = failed.own held again honest rows_are;
      cause = audit-later old before now fault (omega (arith, first.reads.counted, middle.reads.counted)) (failed.cause held again honest rows_are);
    })
