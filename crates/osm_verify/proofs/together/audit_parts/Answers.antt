use Rattle.std.proofs.Common.{◌≡◌, false, List, [], sym, subst}
use Rattle.std.proofs.lemmas.Result.{IfOk-weaker}
use Rattle.osm_reading.specs.Framings.{Known}
use Rattle.osm_parts.specs.Reading.{AreRead, AreStores}
use Rattle.osm_parts.specs.declared.runs.Part.{Part}
use Rattle.osm_parts.proofs.OpeningLemmas.{if-err}
use Rattle.osm_verify.specs.Faults.{AuditHasCause, IsOfParts}
use Rattle.osm_verify.specs.declared.fault.AuditFault.TheVariants.{Parts}
use Rattle.osm_verify.specs.Judging.{ShowsPart}
use Rattle.osm_verify.specs.Showing.{AreShownParts}
use Rattle.osm_verify.specs.Together.{AreAllJudged}
use Rattle.osm_verify.proofs.ShowingLemmas.{shown-known}
use Rattle.osm_verify.proofs.TogetherLemmas.{agreed-known, own-parts}
use Rattle.osm_verify.proofs.together.audit_parts.Goals as goal

pub returns-clause-told : goal.returns-clause-told
returns-clause-told g c = λ maps holds honest all.
    let made = c.in_ok-all.ensures in
    let known : Known = g.F.FileBytes.bytes c.args.file.now in
    let judged = subst (λ (k : Known). AreAllJudged c.args.depth k maps c.in_ok-all.all.findings.items) c.in_ok-size.ensures.kept (made.audited maps holds honest all).found in
    let stores = subst (λ (l : List Part). AreStores false 0 maps l) (sym c.deref.ensures.value) (made.audited maps holds honest all).read in
    let read = subst (λ (l : List Part). AreRead maps false l) (sym c.deref-2.ensures.value) (c.in_ok-parts.ensures.read maps false stores) in
    c.verdict_of.ensures.verdict maps c.args.depth known read judged c.in_ok-size.ensures.told

pub returns-clause-exact : goal.returns-clause-exact
returns-clause-exact g c = λ maps holds honest all.
    IfOk-weaker c.verdict_of.result _ _ (λ verdict is agreed. agreed-known c.args.depth (g.F.FileBytes.bytes c.args.file.now) maps verdict is agreed) (returns-clause-told g c maps holds honest all)

pub returns-clause-shown : goal.returns-clause-shown
returns-clause-shown g c = λ honest deep tables.
    let A = g.K.Audited in
    let O = g.O.Openings in
    let made = c.in_ok-all.ensures in
    let known : Known = g.F.FileBytes.bytes c.args.file.now in
    let before : Known = g.F.FileBytes.bytes c.size_of.new.file in
    let stores = c.in_ok-all.all.stores.items in
    let findings = c.in_ok-all.all.findings.items in
    shown-known (O.lies c.args.openings.now) (λ store. A.has_rows (A.trees store)) A.layout A.trees known c.verdict_of.result c.args.count stores findings
    (subst (λ (k : Known). findings ≡ [] → AreShownParts (O.lies c.args.openings.now) (λ store extents. ShowsPart (A.has_rows (A.trees store)) A.layout (A.trees store) k extents) 0 stores) c.in_ok-size.ensures.kept (made.shown honest deep tables))
    made.many c.verdict_of.ensures.findings
    (λ maps are. (
    let there = subst (λ (l : List Part). AreStores false 0 maps l) (sym c.deref.ensures.value) are in
    let read = subst (λ (l : List Part). AreRead maps false l) (sym c.deref-2.ensures.value) (c.in_ok-parts.ensures.read maps false there) in
    c.verdict_of.ensures.covers maps known read c.in_ok-size.ensures.told))

pub returns-in_err-size-clause-fault : goal.returns-in_err-size-clause-fault
returns-in_err-size-clause-fault g c = λ maps holds honest all. if-err c.from_residual.result c.in_err-size.field-0.0 (IsOfParts maps) c.from_residual.ensures.1 (c.in_err-size.ensures.fault maps)

pub returns-in_err-size-clause-cause : goal.returns-in_err-size-clause-cause
returns-in_err-size-clause-cause g c = λ maps holds honest.
    let now = g.O.Openings.failures c.args.openings.now in
    if-err c.from_residual.result c.in_err-size.field-0.0 (AuditHasCause now now) c.from_residual.ensures.1 (c.in_err-size.ensures.cause now now)

pub returns-in_err-all-clause-fault : goal.returns-in_err-all-clause-fault
returns-in_err-all-clause-fault g c = λ maps holds honest all.
    if-err c.from_residual-in_err-all.result c.in_err-all.field-0.0 (IsOfParts maps) c.from_residual-in_err-all.ensures.1 (own-parts maps c.in_err-all.field-0.0 (c.in_err-all.ensures.fault maps holds honest).own)

pub returns-in_err-all-clause-cause : goal.returns-in_err-all-clause-cause
returns-in_err-all-clause-cause g c = λ maps holds honest.
    let old = g.O.Openings.failures c.args.openings.now in
    let now = g.O.Openings.failures c.gather.new.openings in
    if-err c.from_residual-in_err-all.result c.in_err-all.field-0.0 (AuditHasCause old now) c.from_residual-in_err-all.ensures.1 (c.in_err-all.ensures.fault maps holds honest).cause

pub returns-in_err-parts-clause-fault : goal.returns-in_err-parts-clause-fault
returns-in_err-parts-clause-fault g c = λ maps holds honest all.
    let stores = subst (λ (l : List Part). AreStores false 0 maps l) (sym c.deref.ensures.value) (c.in_ok-all.ensures.audited maps holds honest all).read in
    if-err c.from_residual-in_err-parts.result (Parts c.in_err-parts.field-0.0) (IsOfParts maps) c.from_residual-in_err-parts.ensures.1 (c.in_err-parts.ensures.fault maps false stores)

pub returns-in_err-parts-clause-cause : goal.returns-in_err-parts-clause-cause
returns-in_err-parts-clause-cause g c = λ maps holds honest.
    let old = g.O.Openings.failures c.args.openings.now in
    let now = g.O.Openings.failures c.gather.new.openings in
    if-err c.from_residual-in_err-parts.result (Parts c.in_err-parts.field-0.0) (AuditHasCause old now) c.from_residual-in_err-parts.ensures.1 (c.in_err-parts.ensures.cause old now)

pub returns-clause-fault : goal.returns-clause-fault
returns-clause-fault g c = λ maps holds honest all. c.verdict_of.ensures.fault maps

pub returns-clause-cause : goal.returns-clause-cause
returns-clause-cause g c = λ maps holds honest. c.verdict_of.ensures.cause (g.O.Openings.failures c.args.openings.now) (g.O.Openings.failures c.gather.new.openings)
