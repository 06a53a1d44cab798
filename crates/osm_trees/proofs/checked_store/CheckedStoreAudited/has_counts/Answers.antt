use Rattle.std.proofs.Common.{sym, subst}
use Rattle.osm_rows.specs.Audit.{AreCountable, ShowsCounts}
use Rattle.osm_rows.specs.declared.audit.counts.Counts.{Counts}
use Rattle.osm_rows.specs.declared.schema.layout.Layout.TheVariants.{Tables}
use Rattle.osm_rows.proofs.AuditLemmas.Telling.{ok_told}
use Rattle.osm_trees.proofs.Audits.{is_indexed, counted}
use Rattle.osm_trees.specs.Checking.{Checking, HoldsChecked}
use Rattle.osm_trees.proofs.CheckedReads.{checked_reads}
use Rattle.osm_trees.proofs.checked_store.CheckedStoreAudited.has_counts.Goals as goal

pub returns-clause-held : goal.returns-clause-held
returns-clause-held g c held holds clean same few =
    let v = g.S.Store.view c.self.inside.trees.store in
    let was = subst (λ (x : Checking _). HoldsChecked g.S.Store x held) (sym c.self.view_is) holds in
    let shown = subst (λ (n : Counts). ShowsCounts Tables v.committed n) (sym same) (counted v held was.0 (subst (λ (n : Counts). AreCountable n) same few)) in
    ok_told c.has_row_counts.result (λ b told. told.1 shown) (c.has_row_counts.ensures.told clean (is_indexed v held was.0) was.1)

pub returns-clause-reads : goal.returns-clause-reads
returns-clause-reads g c = checked_reads g.S.Store g.met.S.Store.broken_if_shut c.self.inside.trees c.has_row_counts.new.self c.self.inside.look c.args.self.now c.self.view_is c.has_row_counts.result c.has_row_counts.ensures.reads
