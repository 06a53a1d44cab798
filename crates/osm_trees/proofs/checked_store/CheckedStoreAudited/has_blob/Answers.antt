use Rattle.std.proofs.Common.{sym, subst}
use Rattle.osm_rows.specs.Held.{Blob}
use Rattle.osm_rows.proofs.AuditLemmas.Telling.{iff_then, ok_told}
use Rattle.osm_trees.proofs.Audits.{is_indexed, kept_is}
use Rattle.osm_trees.specs.Checking.{Checking, HoldsChecked}
use Rattle.osm_trees.proofs.CheckedReads.{checked_reads}
use Rattle.osm_trees.proofs.checked_store.CheckedStoreAudited.has_blob.Goals as goal

pub returns-clause-held : goal.returns-clause-held
returns-clause-held g c held holds clean plain =
    let blob : Blob = record { fin = c.args.fin; digest = c.args.digest.now; kind = c.args.kind; elements = c.args.elements.now } in
    let v = g.S.Store.view c.self.inside.trees.store in
    let was = subst (λ (x : Checking _). HoldsChecked g.S.Store x held) (sym c.self.view_is) holds in
    ok_told c.has_rows_of.result (λ b told. iff_then told (kept_is v held was.0 c.args.off blob plain)) (c.has_rows_of.ensures.told clean (is_indexed v held was.0) was.1)

pub returns-clause-reads : goal.returns-clause-reads
returns-clause-reads g c = checked_reads g.S.Store g.met.S.Store.broken_if_shut c.self.inside.trees c.has_rows_of.new.self c.self.inside.look c.args.self.now c.self.view_is c.has_rows_of.result c.has_rows_of.ensures.reads
