use Rattle.std.proofs.Common.{◌∙◌, subst}
use Rattle.std.proofs.lemmas.Result.{err_from_is_err_and}
use Rattle.std.specs.Prelude.{◌↔◌, IfOk, IsTrue}
use Rattle.osm_rows.specs.Audit.{ShowsCounts}
use Rattle.osm_rows.specs.declared.schema.layout.Layout.TheVariants.{Tables}
use Rattle.osm_tree_audits.specs.Looks.{IsLook}
use Rattle.osm_trees.specs.Below.{IsIndexed}
use Rattle.osm_trees.specs.Reading.{Reading}
use Rattle.osm_trees.proofs.Answers.{answered, opened_of, read_ends, refused, sound_of}
use Rattle.osm_trees.proofs.Audits.{told_counts}
use Rattle.osm_trees.proofs.Mending.{clean_until}
use Rattle.osm_trees.proofs.tree_store.TreeStore.has_row_counts.Goals as goal

pub returns-clause-told : goal.returns-clause-told
returns-clause-told g c clean =
    let counts = c.args.counts.now in
    let look = c.args.look.now in
    let inside : Reading _ = record { store = c.self.inside.store; failures = c.self.inside.failures } in
    subst (λ (r : Reading _). IsIndexed (g.S.Store.view r.store) → IsLook (g.S.Store.view r.store).committed look → IfOk c.has_row_counts-answer.result (λ told. IsTrue told ↔ ShowsCounts Tables (g.S.Store.view r.store).committed counts)) (c.self.view_is ∙ c.in_ok-begin_read.ensures.same)
    (λ is seen. told_counts (g.S.Store.view inside.store) look counts c.has_row_counts-answer.result is seen (c.has_row_counts-answer.ensures.told (clean_until g.S.Store _ _ c.end_read.ensures.mends clean)))

pub returns-clause-opened : goal.returns-clause-opened
returns-clause-opened g c clean =
    opened_of g.S.Store g.met.S.Store.broken_if_shut _ _ c.end_read.ensures.mends c.has_row_counts-answer.result c.has_row_counts-answer.ensures.sound clean

pub returns-in_err-begin_read-clause-reads : goal.returns-in_err-begin_read-clause-reads
returns-in_err-begin_read-clause-reads g c =
    let p = err_from_is_err_and c.from_residual.result c.from_residual.ensures.1 in
    rw (p.1, p.2) (refused g.S.Store _ _ _ c.in_err-begin_read.ensures.reads)

pub returns-clause-reads : goal.returns-clause-reads
returns-clause-reads g c =
    let inside : Reading _ = record { store = c.self.inside.store; failures = c.self.inside.failures } in
    read_ends g.S.Store g.met.S.Store.settled g.met.S.Store.broken_if_shut g.met.S.Store.stays c.args.self.now inside c.has_row_counts-answer.new.store c.end_read.new.self
    (c.self.view_is ∙ c.in_ok-begin_read.ensures.same) c.in_ok-begin_read.ensures.up c.has_row_counts-answer.ensures.looks c.end_read.ensures.mends c.has_row_counts-answer.result
    (λ clean held holds. answered _ _ c.has_row_counts-answer.result (sound_of _ _ c.has_row_counts-answer.result clean c.has_row_counts-answer.ensures.sound) c.has_row_counts-answer.ensures.ours) c.end_read.ensures.counted
