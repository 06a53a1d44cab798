use Rattle.std.proofs.Common.{◌∙◌, subst, sym}
use Rattle.std.proofs.lemmas.Result.{MatchResult-weaker, err_from_is_err_and}
use Rattle.osm_rows.specs.declared.schema.layout.Layout.TheVariants.{Tables}
use Rattle.osm_trees.specs.Below.{HoldsBelow}
use Rattle.osm_trees.specs.Reading.{Reading}
use Rattle.osm_trees.proofs.Answers.{ok_of, read_ends, refused}
use Rattle.osm_trees.proofs.Mending.{clean_until}
use Rattle.osm_trees.proofs.tree_store.TreeStoreBlobReader.history.Goals as goal

pub returns-in_err-begin_read-clause-reads : goal.returns-in_err-begin_read-clause-reads
returns-in_err-begin_read-clause-reads g c =
    let p = err_from_is_err_and c.from_residual.result c.from_residual.ensures.1 in
    rw (p.1, p.2) (refused g.S.Store _ _ _ c.in_err-begin_read.ensures.reads)

pub returns-clause-reads : goal.returns-clause-reads
returns-clause-reads g c =
    let inside : Reading _ = record { store = c.self.inside.store; failures = c.self.inside.failures } in
    read_ends g.S.Store g.met.S.Store.settled g.met.S.Store.broken_if_shut g.met.S.Store.stays c.args.self.now inside c.any_flag-answer.new.store c.end_read.new.self
    (c.self.view_is ∙ c.in_ok-begin_read.ensures.same) c.in_ok-begin_read.ensures.up c.any_flag-answer.ensures.looks c.end_read.ensures.mends c.any_flag-answer.result
    (λ clean held holds. MatchResult-weaker c.any_flag-answer.result (c.any_flag-answer.ensures.held clean held holds) (λ v h. h.1) (λ fault h. h)) c.end_read.ensures.counted

pub returns-clause-flags : goal.returns-clause-flags
returns-clause-flags g c held holds clean =
    let was = subst (λ (r : Reading _). HoldsBelow Tables (g.S.Store.view r.store) held) (sym (c.self.view_is ∙ c.in_ok-begin_read.ensures.same)) holds in
    ok_of _ _ _ c.any_flag-answer.result (c.any_flag-answer.ensures.held (clean_until g.S.Store _ _ c.end_read.ensures.mends clean) held was)
