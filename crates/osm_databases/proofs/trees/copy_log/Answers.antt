use Rattle.std.proofs.Common.{◌∙◌, sym, ap, IsTrue}
use Rattle.sqlite_trees.proofs.Doubt.{no_doubt}
use Rattle.sqlite_trees.specs.View.{View, IsClean}
use Rattle.sqlite_store.specs.FileStore.{state, view}
use Rattle.sqlite_store.proofs.StepLemmas.{quiet_then}
use Rattle.sqlite_wal.proofs.StateLemmas.{clean_of}
use Rattle.osm_databases.proofs.trees.copy_log.Goals as goal

pub returns-clause-committed : goal.returns-clause-committed
returns-clause-committed g c = λ up.
    let mid = c.rollback.new.self in
    let same = c.checkpoint-copied.ensures.same up in
    let open_then : IsTrue (view mid).is_open = sym (ap (λ (v : View). v.is_open) same) ∙ up in
    let clean : IsClean (view mid) = no_doubt _ (clean_of (state mid) open_then) in
    ap (λ (v : View). v.committed) same ∙ (c.rollback.ensures.undone.kept clean).committed open_then

pub returns-clause-undone : goal.returns-clause-undone
returns-clause-undone g c = λ up.
    let same = c.checkpoint-copied.ensures.same up in
    ap (λ (v : View). v.trees) same ∙ (c.rollback.ensures.undone.undone (sym (ap (λ (v : View). v.is_open) same) ∙ up)).0

pub returns-clause-quiet : goal.returns-clause-quiet
returns-clause-quiet g c = quiet_then c.rollback.ensures.quiet c.checkpoint-copied.ensures.quiet
