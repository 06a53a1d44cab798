use Rattle.std.proofs.Common.{rules, is_lt}
use Rattle.std.proofs.lemmas.Result.{on_ok_weaker}
use Rattle.std.proofs.lemmas.List.Sorted.{ranks_by}
use Rattle.std.proofs.lemmas.Fn.{always_returns_same}
use Rattle.sqlite_value.specs.Keys.{plain, entry_cmp}
use Rattle.sqlite_value.proofs.KeyLemmas.{entry_cmp_total}
use Rattle.osm_trees.proofs.search.sort_rows.Goals as goal

pub returns-clause-sorted : goal.returns-clause-sorted
returns-clause-sorted c =
    on_ok_weaker c.sort_by.result
    (λ sorted. sorted (λ a b. is_lt (entry_cmp plain a b)) (ranks_by (entry_cmp_total plain) (λ x. x)) (always_returns_same _ _ _ (λ a r f k. search rules)))
    c.sort_by.ensures.sorted
