use Rattle.std.proofs.Common.{◌≡◌, ℕ, ◌∙◌, ◌+◌, [], ◌∷◌, map, length, length-append, arith, sym, ap, ext_get_or}
use Rattle.std.proofs.lemmas.List.{length-map}
use Rattle.sqlite_value.specs.declared.value.Value.TheVariants.{Null}
use Rattle.sqlite_value.specs.Order.{column}
use Rattle.sqlite_trees.specs.Tree.{rowid}
use Rattle.sqlite_sql.specs.Catalog.{entry_of}
use Rattle.sqlite_exec.proofs.ScanLemmas.{rowid-entry_of}
use Rattle.osm_tree_audits.proofs.Reaching.{at_last}
use Rattle.osm_tree_audits.proofs.indexes.is_entry_of.Goals as goal

pub returns : goal.returns
returns c =
    let cs = c.args.columns.now in
    let row = c.args.row.now in
    let entry = c.args.entry.now in
    let wide : length (entry_of cs row) ≡ length cs + 1 = length-append (map (column row) cs) (rowid row ∷ []) ∙ ap (λ n. n + 1) (length-map cs (column row)) in
    let long : length entry ≡ length cs + 1 = omega (arith, c.len.ensures, c.if-len-columns.false) in
    let Same : ℕ → Type 0 = λ k. column entry k ≡ column (entry_of cs row) k in (
      (λ yes. ext_get_or Null entry (entry_of cs row) (long ∙ sym wide)
          (λ k h. at_last (length cs) Same (λ i low. c.loop-at.invariant i (omega (arith, low, c.loop-at-test.false)))
          (c.are_same-2.ensures.0 yes ∙ sym (rowid-entry_of cs row)) k (omega (arith, h, long)))),
      (λ same. c.are_same-2.ensures.1 (ap (λ r. column r (length cs)) same ∙ rowid-entry_of cs row)),
    )
