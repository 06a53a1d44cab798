use Rattle.std.proofs.Common.{Bor, ℕ, List, Option, Some, sym, subst}
use Rattle.osm_value.specs.Value.{Text}
use Rattle.osm_columns.specs.Texts.{NameAll}
use Rattle.osm_columns.specs.Indexes.{texts_in}
use Rattle.osm_columns.proofs.GroupLemmas.{mapped-twice}
use Rattle.osm_columns.proofs.IndexLemmas.{named-alone}
use Rattle.osm_columns.proofs.indexes.TextIndexes.with_table.Goals as goal

pub returns-clause-table : goal.returns-clause-table
returns-clause-table c =
    let now : Bor (List ℕ) → Text = λ t. t.now in
    let P : List (Option Text) → Type 0 = λ named. NameAll (texts_in c.push_texts.new.dictionary) c.push_texts.new.indexes.items named in
    subst P (sym (mapped-twice now (λ t. Some t) c.args.texts.now)) (named-alone _ _ _ _ _ c.in_ok-table.ensures.items c.in_ok-push_texts.ensures)
