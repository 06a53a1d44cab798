use Rattle.std.proofs.Common.{Bor, ℕ, List, Option, Some, refl, subst}
use Rattle.osm_value.specs.Value.{Text}
use Rattle.osm_columns.specs.Indexes.{NamesMore}
use Rattle.osm_columns.proofs.ListLemmas.{mapped-next}
use Rattle.osm_columns.proofs.IndexLemmas.{more-twice}
use Rattle.osm_columns.proofs.indexes.push_texts.Goals as goal

pub loop-text-preserved : goal.loop-text-preserved
loop-text-preserved c =
    let f : Bor (List ℕ) → Option Text = λ t. Some t.now in
    let P : List (Option Text) → Type 0 = λ named. NamesMore named c.args.dictionary.now c.push_text.new.dictionary c.args.indexes.now.items c.push_text.new.indexes.items in
    subst P (mapped-next f c.args.texts.now c.loop-text.text-index _ _ c.loop-text-test.true refl) (more-twice _ _ _ _ _ _ _ _ c.loop-text.invariant c.in_ok-push_text.ensures)
