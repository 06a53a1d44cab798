use Rattle.std.proofs.Common.{Bor, ℕ, List, Option, Some, refl, subst}
use Rattle.osm_value.specs.Value.{Text}
use Rattle.osm_columns.specs.Indexes.{NamesMore}
use Rattle.osm_columns.proofs.ListLemmas.{mapped-next}
use Rattle.osm_columns.proofs.IndexLemmas.{more-twice}
use Rattle.osm_columns.proofs.indexes.push_keys.Goals as goal

pub loop-tag-preserved : goal.loop-tag-preserved
loop-tag-preserved c =
    let f : Bor (List ℕ) × Bor (List ℕ) → Option Text = λ t. Some t.0.now in
    let P : List (Option Text) → Type 0 = λ named. NamesMore named c.args.dictionary.now c.push_text.new.dictionary c.args.indexes.now.items c.push_text.new.indexes.items in
    subst P (mapped-next f c.args.tags.now c.loop-tag.tag-index _ _ c.loop-tag-test.true refl) (more-twice _ _ _ _ _ _ _ _ c.loop-tag.invariant c.in_ok-push_text.ensures)
