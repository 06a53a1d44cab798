-- What a search for the elements of one kind and id reads of the layout of tables.
use Rattle.std.proofs.Common.{◌≡◌, inl, inr, true, false, List, [], ◌∷◌, ◌++◌, map, refl, sym, ap, ap₂, ◌∙◌, append-nil, arith}
use Rattle.std.specs.Prelude.{flat_map, filter}
use Rattle.std.specs.List.{AllByRecursion}
use Rattle.std.proofs.lemmas.Bool.Decides.{nat_tests}
use Rattle.std.proofs.lemmas.List.{map-append}
use Rattle.std.proofs.lemmas.List.Concat.{flat_map-append}
use Rattle.std.proofs.lemmas.List.Elements.{filter-append}
use Rattle.sqlite_trees.specs.Tree.{IsAscending}
use Rattle.sqlite_trees.proofs.ListLemmas.{all_weaker, all_both, filter_all, filter_none}
use Rattle.osm_value.specs.Elements.{tags_of_element}
use Rattle.osm_rows.specs.Held.{HeldMap}
use Rattle.osm_rows.specs.Rows.{Placed, placed_in}
use Rattle.osm_rows.specs.Load.TableParts.{is_part_at, IsAlone}
use Rattle.osm_rows.specs.TableRows.{Part, links_of}
use Rattle.osm_rows.proofs.MapLemmas.PlacedLaws.{IsBefore, placed_in_rise}
use Rattle.osm_rows.proofs.MapLemmas.PartLaws.{IsAt, parts_own, parts_in}

-- the rows of one element's parts more
pub several_more : {X Y R : Type 0} (row : Y → R) (inner : X → List Y) (before after : List X) (x : X) (olds its news : List R) → after ≡ before ++ x ∷ [] → olds ≡ map row (flat_map inner before) → its ≡ map row (inner x)
    → news ≡ olds ++ its → news ≡ map row (flat_map inner after)
several_more row inner before after x olds its news more so_far own grown =
    grown ∙ ap₂ ◌++◌ so_far own ∙ sym (map-append row (flat_map inner before) (inner x)) ∙ ap (map row) (sym (flat_map-append inner before (x ∷ []) ∙ ap (λ l. flat_map inner before ++ l) (append-nil (inner x))) ∙ ap (flat_map inner) (sym more))

-- ---- the parts of one element

module _ {A : Type 0} (items : Placed → List A) where
  here_at : (p : Placed) (x : Part A) → IsAt p x → is_part_at p.0 p.1 x ≡ true
  here_at p x at = grind (arith, nat_tests, at.0, at.1)

  later_at : (p q : Placed) (x : Part A) → IsBefore p q → IsAt q x → is_part_at p.0 p.1 x ≡ false
  later_at p q x (inl low) at = grind (arith, nat_tests, low, at.0)
  later_at p q x (inr h) at = grind (arith, nat_tests, h.1, at.1)

  sooner_at : (p q : Placed) (x : Part A) → IsBefore q p → IsAt q x → is_part_at p.0 p.1 x ≡ false
  sooner_at p q x (inl low) at = grind (arith, nat_tests, low, at.0)
  sooner_at p q x (inr h) at = grind (arith, nat_tests, h.1, at.1)

  none_later : (p : Placed) (ps : List Placed) → AllByRecursion (IsBefore p) ps → filter (is_part_at p.0 p.1) (flat_map (parts_in items) ps) ≡ []
  none_later p [] after = refl
  none_later p (q ∷ ps) after =
      filter-append (λ (x : Part A). is_part_at p.0 p.1 x) (parts_in items q) (flat_map (parts_in items) ps)
      ∙ ap₂ ◌++◌ (filter_none (λ (x : Part A). is_part_at p.0 p.1 x) _ (all_weaker _ _ (λ x at. later_at p q x after.0 at) _ (parts_own q 0 (items q)))) (none_later p ps after.1)

  alone : (ps : List Placed) → IsAscending IsBefore ps → AllByRecursion (λ (p : Placed). filter (is_part_at p.0 p.1) (flat_map (parts_in items) ps) ≡ parts_in items p) ps
  alone [] up = tt
  alone (p ∷ ps) up = (
    filter-append (λ (x : Part A). is_part_at p.0 p.1 x) (parts_in items p) (flat_map (parts_in items) ps)
        ∙ ap₂ ◌++◌ (filter_all (λ (x : Part A). is_part_at p.0 p.1 x) _ (all_weaker _ _ (λ x at. here_at p x at) _ (parts_own p 0 (items p)))) (none_later p ps up.0) ∙ append-nil (parts_in items p),
    all_both _ _ (λ (q : Placed). filter (is_part_at q.0 q.1) (flat_map (parts_in items) (p ∷ ps)) ≡ parts_in items q) (λ q before is.
        filter-append (λ (x : Part A). is_part_at q.0 q.1 x) (parts_in items p) (flat_map (parts_in items) ps)
        ∙ ap₂ ◌++◌ (filter_none (λ (x : Part A). is_part_at q.0 q.1 x) _ (all_weaker _ _ (λ x at. sooner_at q p x before at) _ (parts_own p 0 (items p)))) is) ps up.0 (alone ps up.1),
  )

pub all_alone : (held : HeldMap) → AllByRecursion (IsAlone (placed_in held)) (placed_in held)
all_alone held =
    all_both _ _ (IsAlone (placed_in held)) (λ p tags links. record { tags = tags; links = links }) (placed_in held)
    (alone (λ (p : Placed). tags_of_element p.2) (placed_in held) (placed_in_rise held)) (alone (λ (p : Placed). links_of p.2) (placed_in held) (placed_in_rise held))
