-- What the steps of a put come to.
use Rattle.std.proofs.Common.{◌≡◌, ◌≢◌, ◌<◌, ◌≤◌, ◌+◌, ℕ, inl, inr, false, List, [], ◌∷◌, ◌++◌, map, drop, refl, sym, ap, subst, ◌∙◌, arith}
use Rattle.std.specs.Prelude.{flat_map}
use Rattle.std.specs.List.{AllByRecursion}
use Rattle.std.specs.List.Sorted.{IsPermutation}
use Rattle.std.proofs.lemmas.List.{map-append}
use Rattle.std.proofs.lemmas.List.Concat.{flat_map-append}
use Rattle.std.proofs.lemmas.List.Sorted.{IsPermutation-refl}
use Rattle.sqlite_value.specs.Order.{Row}
use Rattle.sqlite_trees.specs.Tree.{Trees, IsAscending, put_row}
use Rattle.sqlite_trees.specs.Objects.{catalog_tree}
use Rattle.sqlite_trees.specs.View.{View, IsShaped, IsOrdered, SetsTree}
use Rattle.sqlite_trees.specs.declared.store.Shape.{Shape}
use Rattle.sqlite_exec.specs.Calls.{OnlyReads}
use Rattle.sqlite_sql.specs.Catalog.{IsIndexOf}
use Rattle.sqlite_schema.specs.declared.schema.Index.{Index as AddedIndex}
use Rattle.sqlite_trees.proofs.ListLemmas.{all_weaker}
use Rattle.osm_rows.specs.declared.keeper.Extent.{Extent}
use Rattle.osm_rows.specs.Rows.{Placed, extent_row}
use Rattle.osm_rows.specs.TableRows.{Part, element_row, tag_row, link_row, tags_at, links_at, element_rows, tag_rows, link_rows}
use Rattle.osm_rows.specs.Put.Gains.{Gains}
use Rattle.osm_rows.proofs.PutLemmas.Gaining.{gains_then}
use Rattle.osm_tree_writes.specs.declared.layout.TheConstants.{ELEMENTS, TAGS, LINKS}
use Rattle.osm_tree_writes.specs.Appending.{IsStoreAt, AreBehind, AreIndexesAt, IsApartOf, IsBehind, IsNoIndex, KeepIndexed, RiseFrom, Appends}
use Rattle.osm_tree_writes.proofs.AppendLemmas.{with_same, with_other, kept_more}
use Rattle.osm_tree_writes.specs.Putting.{IsIndexedStore, AreTables, PutsRows, WritesElements, WritesUncommitted}

-- two steps that write trees and move cursors are one
rest_then : (a b c : View) → b ≡ record a { trees = b.trees; cursors = b.cursors } → c ≡ record b { trees = c.trees; cursors = c.cursors } → c ≡ record a { trees = c.trees; cursors = c.cursors }
rest_then a b c first second = second ∙ ap (λ (v : View). record v { trees = c.trees; cursors = c.cursors }) first

gains : (old new rows : List Row) → map (drop 1) new ≡ map (drop 1) old ++ rows → Gains old rows new
gains old new rows e = subst (IsPermutation (map (drop 1) old ++ rows)) (sym e) (IsPermutation-refl _)

gains_along : (old mid new end rows : List Row) → mid ≡ old → end ≡ new → Gains mid rows new → Gains old rows end
gains_along old mid new end rows before after h = subst (Gains old rows) (sym after) (subst (λ l. Gains l rows new) before h)

-- the rows for the parts of elements, of which some come first
parts_both : {A : Type 0} (row : Part A → Row) (parts_at : Placed → List (Part A)) (ps qs : List Placed) → map row (flat_map parts_at (ps ++ qs)) ≡ map row (flat_map parts_at ps) ++ map row (flat_map parts_at qs)
parts_both row parts_at ps qs = ap (map row) (flat_map-append parts_at ps qs) ∙ map-append row (flat_map parts_at ps) (flat_map parts_at qs)

-- an index of rows that are the same is one of them still
index_along : (cs : List ℕ) (rows entries other others : List Row) → other ≡ rows → others ≡ entries → IsIndexOf cs rows entries → IsIndexOf cs other others
index_along cs rows entries other others p q h = subst (IsIndexOf cs other) (sym q) (subst (λ l. IsIndexOf cs l entries) (sym p) h)

rise_above : (shapes : ℕ → Shape) (low : ℕ) (more : List AddedIndex) → RiseFrom shapes low more → AllByRecursion (λ (i : AddedIndex). low ≤ i.tree) more
rise_above shapes low [] h = tt
rise_above shapes low (i ∷ is) h = (h.0, all_weaker (λ (j : AddedIndex). i.tree + 1 ≤ j.tree) (λ (j : AddedIndex). low ≤ j.tree) (λ j above. omega (arith, above, h.0)) is (rise_above shapes (i.tree + 1) is h.4))

rise_shaped : (shapes : ℕ → Shape) (low : ℕ) (more : List AddedIndex) → RiseFrom shapes low more → AreIndexesAt shapes more
rise_shaped shapes low [] h = tt
rise_shaped shapes low (i ∷ is) h = (h.3, rise_shaped shapes (i.tree + 1) is h.4)

rise_each : (shapes : ℕ → Shape) (low : ℕ) (more : List AddedIndex) → 9 ≤ low → RiseFrom shapes low more → AllByRecursion IsBehind more
rise_each shapes low [] high h = tt
rise_each shapes low (i ∷ is) high h = ((omega (arith, high, h.0), h.1, h.2), rise_each shapes (i.tree + 1) is (omega (arith, high, h.0)) h.4)

rise_apart : (shapes : ℕ → Shape) (low : ℕ) (more : List AddedIndex) → RiseFrom shapes low more → IsAscending (λ (i j : AddedIndex). i.tree ≢ j.tree) more
rise_apart shapes low [] h = tt
rise_apart shapes low (i ∷ is) h = (all_weaker (λ (j : AddedIndex). i.tree + 1 ≤ j.tree) (λ (j : AddedIndex). i.tree ≢ j.tree) (λ j above e. absurd (omega (arith, above, e))) is (rise_above shapes (i.tree + 1) is h.4), rise_apart shapes (i.tree + 1) is h.4)

-- indexes whose trees rise behind those of a store
pub rise_behind : (shapes : ℕ → Shape) (more : List AddedIndex) → RiseFrom shapes 9 more → AreIndexesAt shapes more × AreBehind more
rise_behind shapes more h = (rise_shaped shapes 9 more h, record { each = rise_each shapes 9 more (omega arith) h; apart = rise_apart shapes 9 more h })

-- an index behind the trees of a store is none of theirs
behind_is : (more : List AddedIndex) → AreBehind more → (t : ℕ) → t < 9 → IsNoIndex more t
behind_is more behind t low = all_weaker IsBehind (λ (i : AddedIndex). i.tree ≢ t) (λ i h e. absurd (omega (arith, h.0, e))) more behind.each

module _ (more : List AddedIndex) (behind : AreBehind more) where
  table_low : (i : AddedIndex) → IsBehind i → i.table < 9
  table_low i h = elim h.2 [ inl two ↦ omega arith | inr rest ↦ elim rest [ inl four ↦ omega arith | inr six ↦ omega arith ] ]

  not_odd : (i : AddedIndex) → IsBehind i → (t : ℕ) → t ≢ 2 → t ≢ 4 → t ≢ 6 → t ≢ i.table
  not_odd i h t a b c e = elim h.2 [ inl two ↦ a (e ∙ two) | inr rest ↦ elim rest [ inl four ↦ b (e ∙ four) | inr six ↦ c (e ∙ six) ] ]

  no_catalog : IsNoIndex more catalog_tree
  no_catalog = all_weaker IsBehind (λ (i : AddedIndex). i.tree ≢ catalog_tree) (λ i h e. absurd (omega (arith, h.1, e))) more behind.each

  pub elements_apart : IsApartOf ELEMENTS more
  elements_apart = record {
    trees = all_weaker IsBehind _ (λ i h. ((λ e. absurd (omega (arith, h.0, e))), ((λ e. absurd (omega (arith, h.0, e))), ((λ e. absurd (omega (arith, h.0, e))), tt)))) more behind.each;
    tables = all_weaker IsBehind _ (λ i h. (behind_is more behind i.table (table_low i h), (not_odd i h 3 (omega arith) (omega arith) (omega arith), (not_odd i h 8 (omega arith) (omega arith) (omega arith), tt)))) more behind.each;
    apart = behind.apart;
  }

  pub tags_apart : IsApartOf TAGS more
  tags_apart = record {
    trees = all_weaker IsBehind _ (λ i h. ((λ e. absurd (omega (arith, h.0, e))), ((λ e. absurd (omega (arith, h.0, e))), tt))) more behind.each;
    tables = all_weaker IsBehind _ (λ i h. (behind_is more behind i.table (table_low i h), (not_odd i h 5 (omega arith) (omega arith) (omega arith), tt))) more behind.each;
    apart = behind.apart;
  }

  pub links_apart : IsApartOf LINKS more
  links_apart = record {
    trees = all_weaker IsBehind _ (λ i h. ((λ e. absurd (omega (arith, h.0, e))), ((λ e. absurd (omega (arith, h.0, e))), tt))) more behind.each;
    tables = all_weaker IsBehind _ (λ i h. (behind_is more behind i.table (table_low i h), (not_odd i h 7 (omega arith) (omega arith) (omega arith), tt))) more behind.each;
    apart = behind.apart;
  }

module _ (more : List AddedIndex) (behind : AreBehind more) (v0 v1 v2 v3 : View) (ps : List Placed)
    (e : Appends ELEMENTS more (element_rows ps) v0 v1) (t : Appends TAGS more (tag_rows ps) v1 v2) (l : Appends LINKS more (link_rows ps) v2 v3) where
  no : (u : ℕ) → u < 9 → IsNoIndex more u
  no = behind_is more behind

  by_elements : (u : ℕ) → IsNoIndex more u → u ≢ 2 → 3 ≢ u → 8 ≢ u → v1.trees u ≡ v0.trees u
  by_elements u none a b c = e.others u a (b, (c, tt)) none

  by_tags : (u : ℕ) → IsNoIndex more u → u ≢ 4 → 5 ≢ u → v2.trees u ≡ v1.trees u
  by_tags u none a b = t.others u a (b, tt) none

  by_links : (u : ℕ) → IsNoIndex more u → u ≢ 6 → 7 ≢ u → v3.trees u ≡ v2.trees u
  by_links u none a b = l.others u a (b, tt) none

  all_three : (u : ℕ) → IsNoIndex more u → u ≢ 2 → 3 ≢ u → 8 ≢ u → u ≢ 4 → 5 ≢ u → u ≢ 6 → 7 ≢ u → v3.trees u ≡ v0.trees u
  all_three u none a b c d f h i = by_links u none h i ∙ by_tags u none d f ∙ by_elements u none a b c

  after_elements : (u : ℕ) → IsNoIndex more u → u ≢ 4 → 5 ≢ u → u ≢ 6 → 7 ≢ u → v3.trees u ≡ v1.trees u
  after_elements u none a b c d = by_links u none c d ∙ by_tags u none a b

  abbrev from : Trees
  from = v0.trees

  abbrev to : Trees
  to = v3.trees

  elements_kept : (cs : List ℕ) (index : ℕ) → v3.trees index ≡ v1.trees index → (IsIndexOf cs (from 2) (from index) → IsIndexOf cs (v1.trees 2) (v1.trees index)) → IsIndexOf cs (from 2) (from index) → IsIndexOf cs (to 2) (to index)
  elements_kept cs index same step h = index_along cs (v1.trees 2) (v1.trees index) (to 2) (to index) (after_elements 2 (no 2 (omega arith)) (omega arith) (omega arith) (omega arith) (omega arith)) same (step h)

  pub appended : WritesElements more v0 v3 ps
  appended = record {
    sound = e.sound;
    others = λ t behind none. all_three t none (λ e. omega arith) (λ e. omega arith) (λ e. omega arith) (λ e. omega arith) (λ e. omega arith) (λ e. omega arith) (λ e. omega arith);
    catalog = all_three catalog_tree (no_catalog more behind) (omega arith) (omega arith) (omega arith) (omega arith) (omega arith) (omega arith) (omega arith);
    meta = all_three 0 (no 0 (omega arith)) (omega arith) (omega arith) (omega arith) (omega arith) (omega arith) (omega arith) (omega arith);
    blob = all_three 1 (no 1 (omega arith)) (omega arith) (omega arith) (omega arith) (omega arith) (omega arith) (omega arith) (omega arith);
    elements = (
      gains_along (from 2) (from 2) (v1.trees 2) (to 2) (element_rows ps) refl (after_elements 2 (no 2 (omega arith)) (omega arith) (omega arith) (omega arith) (omega arith)) (gains (from 2) (v1.trees 2) (element_rows ps) e.rows),
      gains_along (from 4) (v1.trees 4) (v2.trees 4) (to 4) (tag_rows ps) (by_elements 4 (no 4 (omega arith)) (omega arith) (omega arith) (omega arith)) (by_links 4 (no 4 (omega arith)) (omega arith) (omega arith)) (gains (v1.trees 4) (v2.trees 4) (tag_rows ps) t.rows),
      gains_along (from 6) (v2.trees 6) (to 6) (to 6) (link_rows ps) (by_tags 6 (no 6 (omega arith)) (omega arith) (omega arith) ∙ by_elements 6 (no 6 (omega arith)) (omega arith) (omega arith) (omega arith)) refl (gains (v2.trees 6) (to 6) (link_rows ps) l.rows),
    );
    indexed = λ was. (
      elements_kept (1 ∷ 2 ∷ []) 3 (after_elements 3 (no 3 (omega arith)) (omega arith) (omega arith) (omega arith) (omega arith)) e.indexed.0 was.0,
      (
        index_along (1 ∷ 2 ∷ 3 ∷ []) (v2.trees 4) (v2.trees 5) (to 4) (to 5) (by_links 4 (no 4 (omega arith)) (omega arith) (omega arith)) (by_links 5 (no 5 (omega arith)) (omega arith) (omega arith))
            (t.indexed.0 (index_along (1 ∷ 2 ∷ 3 ∷ []) (from 4) (from 5) (v1.trees 4) (v1.trees 5) (by_elements 4 (no 4 (omega arith)) (omega arith) (omega arith) (omega arith)) (by_elements 5 (no 5 (omega arith)) (omega arith) (omega arith) (omega arith)) was.1.0)),
        (
          l.indexed.0 (index_along (1 ∷ 2 ∷ 3 ∷ []) (from 6) (from 7) (v2.trees 6) (v2.trees 7) (by_tags 6 (no 6 (omega arith)) (omega arith) (omega arith) ∙ by_elements 6 (no 6 (omega arith)) (omega arith) (omega arith) (omega arith)) (by_tags 7 (no 7 (omega arith)) (omega arith) (omega arith) ∙ by_elements 7 (no 7 (omega arith)) (omega arith) (omega arith) (omega arith)) was.1.1.0),
          (
            elements_kept (3 ∷ 4 ∷ []) 8 (after_elements 8 (no 8 (omega arith)) (omega arith) (omega arith) (omega arith) (omega arith)) e.indexed.1.0 was.1.1.1.0,
            tt,
          ),
        ),
      ),
    );
    more_indexed = kept_more more v0.trees v2.trees v3.trees (kept_more more v0.trees v1.trees v2.trees e.more_indexed t.more_indexed) l.more_indexed;
    rest = rest_then v0 v2 v3 (rest_then v0 v1 v2 e.rest t.rest) l.rest;
  }

-- the rows of more elements are written behind those of some
pub written_more : (more : List AddedIndex) (a b c : View) (ps qs : List Placed) → WritesElements more a b ps → WritesElements more b c qs → WritesElements more a c (ps ++ qs)
written_more more a b c ps qs one two = record {
  sound = one.sound;
  catalog = two.catalog ∙ one.catalog;
  meta = two.meta ∙ one.meta;
  blob = two.blob ∙ one.blob;
  elements = (
    subst (λ rows. Gains (a.trees 2) rows (c.trees 2)) (sym (map-append element_row ps qs)) (gains_then (a.trees 2) (b.trees 2) (c.trees 2) (element_rows ps) (element_rows qs) one.elements.0 two.elements.0),
    subst (λ rows. Gains (a.trees 4) rows (c.trees 4)) (sym (parts_both tag_row tags_at ps qs)) (gains_then (a.trees 4) (b.trees 4) (c.trees 4) (tag_rows ps) (tag_rows qs) one.elements.1 two.elements.1),
    subst (λ rows. Gains (a.trees 6) rows (c.trees 6)) (sym (parts_both link_row links_at ps qs)) (gains_then (a.trees 6) (b.trees 6) (c.trees 6) (link_rows ps) (link_rows qs) one.elements.2 two.elements.2),
  );
  indexed = λ was. two.indexed (one.indexed was);
  more_indexed = kept_more more a.trees b.trees c.trees one.more_indexed two.more_indexed;
  others = λ t high none. two.others t high none ∙ one.others t high none;
  rest = rest_then a b c one.rest two.rest;
}

-- trees in these shapes are tables
are_tables : (shapes : ℕ → Shape) (db : Trees) → IsStoreAt shapes → IsOrdered shapes db → AreTables db
are_tables shapes db at ordered =
    (subst (λ s. IsShaped s (db 2)) at.1.0 (ordered 2), subst (λ s. IsShaped s (db 4)) at.2.0 (ordered 4), subst (λ s. IsShaped s (db 6)) at.3.0 (ordered 6))

module _ (more : List AddedIndex) (behind : AreBehind more) (v0 v1 v2 : View) (extent : Extent) (ps : List Placed) (sets : SetsTree v0 v1 1 (put_row (extent_row extent))) (w : WritesElements more v1 v2 ps) where
  abbrev old : Trees
  old = v0.trees

  set_other : (u : ℕ) → u ≢ 1 → v1.trees u ≡ old u
  set_other u apart = ap (λ (v : View). v.trees u) sets.is ∙ with_other old 1 u _ apart

  set_here : v1.trees 1 ≡ put_row (extent_row extent) (old 1)
  set_here = ap (λ (v : View). v.trees 1) sets.is ∙ with_same old 1 _

  set_rest : v1 ≡ record v0 { trees = v1.trees; cursors = v1.cursors }
  set_rest = sets.is ∙ ap (λ (ts : Trees). record v0 { trees = ts; cursors = v1.cursors }) (sym (ap (λ (v : View). v.trees) sets.is))

  still_indexed : IsIndexedStore old → IsIndexedStore v1.trees
  still_indexed was = (
    index_along (1 ∷ 2 ∷ []) (old 2) (old 3) (v1.trees 2) (v1.trees 3) (set_other 2 (omega arith)) (set_other 3 (omega arith)) was.0,
    (
      index_along (1 ∷ 2 ∷ 3 ∷ []) (old 4) (old 5) (v1.trees 4) (v1.trees 5) (set_other 4 (omega arith)) (set_other 5 (omega arith)) was.1.0,
      (
        index_along (1 ∷ 2 ∷ 3 ∷ []) (old 6) (old 7) (v1.trees 6) (v1.trees 7) (set_other 6 (omega arith)) (set_other 7 (omega arith)) was.1.1.0,
        (
          index_along (3 ∷ 4 ∷ []) (old 2) (old 8) (v1.trees 2) (v1.trees 8) (set_other 2 (omega arith)) (set_other 8 (omega arith)) was.1.1.1.0,
          tt,
        ),
      ),
    ),
  )

  still_more : KeepIndexed more old v1.trees
  still_more = all_weaker IsBehind (λ (i : AddedIndex). IsIndexOf i.columns (old i.table) (old i.tree) → IsIndexOf i.columns (v1.trees i.table) (v1.trees i.tree))
      (λ i h was. index_along i.columns (old i.table) (old i.tree) (v1.trees i.table) (v1.trees i.tree) (set_other i.table (λ e. not_odd more behind i h 1 (omega arith) (omega arith) (omega arith) (sym e))) (set_other i.tree (λ e. absurd (omega (arith, h.0, e)))) was)
      more behind.each

  pub rest : v2 ≡ record v0 { trees = v2.trees; cursors = v2.cursors }
  rest = rest_then v0 v1 v2 set_rest w.rest

  pub written : IsStoreAt v0.shape → (v2.is_broken ≡ false → IsOrdered v2.shape v2.trees) → WritesUncommitted more v0 v2 extent ps
  written at ordered = record {
    sound = sets.sound;
    puts = record {
      catalog = w.catalog ∙ set_other catalog_tree (omega arith);
      meta = w.meta ∙ set_other 0 (omega arith);
      blob = w.blob ∙ set_here;
      elements = (
        gains_along (old 2) (v1.trees 2) (v2.trees 2) (v2.trees 2) (element_rows ps) (set_other 2 (omega arith)) refl w.elements.0,
        gains_along (old 4) (v1.trees 4) (v2.trees 4) (v2.trees 4) (tag_rows ps) (set_other 4 (omega arith)) refl w.elements.1,
        gains_along (old 6) (v1.trees 6) (v2.trees 6) (v2.trees 6) (link_rows ps) (set_other 6 (omega arith)) refl w.elements.2,
      );
      indexed = λ was. w.indexed (still_indexed was);
      more_indexed = kept_more more old v1.trees v2.trees still_more w.more_indexed;
      others = λ t high none. w.others t high none ∙ set_other t (omega arith);
      tables = are_tables v2.shape v2.trees (subst IsStoreAt (sym (ap (λ (v : View). v.shape) rest)) at) (ordered (ap (λ (v : View). v.is_broken) rest ∙ sets.sound));
    };
    rest = rest;
  }

-- what is written after a read is written after what was before the read
pub written_after : (more : List AddedIndex) (a b c : View) (extent : Extent) (ps : List Placed) → OnlyReads a b → WritesUncommitted more b c extent ps → WritesUncommitted more a c extent ps
written_after more a b c extent ps reads w = record {
  sound = sym (ap (λ (v : View). v.is_broken) reads) ∙ w.sound;
  puts = subst (λ (ts : Trees). PutsRows more ts c.trees extent ps) (ap (λ (v : View). v.trees) reads) w.puts;
  rest = w.rest ∙ ap (λ (v : View). record v { trees = c.trees; cursors = c.cursors }) reads;
}
