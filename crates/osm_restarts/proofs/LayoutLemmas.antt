-- The layout of a database's trees is determined by its pages, so that it comes out of a truncation.
use Rattle.std.proofs.Common.{◌≡◌, ◌≢◌, ◌∙◌, ◌<◌, ℕ, ℤ, zero, suc, Bool, false, List, [], ◌∷◌, ◌++◌, length, map, refl, sym, ap, ap₂, subst, inl, inr, arith}
use Rattle.std.proofs.Math.Logic.{∥∥₁_elim, ∥∥₁_map}
use Rattle.std.proofs.Math.Path.{fun_ext}
use Rattle.std.proofs.lemmas.Bool.{cases_eq}
use Rattle.std.proofs.lemmas.Option.{same_Some}
use mathlib.Core.HLevel.{⊥_prop, Π_set}
use native.Mathlib.Nat.{ℕ_set}
use denote.Struct.Props.{props}
use Rattle.sqlite_format.specs.declared.kind.Tree.{Tree}
use Rattle.sqlite_format.specs.declared.kind.Tree.TheVariants as tree
use Rattle.sqlite_pages.specs.PageMap.{PageMap}
use Rattle.sqlite_btree.specs.Part.{Part, IsPartOf, AreApart, all_pages}
use Rattle.sqlite_btree.specs.Cut.{Each, Ascends, IsIn}
use Rattle.sqlite_btree.specs.Items.{Item, Form, cell_item, body_of, rows_of}
use Rattle.sqlite_btree.specs.Tree.{IsNode, EachChild, SomeChild, IsTree, IsTop, IsRoot, Reaches, right_of, fan_items, tree_items}
use Rattle.sqlite_btree.specs.Chain.{Layout, IsChained, Entry, entry_of}
use Rattle.sqlite_btree.specs.Stored.{Order, no_order, form_of, unordered, as_row, as_record, IsStored, IsTight, IsLaidIn, Owns}
use Rattle.sqlite_btree.proofs.PartLemmas.{owned_or_not, in_all_pages}
use Rattle.sqlite_btree.proofs.CutLemmas.{Each-in, Each-from}
use Rattle.sqlite_btree.proofs.TreeLemmas.{not_both, node_live, one_root, reached_live, IsTree-top, EachChild-last}
use Rattle.sqlite_btree.proofs.ChainLemmas.{on_chain_same, on_chain_back, on_chain_owned}
use Rattle.sqlite_btree.proofs.StoredLemmas.{KeepsChain, top_reformed, items_reformed, stored_moved}
use Rattle.sqlite_record.specs.Strict.{IsRecord}
use Rattle.sqlite_trees.specs.declared.store.Shape.{Shape}
use Rattle.sqlite_trees.specs.declared.store.Shape.TheVariants.{Absent, Table, Index, Pageless, FrozenTable, FrozenIndex}
use Rattle.sqlite_value.specs.declared.keys.Order.{Order as Keys}
use Rattle.sqlite_store.specs.Db.{record_order, IsKept, AreTrees}
use Rattle.osm_restarts.proofs.StableLemmas.{Stable, Decided, by_prop, by_cases, decide_or, found_once, Each-stable, Ascends-stable, root_stable, decide_reach, chained_stable, link_stable, record_stable}

-- ---- two trees in the same pages
module _ (form : Form) (p q : Part) (same : (n : ℕ) → p n ≢ [] → q n ≢ [] → p n ≡ q n) where
  at_root : {leaf other : Bool} {page : ℕ} → IsNode form leaf p page → IsNode form other q page → p page ≡ q page
  at_root a b = same _ (node_live a) (node_live b)

  some_both : (P Q R S : ℕ → Type 0) → ((c : ℕ) → P c → Q c → R c → S c) → (cells : List (List ℕ)) (last : ℕ) → EachChild P cells last → EachChild Q cells last → SomeChild R cells last → SomeChild S cells last
  some_both P Q R S so [] last a b r = so last a b r
  some_both P Q R S so (cell ∷ cells) last a b (inl r) = inl (so _ a.0 b.0 r)
  some_both P Q R S so (cell ∷ cells) last a b (inr r) = inr (some_both P Q R S so cells last a.1 b.1 r)

  fan_both : (P Q : ℕ → Type 0) (R S : ℕ → List Item) → ((c : ℕ) → P c → Q c → R c ≡ S c) → (cells : List (List ℕ)) (last : ℕ) → EachChild P cells last → EachChild Q cells last
      → fan_items form R cells last ≡ fan_items form S cells last
  fan_both P Q R S so [] last a b = so last a b
  fan_both P Q R S so (cell ∷ cells) last a b = ap₂ (λ xs ys. xs ++ (cell_item form false cell ∷ ys)) (so _ a.0 b.0) (fan_both P Q R S so cells last a.1 b.1)

  -- what one reaches the other reaches, with the same items, at the same height
  top_reach : (h page n : ℕ) → IsTop form p h page → IsTop form q h page → Reaches form p h page n → Reaches form q h page n
  top_reach zero page n a b r = r
  top_reach (suc h) page n a b (inl e) = inl e
  top_reach (suc h) page n a b (inr some) =
      let here = at_root a.0 b.0 in
      let below = rw (← here) at b.1 in
      let child = λ (c : ℕ) (s : IsTree form p h c) (t : IsTree form q h c). top_reach h c n (IsTree-top form p h c s).0 (IsTree-top form q h c t).0 in
      inr (rw (← here) (some_both (IsTree form p h) (IsTree form q h) (λ c. Reaches form p h c n) (λ c. Reaches form q h c n) child _ _ a.1 below some))

  top_items_both : (h page : ℕ) → IsTop form p h page → IsTop form q h page → tree_items form p h page ≡ tree_items form q h page
  top_items_both zero page a b = let here = at_root a.0 b.0 in rw here
  top_items_both (suc h) page a b =
      let here = at_root a.0 b.0 in
      let below = rw (← here) at b.1 in
      let child = λ (c : ℕ) (s : IsTree form p h c) (t : IsTree form q h c). top_items_both h c (IsTree-top form p h c s).0 (IsTree-top form q h c t).0 in
      rw (← here) (fan_both (IsTree form p h) (IsTree form q h) (tree_items form p h) (tree_items form q h) child _ _ a.1 below)

  top_height : (g h page : ℕ) → IsTop form p g page → IsTop form q h page → g ≡ h
  top_height zero zero page a b = refl
  top_height zero (suc h) page a b = let here = at_root a.0 b.0 in absurd (not_both a.0 (rw (← here) at b.0))
  top_height (suc g) zero page a b = let here = at_root a.0 b.0 in absurd (not_both b.0 (rw here at a.0))
  top_height (suc g) (suc h) page a b =
      let here = at_root a.0 b.0 in
      let below = rw (← here) at b.1 in
      let last = right_of p page in
      ap suc (top_height g h last (IsTree-top form p g last (EachChild-last (IsTree form p g) _ _ a.1)).0 (IsTree-top form q h last (EachChild-last (IsTree form q h) _ _ below)).0)

top_live : (form : Form) (p : Part) (h page n : ℕ) → IsTop form p h page → Reaches form p h page n → p n ≢ []
top_live form p zero page n a r = subst (λ m. p m ≢ []) (sym r) (node_live a.0)
top_live form p (suc h) page n a (inl e) = subst (λ m. p m ≢ []) (sym e) (node_live a.0)
top_live form p (suc h) page n a (inr some) = go _ _ a.1 some
  where
    go : (cells : List (List ℕ)) (last : ℕ) → EachChild (IsTree form p h) cells last → SomeChild (λ c. Reaches form p h c n) cells last → p n ≢ []
    go [] last t r = reached_live form p h n last t r
    go (cell ∷ cells) last t (inl r) = reached_live form p h n _ t.0 r
    go (cell ∷ cells) last t (inr r) = go cells last t.1 r

-- ---- a tree that is kept, at its height
record IsHeld (tree : Tree) (order : Order) (usable : ℕ) (layout : Layout) (root height : ℕ) : Type 0 where
  shape : IsRoot (form_of tree order usable layout.spill) layout.nodes height root
  ascends : Ascends (form_of tree order usable layout.spill).order (tree_items (form_of tree order usable layout.spill) layout.nodes height root)
  chained : Each (IsChained (form_of tree order usable layout.spill) layout) (tree_items (form_of tree order usable layout.spill) layout.nodes height root)
  apart : AreApart layout.nodes layout.spill
  tight : IsTight tree usable layout root
  strict : Each (λ e. IsRecord e.payload) (map (entry_of tree usable layout.spill) (rows_of (tree_items (form_of tree order usable layout.spill) layout.nodes height root)))

held_stable : (tree : Tree) (order : Order) (usable : ℕ) (layout : Layout) (root height : ℕ) → Stable (IsHeld tree order usable layout root height)
held_stable tree order usable layout root height t = record {
  shape = root_stable _ _ height root (∥∥₁_map t (λ h. h.shape));
  ascends = Ascends-stable _ _ (∥∥₁_map t (λ h. h.ascends));
  chained = Each-stable (IsChained (form_of tree order usable layout.spill) layout) (chained_stable (form_of tree order usable layout.spill) layout) _ (∥∥₁_map t (λ h. h.chained));
  apart = λ n live. by_prop (hlevel props) (∥∥₁_map t (λ h. h.apart n live));
  tight = record {
    nodes = λ h n top live. by_cases (decide_reach (unordered tree usable) layout.nodes h root n) (∥∥₁_map t (λ x. x.tight.nodes h n top live));
    spill = λ h n top live. link_stable tree usable layout.spill _ n (∥∥₁_map t (λ x. x.tight.spill h n top live));
  };
  strict = Each-stable (λ e. IsRecord e.payload) (λ e. record_stable e.payload) _ (∥∥₁_map t (λ h. h.strict));
}

Held : Tree → Order → ℕ → Layout → ℕ → Type 0
Held tree order usable layout root = (height : ℕ) × IsHeld tree order usable layout root height

-- as the database says it, and back
each_row : (entries : List Entry) → Each (λ row. IsRecord row.1) (map as_row entries) → Each (λ e. IsRecord e.payload) entries
each_row [] h = tt
each_row (e ∷ entries) h = (h.0, each_row entries h.1)

row_each : (entries : List Entry) → Each (λ e. IsRecord e.payload) entries → Each (λ (row : ℤ × List ℕ). IsRecord row.1) (map as_row entries)
row_each [] h = tt
row_each (e ∷ entries) h = (h.0, row_each entries h.1)

each_record : (entries : List Entry) → Each IsRecord (map as_record entries) → Each (λ e. IsRecord e.payload) entries
each_record [] h = tt
each_record (e ∷ entries) h = (h.0, each_record entries h.1)

record_each : (entries : List Entry) → Each (λ e. IsRecord e.payload) entries → Each IsRecord (map as_record entries)
record_each [] h = tt
record_each (e ∷ entries) h = (h.0, record_each entries h.1)

from_table : (size : ℕ) (layout : Layout) (root : ℕ) → IsKept size layout Table root → Held tree.Table no_order size layout root
unfolding Held
from_table size layout root k =
    let t = k.1 in
    let s = t.stored in (
      s.height,
      record {
        shape = s.shape;
        ascends = s.ascends;
        chained = s.chained;
        apart = s.apart;
        tight = t.tight;
        strict = each_row _ (subst (Each (λ (row : ℤ × List ℕ). IsRecord row.1)) (sym t.shows ∙ ap (map as_row) (sym s.holds)) k.2);
      },
    )

to_table : (size : ℕ) (layout : Layout) (root : ℕ) → Held tree.Table no_order size layout root → IsKept size layout Table root
unfolding Held
to_table size layout root (h, it) = (
  _,
  record { entries = _; stored = record { height = h; shape = it.shape; ascends = it.ascends; chained = it.chained; apart = it.apart; holds = refl }; tight = it.tight; shows = refl },
  row_each _ it.strict,
)

from_index : (keys : Keys) (size : ℕ) (layout : Layout) (root : ℕ) → IsKept size layout (Index keys) root → Held tree.Index (record_order keys) size layout root
unfolding Held
from_index keys size layout root k =
    let t = k.1 in
    let s = t.stored in (
      s.height,
      record {
        shape = s.shape;
        ascends = s.ascends;
        chained = s.chained;
        apart = s.apart;
        tight = t.tight;
        strict = each_record _ (subst (Each IsRecord) (sym t.shows ∙ ap (map as_record) (sym s.holds)) k.2);
      },
    )

to_index : (keys : Keys) (size : ℕ) (layout : Layout) (root : ℕ) → Held tree.Index (record_order keys) size layout root → IsKept size layout (Index keys) root
unfolding Held
to_index keys size layout root (h, it) = (
  _,
  record { entries = _; stored = record { height = h; shape = it.shape; ascends = it.ascends; chained = it.chained; apart = it.apart; holds = refl }; tight = it.tight; shows = refl },
  record_each _ it.strict,
)

tree_held_stable : (tree : Tree) (order : Order) (usable : ℕ) (layout : Layout) (root : ℕ) → Stable (Held tree order usable layout root)
unfolding Held
tree_held_stable tree order usable layout root t =
    let r = found_once ℕ_set (IsHeld tree order usable layout root) (λ g h a b. one_root (form_of tree order usable layout.spill) layout.nodes g h root a.shape.top b.shape.top) t in
    (r.0, held_stable tree order usable layout root r.0 r.1)

no_pages_stable : (layout : Layout) → Stable ((n : ℕ) → ¬ (Owns layout n))
no_pages_stable layout t n owned = ∥∥₁_elim t ⊥_prop (λ f. f n owned)

pub kept_stable : (size : ℕ) (layout : Layout) (shape : Shape) (root : ℕ) → Stable (IsKept size layout shape root)
kept_stable size layout Absent root t = no_pages_stable layout t
kept_stable size layout Table root t = to_table size layout root (tree_held_stable _ _ _ _ _ (∥∥₁_map t (from_table size layout root)))
kept_stable size layout (Index keys) root t = to_index keys size layout root (tree_held_stable _ _ _ _ _ (∥∥₁_map t (from_index keys size layout root)))
kept_stable size layout Pageless root t = (no_pages_stable layout (∥∥₁_map t (λ h. h.0)), by_cases (cases_eq root 0) (∥∥₁_map t (λ h. h.1)))
kept_stable size layout FrozenTable root t = to_table size layout root (tree_held_stable _ _ _ _ _ (∥∥₁_map t (from_table size layout root)))
kept_stable size layout (FrozenIndex keys) root t = to_index keys size layout root (tree_held_stable _ _ _ _ _ (∥∥₁_map t (from_index keys size layout root)))

-- ---- a layout says of no page but its own overflow pages whose they are
abbrev pub IsPlain : Layout → Type 0
IsPlain layout = (n : ℕ) → layout.spill n ≡ [] → layout.owner n ≡ []

same_layout : (a b : Layout) → ((n : ℕ) → a.nodes n ≡ b.nodes n) → ((n : ℕ) → (a.spill n ≡ b.spill n) × (a.owner n ≡ b.owner n)) → a ≡ b
same_layout a b nodes spill = λ i. record { nodes = λ n. nodes n i; spill = λ n. (spill n).0 i; owner = λ n. (spill n).1 i }

held_top : {tree : Tree} {order : Order} {usable root height : ℕ} {layout : Layout} → IsHeld tree order usable layout root height → IsTop (unordered tree usable) layout.nodes height root
held_top {tree} {order} {usable} {root} {height} {layout} x = top_reformed tree usable (form_of tree order usable layout.spill).order (unordered tree usable).order layout.nodes height root x.shape.top

part_agrees : {a b : Part} {pages : PageMap} → IsPartOf a pages → IsPartOf b pages → (n : ℕ) → a n ≢ [] → b n ≢ [] → a n ≡ b n
part_agrees {a} {b} in_a in_b n live other = same_Some (a n) (b n) (sym (in_a n live) ∙ in_b n other)

module _ {tree : Tree} {order : Order} {usable root height : ℕ} {a b : Layout} {pages : PageMap} (in_a : IsLaidIn a pages) (in_b : IsLaidIn b pages)
    (x : IsHeld tree order usable a root height) (y : IsHeld tree order usable b root height) where
  node_both : (n : ℕ) → a.nodes n ≢ [] → b.nodes n ≢ []
  node_both n live =
      top_live (unordered tree usable) b.nodes height root n (held_top y)
      (top_reach (unordered tree usable) a.nodes b.nodes (part_agrees in_a.nodes in_b.nodes) height root n (held_top x) (held_top y) (x.tight.nodes height n (held_top x) live))

  -- an overflow page of one is that of the same row in the other
  spill_both : (n : ℕ) → a.spill n ≢ [] → (b.spill n ≢ []) × (a.owner n ≡ b.owner n)
  spill_both n live =
      let whole : 0 < usable = omega (arith, x.shape.top.0.size, x.shape.top.0.sound.usable.0) in
      let k = x.tight.spill height n (held_top x) live in
      let form_a = form_of tree order usable a.spill in
      let form_b = form_of tree order usable b.spill in
      let plain = (unordered tree usable).order in
      let there : IsIn k.row (tree_items form_a a.nodes height root) = subst (IsIn k.row) (items_reformed tree usable form_a.order plain a.nodes height root) k.among in
      let here : IsIn k.row (tree_items form_b b.nodes height root) =
      subst (IsIn k.row)
      (top_items_both (unordered tree usable) a.nodes b.nodes (part_agrees in_a.nodes in_b.nodes) height root (held_top x) (held_top y) ∙ items_reformed tree usable form_b.order plain b.nodes height root) k.among in
      let chain_a = Each-in (IsChained form_a a) _ k.row x.chained there k.a_row in
      let chain_b = Each-in (IsChained form_b b) _ k.row y.chained here k.a_row in
      let over = on_chain_same a (all_pages pages) usable (body_of k.row) _ _ _ n (λ m owned len. in_all_pages a.spill pages in_a.spill m (λ e. omega (arith, whole, ap length e))) chain_a.chain k.link in
      let link = on_chain_back (all_pages pages) b usable (body_of k.row) _ _ _ n (λ m len. in_all_pages b.spill pages in_b.spill m (λ e. omega (arith, whole, ap length e))) chain_b.chain over in
      let mine = on_chain_owned a usable (body_of k.row) _ _ _ n chain_a.chain k.link in
      let its = on_chain_owned b usable (body_of k.row) _ _ _ n chain_b.chain link in
      (λ e. omega (arith, whole, its.0, ap length e), mine.1 ∙ sym its.1)

module _ {tree : Tree} {order : Order} {usable root height : ℕ} {a b : Layout} {pages : PageMap} (in_a : IsLaidIn a pages) (in_b : IsLaidIn b pages)
    (x : IsHeld tree order usable a root height) (y : IsHeld tree order usable b root height) (plain_a : IsPlain a) (plain_b : IsPlain b) where
  same_nodes : (n : ℕ) → a.nodes n ≡ b.nodes n
  same_nodes n = elim (owned_or_not (a.nodes n)) [
    | inr live ↦ part_agrees in_a.nodes in_b.nodes n live (node_both in_a in_b x y n live)
    | inl none ↦ elim (owned_or_not (b.nodes n)) [ inl neither ↦ none ∙ sym neither | inr live ↦ absurd (node_both in_b in_a y x n live none) ]
  ]

  same_spill : (n : ℕ) → (a.spill n ≡ b.spill n) × (a.owner n ≡ b.owner n)
  same_spill n = elim (owned_or_not (a.spill n)) [
    | inr live ↦ let both = spill_both in_a in_b x y n live in (part_agrees in_a.spill in_b.spill n live both.0, both.1)
    | inl none ↦ elim (owned_or_not (b.spill n))
        [ inl neither ↦ (none ∙ sym neither, plain_a n none ∙ sym (plain_b n neither)) | inr live ↦ absurd ((spill_both in_b in_a y x n live).0 none) ]
  ]

  held_once_at : a ≡ b
  held_once_at = same_layout a b same_nodes same_spill

held_once : (tree : Tree) (order : Order) (usable root : ℕ) (a b : Layout) (pages : PageMap) → IsLaidIn a pages → IsLaidIn b pages → Held tree order usable a root → Held tree order usable b root → IsPlain a → IsPlain b → a ≡ b
unfolding Held
held_once tree order usable root a b pages in_a in_b x y plain_a plain_b =
    let same : x.0 ≡ y.0 = top_height (unordered tree usable) a.nodes b.nodes (part_agrees in_a.nodes in_b.nodes) x.0 y.0 root (held_top x.1) (held_top y.1) in
    held_once_at in_a in_b (subst (IsHeld tree order usable a root) same x.1) y.1 plain_a plain_b

none_once : (a b : Layout) → ((n : ℕ) → ¬ (Owns a n)) → ((n : ℕ) → ¬ (Owns b n)) → IsPlain a → IsPlain b → a ≡ b
none_once a b none_a none_b plain_a plain_b =
    same_layout a b (λ n. empty (a.nodes n) (λ h. none_a n (inl h)) ∙ sym (empty (b.nodes n) (λ h. none_b n (inl h)))) (λ n.
    let spill_a = empty (a.spill n) (λ h. none_a n (inr h)) in
    let spill_b = empty (b.spill n) (λ h. none_b n (inr h)) in
    (spill_a ∙ sym spill_b, plain_a n spill_a ∙ sym (plain_b n spill_b)))
  where
    empty : (bytes : List ℕ) → ¬ (bytes ≢ []) → bytes ≡ []
    empty bytes never = elim (owned_or_not bytes) [ inl none ↦ none | inr some ↦ absurd (never some) ]

kept_once : (size : ℕ) (shape : Shape) (root : ℕ) (a b : Layout) (pages : PageMap) → IsLaidIn a pages → IsLaidIn b pages → IsKept size a shape root → IsKept size b shape root → IsPlain a → IsPlain b → a ≡ b
kept_once size Absent root a b pages in_a in_b x y plain_a plain_b = none_once a b x y plain_a plain_b
kept_once size Table root a b pages in_a in_b x y plain_a plain_b = held_once _ _ _ _ a b pages in_a in_b (from_table size a root x) (from_table size b root y) plain_a plain_b
kept_once size (Index keys) root a b pages in_a in_b x y plain_a plain_b = held_once _ _ _ _ a b pages in_a in_b (from_index keys size a root x) (from_index keys size b root y) plain_a plain_b
kept_once size Pageless root a b pages in_a in_b x y plain_a plain_b = none_once a b x.0 y.0 plain_a plain_b
kept_once size FrozenTable root a b pages in_a in_b x y plain_a plain_b = held_once _ _ _ _ a b pages in_a in_b (from_table size a root x) (from_table size b root y) plain_a plain_b
kept_once size (FrozenIndex keys) root a b pages in_a in_b x y plain_a plain_b = held_once _ _ _ _ a b pages in_a in_b (from_index keys size a root x) (from_index keys size b root y) plain_a plain_b

-- ---- each layout as one that says no more
plain_owner : List ℕ → List ℕ → List ℕ
plain_owner [] owner = []
plain_owner (x ∷ xs) owner = owner

pub plainly : Layout → Layout
plainly layout = record layout { owner = λ n. plain_owner (layout.spill n) (layout.owner n) }

plain_owner_none : (bytes owner : List ℕ) → bytes ≡ [] → plain_owner bytes owner ≡ []
unfolding plain_owner
plain_owner_none [] owner e = refl
plain_owner_none (x ∷ xs) owner e = absurd (cc)

plain_owner_some : (bytes owner : List ℕ) → bytes ≢ [] → plain_owner bytes owner ≡ owner
unfolding plain_owner
plain_owner_some [] owner some = absurd (some refl)
plain_owner_some (x ∷ xs) owner some = refl

plainly_plain : (layout : Layout) → IsPlain (plainly layout)
unfolding plainly
plainly_plain layout n none = plain_owner_none (layout.spill n) (layout.owner n) none

plainly_stored : {tree : Tree} {order : Order} {usable root : ℕ} {layout : Layout} {entries : List Entry} → IsStored tree order usable layout root entries → IsStored tree order usable (plainly layout) root entries
unfolding plainly
plainly_stored {tree} {order} {usable} {root} {layout} {entries} s =
    let whole : 0 < usable = omega (arith, s.shape.top.0.size, s.shape.top.0.sound.usable.0) in
    (stored_moved s (record layout { owner = λ n. plain_owner (layout.spill n) (layout.owner n) }) refl s.apart
    (Each-from (KeepsChain tree usable layout (record layout { owner = λ n. plain_owner (layout.spill n) (layout.owner n) })) _
    (λ x at row. inr (λ n owned len. (refl, plain_owner_some (layout.spill n) (layout.owner n) (λ e. omega (arith, whole, len, ap length e)) ∙ owned))))).0

plainly_kept : (size : ℕ) (layout : Layout) (shape : Shape) (root : ℕ) → IsKept size layout shape root → IsKept size (plainly layout) shape root
unfolding plainly
plainly_kept size layout Absent root k = k
plainly_kept size layout Table root k = (k.0, record { entries = k.1.entries; stored = plainly_stored k.1.stored; tight = record { nodes = k.1.tight.nodes; spill = k.1.tight.spill }; shows = k.1.shows }, k.2)
plainly_kept size layout (Index keys) root k = (k.0, record { entries = k.1.entries; stored = plainly_stored k.1.stored; tight = record { nodes = k.1.tight.nodes; spill = k.1.tight.spill }; shows = k.1.shows }, k.2)
plainly_kept size layout Pageless root k = k
plainly_kept size layout FrozenTable root k = (k.0, record { entries = k.1.entries; stored = plainly_stored k.1.stored; tight = record { nodes = k.1.tight.nodes; spill = k.1.tight.spill }; shows = k.1.shows }, k.2)
plainly_kept size layout (FrozenIndex keys) root k = (k.0, record { entries = k.1.entries; stored = plainly_stored k.1.stored; tight = record { nodes = k.1.tight.nodes; spill = k.1.tight.spill }; shows = k.1.shows }, k.2)

-- ---- the layouts of all trees
module _ (size : ℕ) (shape : ℕ → Shape) (root : ℕ → ℕ) (pages : PageMap) where
  ArePlain : (ℕ → Layout) → Type 0
  ArePlain layouts = AreTrees size shape root pages layouts × ((slot : ℕ) → IsPlain (layouts slot))

  layouts_set : IsSet (ℕ → Layout)
  layouts_set = Π_set (λ _. hlevel props)

  trees_plainly : (layouts : ℕ → Layout) → AreTrees size shape root pages layouts → ArePlain (λ slot. plainly (layouts slot))
  unfolding ArePlain plainly
  trees_plainly layouts t = (
    record {
      laid = λ slot. record { nodes = (t.laid slot).nodes; spill = (t.laid slot).spill };
      kept = λ slot. plainly_kept size (layouts slot) (shape slot) (root slot) (t.kept slot);
      apart = t.apart;
      covered = t.covered;
    },
    λ slot. plainly_plain (layouts slot),
  )

  trees_once : (a b : ℕ → Layout) → ArePlain a → ArePlain b → a ≡ b
  unfolding ArePlain
  trees_once a b x y = fun_ext (λ slot. kept_once size (shape slot) (root slot) (a slot) (b slot) pages (x.0.laid slot) (y.0.laid slot) (x.0.kept slot) (y.0.kept slot) (x.1 slot) (y.1 slot))

  decide_owned : (layout : Layout) (n : ℕ) → Decided (Owns layout n)
  decide_owned layout n = decide_or (decide_some (layout.nodes n)) (decide_some (layout.spill n))
    where
      decide_some : (bytes : List ℕ) → Decided (bytes ≢ [])
      decide_some bytes = elim (owned_or_not bytes) [ inl none ↦ inr (λ some. some none) | inr some ↦ inl some ]

  trees_stable : (layouts : ℕ → Layout) → ∥ AreTrees size shape root pages layouts ∥₁ → AreTrees size shape root pages layouts
  trees_stable layouts t =
      let apart = λ (slot other n : ℕ) (differ : slot ≢ other) (own : Owns (layouts slot) n) (owned : Owns (layouts other) n). ∥∥₁_elim t ⊥_prop (λ x. x.apart slot other n differ own owned) in
      record {
        laid = λ slot. record { nodes = λ n live. by_prop (hlevel props) (∥∥₁_map t (λ x. (x.laid slot).nodes n live)); spill = λ n live. by_prop (hlevel props) (∥∥₁_map t (λ x. (x.laid slot).spill n live)) };
        kept = λ slot. kept_stable size (layouts slot) (shape slot) (root slot) (∥∥₁_map t (λ x. x.kept slot));
        apart = apart;
        covered = λ n some.
            let r = found_once ℕ_set (λ slot. Owns (layouts slot) n)
            (λ i j own owned. elim (cases_eq i j) [ inl same ↦ same | inr differ ↦ absurd (apart i j n differ own owned) ]) (∥∥₁_map t (λ x. x.covered n some)) in
            (r.0, by_cases (decide_owned (layouts r.0) n) r.1);
      }

  pub trees_found : ∥ ((layouts : ℕ → Layout) × AreTrees size shape root pages layouts) ∥₁ → (layouts : ℕ → Layout) × AreTrees size shape root pages layouts
  unfolding ArePlain
  trees_found t =
      let r = found_once layouts_set ArePlain trees_once (∥∥₁_map t (λ x. (λ slot. plainly (x.0 slot), trees_plainly x.0 x.1))) in
      (r.0, trees_stable r.0 (∥∥₁_map r.1 (λ x. x.0)))
