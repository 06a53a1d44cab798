-- Facts that come out of a truncation: of a choice that can be decided, and of each part of a tree's pages.
use Rattle.std.proofs.Common.{◌⊎◌, ◌≡◌, ◌≤◌, ℕ, zero, suc, Bool, true, false, List, [], ◌∷◌, length, refl, subst, inl, inr, arith}
use Rattle.std.proofs.Math.Logic.{∥∥₁_elim, ∥∥₁_map}
use Rattle.std.proofs.lemmas.Bool.{cases_eq, cases_lt}
use mathlib.Core.HLevel.{⊥_prop, Σ_prop_path}
use mathlib.Core.Bool.{Bool-set}
use denote.Struct.Props.{props}
use Rattle.sqlite_format.specs.declared.kind.Kind.{Kind}
use Rattle.sqlite_format.specs.declared.kind.Tree.{Tree}
use Rattle.sqlite_format.specs.Page.{IsPage, IsTiled, IsFreeChain, IsClearOfCells}
use Rattle.sqlite_btree.specs.Part.{Part}
use Rattle.sqlite_btree.specs.Cut.{Each, Ascends, IsIn}
use Rattle.sqlite_btree.specs.Items.{Item, Form, is_row, body_of}
use Rattle.sqlite_btree.specs.Tree.{IsNode, EachChild, SomeChild, IsTree, IsTop, IsRoot, Reaches}
use Rattle.sqlite_btree.specs.Chain.{Layout, IsChain, IsOnChain, IsChained, IsLinkAmong, IsLinkOfRow}
use Rattle.sqlite_btree.proofs.PartLemmas.{owned_or_not}
use Rattle.sqlite_record.specs.Strict.{TileWithin, Tile, IsRecord}

-- a fact that comes out of a truncation, and one that holds or fails
abbrev pub Stable : Type 0 → Type 0
Stable A = ∥ A ∥₁ → A

abbrev pub Decided : Type 0 → Type 0
Decided A = A ⊎ (A → ⊥)

pub by_prop : {A : Type 0} → IsProp A → Stable A
by_prop p t = ∥∥₁_elim t p (λ x. x)

pub by_cases : {A : Type 0} → Decided A → Stable A
by_cases (inl x) t = x
by_cases (inr fails) t = absurd (∥∥₁_elim t ⊥_prop fails)

pub either : {A B : Type 0} → Decided A → Stable B → Stable (A ⊎ B)
either (inl x) s t = inl x
either (inr fails) s t = inr (s (∥∥₁_map t (λ y. elim y [ inl x ↦ absurd (fails x) | inr b ↦ b ])))

pub decide_le : (m n : ℕ) → Decided (m ≤ n)
decide_le m n = elim (cases_lt n m) [ inl above ↦ inr (λ h. omega arith) | inr below ↦ inl below ]

pub decide_both : {A B : Type 0} → Decided A → Decided B → Decided (A × B)
decide_both (inl a) (inl b) = inl (a, b)
decide_both (inl a) (inr fails) = inr (λ h. fails h.1)
decide_both (inr fails) d = inr (λ h. fails h.0)

pub decide_or : {A B : Type 0} → Decided A → Decided B → Decided (A ⊎ B)
decide_or (inl a) d = inl (inl a)
decide_or (inr fails) (inl b) = inl (inr b)
decide_or (inr not_first) (inr not_second) = inr (λ h. elim h [ inl a ↦ not_first a | inr b ↦ not_second b ])

-- what is found but once is found out of a truncation
pub found_once : {X : Type 0} → IsSet X → (P : X → Type 0) → ((x y : X) → P x → P y → x ≡ y) → ∥ ((x : X) × P x) ∥₁ → (x : X) × ∥ P x ∥₁
found_once set P once t =
    ∥∥₁_elim t (λ a b. Σ_prop_path (λ x. squash₁) (∥∥₁_elim a.1 (set a.0 b.0) (λ p. ∥∥₁_elim b.1 (set a.0 b.0) (λ q. once a.0 b.0 p q))))
    (λ r. (r.0, ∣ r.1 ∣₁))

-- ---- lists and pages
pub Each-stable : {X : Type 0} (P : X → Type 0) → ((x : X) → Stable (P x)) → (xs : List X) → Stable (Each P xs)
Each-stable P s [] t = tt
Each-stable P s (x ∷ xs) t = (s x (∥∥₁_map t (λ h. h.0)), Each-stable P s xs (∥∥₁_map t (λ h. h.1)))

pub Ascends-stable : {X : Type 0} (order : X → X → Bool) (xs : List X) → Stable (Ascends order xs)
Ascends-stable order [] t = tt
Ascends-stable order (x ∷ xs) t = (Each-stable (λ y. order x y ≡ true) (λ y. by_prop (Bool-set _ _)) xs (∥∥₁_map t (λ h. h.0)), Ascends-stable order xs (∥∥₁_map t (λ h. h.1)))

pub le_stable : (m n : ℕ) → Stable (m ≤ n)
le_stable m n = by_cases (decide_le m n)

pub eq_stable : (m n : ℕ) → Stable (m ≡ n)
eq_stable m n = by_cases (cases_eq m n)

free_stable : (page : List ℕ) (Clear : ℕ → ℕ → Type 0) → ((a b : ℕ) → Stable (Clear a b)) → (fuel low at : ℕ) → Stable (IsFreeChain page Clear fuel low at)
free_stable page Clear clear zero low at = eq_stable at 0
free_stable page Clear clear (suc fuel) low at =
    either (cases_eq at 0) (λ t. (
      le_stable _ _ (∥∥₁_map t (λ h. h.0)),
      le_stable _ _ (∥∥₁_map t (λ h. h.1)),
      le_stable _ _ (∥∥₁_map t (λ h. h.2)),
      le_stable _ _ (∥∥₁_map t (λ h. h.3)),
      clear _ _ (∥∥₁_map t (λ h. h.4)),
      free_stable page Clear clear fuel _ _ (∥∥₁_map t (λ h. h.5)),
    ))

tiled_stable : (kind : Kind) (page : List ℕ) (header : ℕ) → Stable (IsTiled kind page header)
unfolding IsTiled
tiled_stable kind page header t = (
  free_stable page (IsClearOfCells kind page header) (λ a b. λ u i low. either (decide_le _ _) (le_stable _ _) (∥∥₁_map u (λ f. f i low))) (length page) _ _ (∥∥₁_map t (λ h. h.0)),
  eq_stable _ _ (∥∥₁_map t (λ h. h.1)),
  le_stable _ _ (∥∥₁_map t (λ h. h.2)),
)

page_stable : (kind : Kind) (page : List ℕ) (header : ℕ) → Stable (IsPage kind page header)
page_stable kind page header t = record {
  usable = (le_stable _ _ (∥∥₁_map t (λ h. h.usable.0)), le_stable _ _ (∥∥₁_map t (λ h. h.usable.1)));
  flag = eq_stable _ _ (∥∥₁_map t (λ h. h.flag));
  pointers = le_stable _ _ (∥∥₁_map t (λ h. h.pointers));
  inside = λ i low. (le_stable _ _ (∥∥₁_map t (λ h. (h.inside i low).0)), le_stable _ _ (∥∥₁_map t (λ h. (h.inside i low).1)));
  room = le_stable _ _ (∥∥₁_map t (λ h. h.room));
  apart = λ i j p q other. either (decide_le _ _) (le_stable _ _) (∥∥₁_map t (λ h. h.apart i j p q other));
  tiled = tiled_stable kind page header (∥∥₁_map t (λ h. h.tiled));
}

-- ---- trees
module _ (form : Form) (part : Part) where
  node_stable : (leaf : Bool) (page : ℕ) → Stable (IsNode form leaf part page)
  node_stable leaf page t = record { sound = page_stable _ _ _ (∥∥₁_map t (λ h. h.sound)); size = eq_stable _ _ (∥∥₁_map t (λ h. h.size)) }

  children_stable : (P : ℕ → Type 0) → ((c : ℕ) → Stable (P c)) → (cells : List (List ℕ)) (last : ℕ) → Stable (EachChild P cells last)
  children_stable P s [] last t = s last t
  children_stable P s (cell ∷ cells) last t = (s _ (∥∥₁_map t (λ h. h.0)), children_stable P s cells last (∥∥₁_map t (λ h. h.1)))

  tree_stable : (height page : ℕ) → Stable (IsTree form part height page)
  tree_stable zero page t = (node_stable true page (∥∥₁_map t (λ h. h.0)), tt, le_stable _ _ (∥∥₁_map t (λ h. h.2)), le_stable _ _ (∥∥₁_map t (λ h. h.3)))
  tree_stable (suc height) page t = (
    node_stable false page (∥∥₁_map t (λ h. h.0)),
    children_stable (IsTree form part height) (tree_stable height) _ _ (∥∥₁_map t (λ h. h.1)),
    le_stable _ _ (∥∥₁_map t (λ h. h.2)),
    le_stable _ _ (∥∥₁_map t (λ h. h.3)),
  )

  top_stable : (height page : ℕ) → Stable (IsTop form part height page)
  top_stable zero page t = (node_stable true page (∥∥₁_map t (λ h. h.0)), tt)
  top_stable (suc height) page t = (node_stable false page (∥∥₁_map t (λ h. h.0)), children_stable (IsTree form part height) (tree_stable height) _ _ (∥∥₁_map t (λ h. h.1)))

  pub root_stable : (height page : ℕ) → Stable (IsRoot form part height page)
  root_stable height page t = record {
    top = top_stable height page (∥∥₁_map t (λ h. h.top));
    shallow = le_stable _ _ (∥∥₁_map t (λ h. h.shallow));
    full = either (cases_eq height 0) (either (decide_le _ _) (eq_stable page 1)) (∥∥₁_map t (λ h. h.full));
  }

  decide_child : (P : ℕ → Type 0) → ((c : ℕ) → Decided (P c)) → (cells : List (List ℕ)) (last : ℕ) → Decided (SomeChild P cells last)
  decide_child P d [] last = d last
  decide_child P d (cell ∷ cells) last = decide_or (d _) (decide_child P d cells last)

  pub decide_reach : (height page n : ℕ) → Decided (Reaches form part height page n)
  decide_reach zero page n = cases_eq n page
  decide_reach (suc height) page n = decide_or (cases_eq n page) (decide_child (λ c. Reaches form part height c n) (λ c. decide_reach height c n) _ _)

-- ---- overflow pages
chain_stable : (layout : Layout) (usable : ℕ) (row : List ℕ) (fuel page left : ℕ) → Stable (IsChain layout usable row fuel page left)
chain_stable layout usable row zero page left t = (eq_stable left 0 (∥∥₁_map t (λ h. h.0)), eq_stable page 0 (∥∥₁_map t (λ h. h.1)))
chain_stable layout usable row (suc fuel) page left all =
    either (decide_both (cases_eq left 0) (cases_eq page 0)) (λ t. (
      le_stable _ _ (∥∥₁_map t (λ h. h.0)),
      le_stable _ _ (∥∥₁_map t (λ h. h.1)),
      eq_stable _ _ (∥∥₁_map t (λ h. h.2)),
      by_prop (hlevel props) (∥∥₁_map t (λ h. h.3)),
      chain_stable layout usable row fuel _ _ (∥∥₁_map t (λ h. h.4)),
    )) all

pub chained_stable : (form : Form) (layout : Layout) (x : Item) → Stable (IsChained form layout x)
chained_stable form layout x t = λ row. record {
  limit = le_stable _ _ (∥∥₁_map t (λ h. (h row).limit));
  short = le_stable _ _ (∥∥₁_map t (λ h. (h row).short));
  chain = chain_stable layout form.usable (body_of x) _ _ _ (∥∥₁_map t (λ h. (h row).chain));
}

decide_on : (spill : Part) (usable fuel page left n : ℕ) → Decided (IsOnChain spill usable fuel page left n)
decide_on spill usable zero page left n = inr (λ h. h)
decide_on spill usable (suc fuel) page left n = decide_both (decide_le 1 left) (decide_or (cases_eq n page) (decide_on spill usable fuel _ _ n))

found_in : {X : Type 0} (P : X → Type 0) → ((x : X) → Decided (P x)) → (xs : List X) → ∥ ((x : X) × IsIn x xs × P x) ∥₁ → (x : X) × IsIn x xs × P x
found_in P d [] t = absurd (∥∥₁_elim t ⊥_prop (λ r. r.1))
found_in P d (y ∷ ys) t = elim (d y) [
  | inl p ↦ (y, inl refl, p)
  | inr fails ↦
      let r = found_in P d ys (∥∥₁_map t (λ r. elim r.1 [ inl e ↦ absurd (fails (subst P e r.2)) | inr later ↦ (r.0, later, r.2) ])) in
      (r.0, inr r.1, r.2)
]

decide_row : (row : Bool) → Decided (row ≡ true)
decide_row true = inl refl
decide_row false = inr (λ e. cc)

pub link_stable : (tree : Tree) (usable : ℕ) (spill : Part) (items : List Item) (n : ℕ) → Stable (IsLinkAmong tree usable spill items n)
link_stable tree usable spill items n t =
    let r = found_in (λ x. (is_row x ≡ true) × IsLinkOfRow tree usable spill (body_of x) n) (λ x. decide_both (decide_row (is_row x)) (decide_on spill usable _ _ _ n)) items
    (∥∥₁_map t (λ h. (h.row, h.among, (h.a_row, h.link)))) in
    record { row = r.0; among = r.1; a_row = r.2.0; link = r.2.1 }

-- ---- records
decide_none : (xs : List ℕ) → Decided (xs ≡ [])
decide_none xs = owned_or_not xs

types_stable : (fuel : ℕ) (types : List ℕ) (left : ℕ) → Stable (TileWithin fuel types left)
types_stable zero types left t = (by_cases (decide_none types) (∥∥₁_map t (λ h. h.0)), eq_stable left 0 (∥∥₁_map t (λ h. h.1)))
types_stable (suc fuel) types left all =
    either (decide_both (decide_none types) (cases_eq left 0)) (λ t. (
      record {
        whole = le_stable _ _ (∥∥₁_map t (λ h. h.0.whole));
        shortest = by_prop (hlevel props) (∥∥₁_map t (λ h. h.0.shortest));
        not_ten = by_prop (hlevel props) (∥∥₁_map t (λ h. h.0.not_ten));
        not_eleven = by_prop (hlevel props) (∥∥₁_map t (λ h. h.0.not_eleven));
        fits = le_stable _ _ (∥∥₁_map t (λ h. h.0.fits));
      },
      types_stable fuel _ _ (∥∥₁_map t (λ h. h.1)),
    )) all

tile_stable : (types : List ℕ) (left : ℕ) → Stable (Tile types left)
unfolding Tile
tile_stable types left = types_stable (length types) types left

pub record_stable : (bytes : List ℕ) → Stable (IsRecord bytes)
record_stable bytes t = record {
  some = le_stable _ _ (∥∥₁_map t (λ h. h.some));
  within = le_stable _ _ (∥∥₁_map t (λ h. h.within));
  short = le_stable _ _ (∥∥₁_map t (λ h. h.short));
  narrow = λ low. eq_stable _ _ (∥∥₁_map t (λ h. h.narrow low));
  tiled = tile_stable _ _ (∥∥₁_map t (λ h. h.tiled));
}
