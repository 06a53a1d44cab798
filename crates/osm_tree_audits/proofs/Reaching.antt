-- What a walk over an index reaches, row by row.
use Rattle.std.proofs.Common.{◌≡◌, ℕ, suc, zero, ◌+◌, ◌<◌, Bool, true, false, cond, is_lt, Equal, Greater, List, [], ◌∷◌, ◌++◌, map, filter, flat_map, drop, length, take, get_or, Contains, IsTrue, not, true≢false, append-nil, append_assoc, drop-cons, refl, sym, ap, subst, ◌∙◌, arith}
use Rattle.std.specs.Prelude.{◌↔◌}
use Rattle.std.proofs.lemmas.List.{length-append, length-map, length-take-le, take_more, take-append-drop, map-append}
use Rattle.std.proofs.lemmas.List.Elements.{All-contains, All-from_recursion}
use Rattle.sqlite_value.specs.declared.keys.Order.{Order}
use Rattle.sqlite_value.specs.Order.{Row, column}
use Rattle.sqlite_value.specs.Keys.{plain, prefix_cmp}
use Rattle.sqlite_trees.specs.declared.store.Shape.TheVariants.{Table}
use Rattle.sqlite_trees.specs.Tree.{Trees, rowid, from_key, IsAscending, IsIndex}
use Rattle.sqlite_trees.specs.View.{View, IsShaped}
use Rattle.sqlite_trees.proofs.TreeLemmas.{IsSortedTree}
use Rattle.sqlite_exec.specs.Loops.{left_of}
use Rattle.sqlite_exec.specs.Plan.{resolved, with_rowid, as_rowid}
use Rattle.sqlite_exec.proofs.ScanLemmas.{resolves}
use Rattle.osm_tree_audits.specs.Finding.{starts}
use Rattle.osm_tree_audits.specs.Walking.{AreAmong, IsWalk, Leads, reached}
use Rattle.osm_tree_audits.proofs.Prefix.{from_starts, none_above}

-- an entry leads to the row of the table that has its rowid
pub led : (rows : List Row) (width : ℕ) (e r : Row) → IsShaped Table rows → Contains rows r → rowid r ≡ column e width → resolved rows width e ≡ r ∷ []
led rows width e r table there is =
    ap (λ v. with_rowid rows (as_rowid v)) (sym is)
    ∙ All-contains (λ x. resolved rows 0 (rowid x ∷ []) ≡ x ∷ []) rows r (All-from_recursion _ rows (resolves [] rows table)) there

module _ (f : Row → List Row) (key e : Row) (left : List Row) where
  -- the first entry begins with the key
  pub one_more : (r : Row) → prefix_cmp plain e key ≡ Equal → f e ≡ r ∷ [] → map (drop 1) (flat_map f (filter (starts key) (e ∷ left))) ≡ drop 1 r ∷ map (drop 1) (flat_map f (filter (starts key) left))
  one_more r tied leads =
      let kept : filter (starts key) (e ∷ left) ≡ e ∷ filter (starts key) left = rw tied refl in
      ap (λ l. map (drop 1) (flat_map f l)) kept ∙ ap (λ l. map (drop 1) (l ++ flat_map f (filter (starts key) left))) leads

  -- and no later one does
  pub no_more : IsSortedTree plain (e ∷ left) → prefix_cmp plain e key ≡ Greater → map (drop 1) (flat_map f (filter (starts key) (e ∷ left))) ≡ []
  no_more up above = ap (λ l. map (drop 1) (flat_map f l)) (none_above key e left up above)

pub ascending_from : (R : Row → Row → Type 0) (o : Order) (key : Row) (es : List Row) → IsAscending R es → IsAscending R (from_key o key es)
ascending_from R o key [] up = tt
ascending_from R o key (e ∷ es) up = go (is_lt (prefix_cmp o e key)) (ascending_from R o key es up.1)
  where
    go : (b : Bool) → IsAscending R (from_key o key es) → IsAscending R (cond b (from_key o key es) (e ∷ es))
    go true more = more
    go false more = up

-- what a walk reaches that has just begun are the rows whose entries begin with the key
pub begins_with : (old new : View) (index table width : ℕ) (key : Row) → new.trees ≡ old.trees → left_of new 0 ≡ from_key plain key (old.trees index)
    → reached new table width key ≡ map (drop 1) (flat_map (resolved (old.trees table) width) (filter (starts key) (old.trees index)))
begins_with old new index table width key trees placed =
    let f = resolved (old.trees table) width in
    ap (λ (db : Trees). map (drop 1) (flat_map (resolved (db table) width) (filter (starts key) (left_of new 0)))) trees
    ∙ ap (λ l. map (drop 1) (flat_map f (filter (starts key) l))) placed ∙ ap (λ l. map (drop 1) (flat_map f l)) (from_starts key (old.trees index))

-- the next row is given after those that were given before
pub one_shown : {R : Type 0} (gives : Row → R) (done more whole : List R) (x : R) (row : Row) (now new : List Row) → more ≡ done ++ x ∷ [] → x ≡ gives (drop 1 row) → now ≡ drop 1 row ∷ new
    → done ++ map gives now ≡ whole → more ++ map gives new ≡ whole
one_shown gives done more whole x row now new grown shown next so_far =
    ap (λ l. l ++ map gives new) grown ∙ append_assoc done (x ∷ []) (map gives new) ∙ ap (λ y. done ++ y ∷ map gives new) shown ∙ ap (λ l. done ++ map gives l) (sym next) ∙ so_far

-- ---- lists that go on in different ways

pub parted : (done : List Row) (r x : Row) (rest more : List Row) → ¬ (r ≡ x) → ¬ (done ++ r ∷ rest ≡ done ++ x ∷ more)
parted [] r x rest more differ same = differ cc
parted (d ∷ done) r x rest more differ same = parted done r x rest more differ cc

pub longer : (done : List Row) (r : Row) (rest : List Row) → ¬ (done ++ r ∷ rest ≡ done)
longer [] r rest same = cc
longer (d ∷ done) r rest same = longer done r rest cc

-- a column behind the rowid
pub behind : (r : Row) (k : ℕ) → column (drop 1 r) k ≡ column r (k + 1)
behind [] zero = refl
behind [] (suc k) = refl
behind (x ∷ r) k = let one : k + 1 ≡ suc k = omega arith in rw one refl

-- ---- a walk that goes on

pub walked : (a b : View) (table : ℕ) (e : Row) → b ≡ record a { cursors = b.cursors } → left_of a 0 ≡ e ∷ left_of b 0 → AreAmong (a.trees table) (left_of b 1) → IsWalk a table → IsWalk b table
walked a b table e same step rows walk =
    let trees : b.trees ≡ a.trees = ap (λ (v : View). v.trees) same in
    record {
      shaped = subst (λ (db : Trees). IsShaped Table (db table)) (sym trees) walk.shaped;
      entries = (subst (IsIndex plain) step walk.entries).1;
      rows = subst (λ (db : Trees). AreAmong (db table) (left_of b 1)) (sym trees) rows;
    }

-- what holds below a number and at it
pub at_last : (n : ℕ) (P : ℕ → Type 0) → ((k : ℕ) → k < n → P k) → P n → (k : ℕ) → k < n + 1 → P k
at_last zero P below last zero h = last
at_last zero P below last (suc k) h = absurd (omega (arith, h))
at_last (suc n) P below last zero h = below zero (omega arith)
at_last (suc n) P below last (suc k) h = at_last n (λ m. P (suc m)) (λ m l. below (suc m) (omega (arith, l))) last k (omega (arith, h))

-- ---- what is found so far, and what was to be found

module _ {X : Type 0} (f : X → Row) (xs : List X) (at : ℕ) (within : at < length xs) where
  pub too_few : (left : List Row) → ¬ (map f (take at xs) ++ [] ≡ map f xs ++ left)
  too_few left same =
      let all : length (map f xs ++ left) ≡ length xs + length left = length-append (map f xs) left ∙ ap (λ n. n + length left) (length-map xs f) in
      let some : length (map f (take at xs) ++ []) ≡ at = ap length (append-nil (map f (take at xs))) ∙ length-map (take at xs) f ∙ length-take-le at xs (omega (arith, within)) in
      let both : length (map f (take at xs) ++ []) ≡ length (map f xs ++ left) = ap length same in
      omega (arith, within, all, some, both)

  module _ (x d : X) (is : x ≡ get_or xs at d) where
    pub with_next : map f (take (at + 1) xs) ≡ map f (take at xs) ++ f x ∷ []
    with_next = ap (map f) (take_more xs at d within) ∙ map-append f (take at xs) (get_or xs at d ∷ []) ∙ ap (λ y. map f (take at xs) ++ f y ∷ []) (sym is)

    split_at : map f xs ≡ map f (take at xs) ++ f x ∷ map f (drop (suc at) xs)
    split_at =
        ap (map f) (sym (take-append-drop at xs) ∙ ap (λ l. take at xs ++ l) (drop-cons xs at d within)) ∙ map-append f (take at xs) (get_or xs at d ∷ drop (suc at) xs)
        ∙ ap (λ y. map f (take at xs) ++ f y ∷ map f (drop (suc at) xs)) (sym is)

    pub other : (r : Row) (rest left : List Row) → ¬ (r ≡ f x) → ¬ (map f (take at xs) ++ r ∷ rest ≡ map f xs ++ left)
    other r rest left differ same =
        let more = map f (drop (suc at) xs) in
        parted (map f (take at xs)) r (f x) rest (more ++ left) differ (same ∙ ap (λ l. l ++ left) split_at ∙ append_assoc (map f (take at xs)) (f x ∷ more) left)

pub none_left : (more : Bool) (whole done now new : List Row) (row : Row) → whole ≡ done ++ now → Leads now row new more → IsTrue (not more) ↔ (whole ≡ done)
none_left true whole done now new row is leads =
    ((λ no. absurd (true≢false (sym no))), λ same. absurd (longer done (drop 1 row) new (ap (λ l. done ++ l) (sym leads) ∙ sym is ∙ same)))
none_left false whole done now new row is leads = ((λ yes. is ∙ ap (λ l. done ++ l) leads ∙ append-nil done), λ same. refl)
