-- A tree of a file is the same by two lists of trees that have one row of it.
use Rattle.std.proofs.Common.{◌≡◌, ◌<◌, ℕ, ◌+◌, List, [], ◌∷◌, map, pos, true, refl, sym, subst, ap, ◌∙◌, arith, ne_eqb}
use Rattle.std.specs.Prelude.{slice_get, slice_index, Some}
use Rattle.sqlite_value.specs.declared.value.Value.TheVariants.{Int}
use Rattle.sqlite_value.specs.Order.{Row, column}
use Rattle.sqlite_trees.specs.declared.store.Shape.{Shape}
use Rattle.sqlite_trees.specs.declared.store.Shape.TheVariants.{Table}
use Rattle.sqlite_trees.specs.Listing.{same_code}
use Rattle.sqlite_trees.specs.Objects.{catalog_tree, version_tree, number_in}
use Rattle.sqlite_rules.specs.Lists.{Has}
use Rattle.sqlite_pages.specs.PageMap.{PageMap}
use Rattle.sqlite_pool.specs.File.{in_use}
use Rattle.sqlite_store.specs.declared.catalog.Wanted.{Wanted}
use Rattle.sqlite_store.specs.Catalog.{is_present, is_about, describes, root_in, roots_in, shape_at, reals_at}
use Rattle.sqlite_store.specs.Db.{rows_at, roots_of, shown, thawed, trees_in}
use Rattle.sqlite_store.specs.Listing.{listed_from, all_trees, file_trees}
use Rattle.osm_openings.proofs.PlaceLemmas.{index_at}
use Rattle.osm_restarts.proofs.Places.{placed, shape_there}

same_root : (entries : List Row) (a b : Wanted) → is_present a.shape ≡ true → is_present b.shape ≡ true → column a.row 0 ≡ column b.row 0 → column a.row 1 ≡ column b.row 1
    → column a.row 2 ≡ column b.row 2 → column a.row 3 ≡ column b.row 3 → root_in entries a ≡ root_in entries b
unfolding describes is_about
same_root [] a b p q kind name table sql = refl
same_root (e ∷ entries) a b p q kind name table sql = rw (p, q, kind, name, table, sql, same_root entries a b p q kind name table sql)

-- a tree is the same by two lists that have one row of it
same_tree : (size : ℕ) (a b : List Wanted) (pages : PageMap) (t : ℕ) (q : Row) → column q 0 ≡ Int (pos (t + 1)) → Has (listed_from 0 a) q → Has (listed_from 0 b) q
    → trees_in size a pages t ≡ trees_in size b pages t
unfolding trees_in roots_of
same_tree size a b pages t q id here there =
    let entries = rows_at size pages Table 1 in
    let p = placed 0 a q here in
    let s = placed 0 b q there in
    let w = p.wanted in
    let v = s.wanted in
    let first : Int (pos (0 + p.place + 1)) ≡ Int (pos (t + 1)) = sym (ap (λ (r : Row). column r 0) p.is) ∙ id in
    let second : Int (pos (0 + s.place + 1)) ≡ Int (pos (t + 1)) = sym (ap (λ (r : Row). column r 0) s.is) ∙ id in
    let place : p.place ≡ t = (let n : 0 + p.place + 1 ≡ t + 1 = cc in omega arith) in
    let other : s.place ≡ t = (let n : 0 + s.place + 1 ≡ t + 1 = cc in omega arith) in
    let at : slice_get a t ≡ Some w = subst (λ n. slice_get a n ≡ Some w) place p.at in
    let too : slice_get b t ≡ Some v = subst (λ n. slice_get b n ≡ Some v) other s.at in
    let both = λ (n : ℕ). sym (ap (λ (r : Row). column r n) p.is) ∙ ap (λ (r : Row). column r n) s.is in
    let shape : shape_at a t ≡ shape_at b t = shape_there a t w at ∙ same_code w.shape v.shape (ap number_in (both 5)) ∙ sym (shape_there b t v too) in
    let reals : reals_at a t ≡ reals_at b t = index_at (λ (x : Wanted). x.reals) a t w 0 at ∙ ap number_in (both 6) ∙ sym (index_at (λ (x : Wanted). x.reals) b t v 0 too) in
    let root : slice_index (roots_in entries a) t ≡ slice_index (roots_in entries b) t =
    index_at (root_in entries) a t w 0 at ∙ same_root entries w v p.present s.present (both 1) (both 2) (both 3) (both 4) ∙ sym (index_at (root_in entries) b t v 0 too) in
    let read = λ (s : Shape) (bits page : ℕ). map (shown (thawed s) bits) (rows_at size pages (thawed s) page) in
    ap (λ (s : Shape). read s (reals_at a t) (slice_index (roots_in entries a) t)) shape ∙ ap (λ n. read (shape_at b t) n (slice_index (roots_in entries a) t)) reals ∙ ap (read (shape_at b t) (reals_at b t)) root

-- so the trees of a store are the same by two lists that have the rows of one
pub same_file_tree : (size : ℕ) (a b : List Wanted) (pages : PageMap) (t : ℕ) (q : Row) → t < 9 → column q 0 ≡ Int (pos (t + 1)) → Has (listed_from 0 a) q → Has (listed_from 0 b) q
    → file_trees size a pages t ≡ file_trees size b pages t
unfolding all_trees
same_file_tree size a b pages t q low id here there =
    rw (ne_eqb t version_tree (λ e. omega (arith, e, low)), ne_eqb t catalog_tree (λ e. omega (arith, e, low))) (same_tree size a b (in_use size pages) t q id here there)
