-- Pages that one list of trees takes for a database without a tree are a store by no other list.
use Rattle.std.proofs.Common.{◌≡◌, ◌∙◌, ℕ, Bool, true, eqb, ◌&&◌, List, [], ◌∷◌, get_or, refl, sym, ap, inl, inr}
use Rattle.std.specs.Prelude.{slice_get, take}
use Rattle.std.specs.List.{list_all, list_any}
use Rattle.std.proofs.lemmas.Bool.{cases_Bool, and_parts, cond-false, eqb-true}
use Rattle.std.proofs.lemmas.Option.{none-some}
use Rattle.sqlite_value.specs.Order.{Row, column}
use Rattle.sqlite_trees.specs.declared.store.Shape.TheVariants.{Table}
use Rattle.sqlite_trees.specs.Listing.{same_code}
use Rattle.sqlite_trees.specs.Objects.{number_in}
use Rattle.sqlite_trees.specs.Sound.{is_virtual}
use Rattle.sqlite_rules.specs.Lists.{Has}
use Rattle.sqlite_pages.specs.PageMap.{PageMap}
use Rattle.sqlite_pool.specs.File.{in_use}
use Rattle.sqlite_store.specs.declared.catalog.Wanted.{Wanted}
use Rattle.sqlite_store.specs.Catalog.{is_plain, describes, page_number, is_well_formed, has_no_pages, may_stand}
use Rattle.sqlite_store.specs.Db.{rows_at, IsDb, IsFile}
use Rattle.sqlite_store.specs.Listing.{listed_from}
use Rattle.osm_tree_writes.specs.Tables.{table_listings}
use Rattle.osm_openings.proofs.KnownLemmas.{no_page_0}
use Rattle.osm_openings.proofs.ListedLemmas.{described, listed_at}
use Rattle.osm_openings.proofs.PlaceLemmas.{any_place}
use Rattle.osm_restarts.proofs.Entries.{has_entry}
use Rattle.osm_restarts.proofs.OneList.{has_own}
use Rattle.osm_restarts.proofs.Places.{placed}

all_of : (p : Row → Bool) (rows : List Row) (row : Row) → list_all p rows ≡ true → Has rows row → p row ≡ true
all_of p [] row all here = absurd here
all_of p (r ∷ rows) row all (inl is) = ap p is ∙ (and_parts (p r) (list_all p rows) all).0
all_of p (r ∷ rows) row all (inr later) = all_of p rows row (and_parts (p r) (list_all p rows) all).1 later

-- each row of the list of objects may stand beside the trees of the list
stands : (size : ℕ) (schema : List Wanted) (pages : PageMap) → IsDb size schema pages → (row : Row) → Has (rows_at size pages Table 1) row → may_stand schema row ≡ true
stands size schema pages db row there =
    all_of (may_stand schema) (rows_at size pages Table 1) row (and_parts _ _ (and_parts _ _ (and_parts _ _ db.known).0).0).0 there

-- of a list of no tree these are rows that have no pages
pageless : (schema : List Wanted) → listed_from 0 schema ≡ [] → (row : Row) → may_stand schema row ≡ true → page_number (column row 4) ≡ 0
unfolding may_stand has_no_pages
pageless schema none row may = elim (cases_Bool (list_any (λ w. describes w row) schema)) [
  | inl some ↦
      let w = any_place (λ (w : Wanted). describes w row) schema some in
      let l = listed_at 0 schema w.0 w.1 w.2 (described w.1 row w.3).present in
      absurd (none-some _ (ap (λ (rows : List Row). slice_get rows l.0) (sym none) ∙ l.1))
  | inr other ↦
      let rest = (and_parts (is_well_formed row) _ may).1 in
      let bare = (and_parts (has_no_pages row) _ (sym (cond-false (list_any (λ w. describes w row) schema) _ _ other) ∙ rest)).0 in
      eqb-true _ _ (and_parts (eqb (page_number (column row 4)) 0) _ (and_parts (eqb (page_number (column row 4)) 0 && is_virtual (column row 1) (column row 5)) _ bare).0).0
]

pub no_store : (size : ℕ) (schema others : List Wanted) (pages : PageMap) → IsFile size schema pages → IsFile size others pages → listed_from 0 schema ≡ [] → take 9 (listed_from 0 others) ≡ table_listings → ⊥
no_store size schema others pages mine theirs none first =
    let q : Row = get_or table_listings 0 [] in
    let there : Has (listed_from 0 others) q = (has_own size others others pages theirs theirs (inr first) first q (inl refl)).0 in
    let p = placed 0 others q there in
    let shape = same_code p.wanted.shape Table (sym (ap (λ (r : Row). number_in (column r 5)) p.is)) in
    let e = has_entry (no_page_0 size pages theirs.sound) theirs.db p.place p.wanted p.at (ap is_plain shape) in
    e.3 (pageless schema none e.0 (stands size schema (in_use size pages) mine.db e.0 e.1))
