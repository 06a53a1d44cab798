-- The trees of a store in one file that lists them, under two lists.
use Rattle.std.proofs.Common.{◌≡◌, ◌⊎◌, ℕ, zero, suc, ◌+◌, ◌*◌, ◌<◌, List, [], ◌∷◌, codes, pos, get_or, refl, sym, subst, ap, ◌∙◌, inl, inr, arith}
use Rattle.std.specs.Prelude.{Some, slice_get, take, ⊤}
use Rattle.std.specs.List.{AllByRecursion}
use Rattle.std.proofs.lemmas.Option.{none-some, same_Some, slice_get-get_or}
use Rattle.sqlite_value.specs.declared.value.Value.{Value}
use Rattle.sqlite_value.specs.declared.value.Value.TheVariants.{Int, Null, Text}
use Rattle.sqlite_value.specs.Order.{Row, column}
use Rattle.sqlite_schema.specs.declared.schema.Table.{Table}
use Rattle.sqlite_schema.specs.declared.schema.Index.{Index}
use Rattle.sqlite_schema.specs.Rules.{table_reals, index_reals}
use Rattle.sqlite_rules.specs.Lists.{Has}
use Rattle.sqlite_rules.proofs.ListLemmas.{all_has}
use Rattle.sqlite_rules.proofs.RuleLemmas.{same_table}
use Rattle.sqlite_catalog.specs.Listing.{Describes, IsIndexRow, Lists}
use Rattle.sqlite_catalog.proofs.LayoutLemmas.{index_owner, table_row, index_row, laid_out}
use Rattle.sqlite_pages.specs.PageMap.{PageMap}
use Rattle.sqlite_store.specs.declared.catalog.Wanted.{Wanted}
use Rattle.sqlite_store.specs.Db.{IsFile}
use Rattle.sqlite_store.specs.Listed.{is_listed}
use Rattle.sqlite_store.specs.Listing.{listed_from, file_trees}
use Rattle.sqlite_store.proofs.ListingLemmas.{listing_shaped}
use Rattle.osm_rows.specs.declared.schema.layout.Layout.TheVariants.{Tables}
use Rattle.osm_rows.specs.Schema.Bodies.{meta, blob}
use Rattle.osm_rows.specs.Schema.Tables.{element, tag, link, element_key, tag_key, link_key, element_by_id, table_schema}
use Rattle.osm_rows.specs.declared.schema.sql.TheConstants.{CREATE_META, CREATE_BLOB, CREATE_ELEMENT, CREATE_TAG, CREATE_LINK, CREATE_ELEMENT_INDEX}
use Rattle.osm_tree_writes.specs.Beside.{HasAStore}
use Rattle.osm_tree_writes.specs.Tables.{table_listing, index_listing, table_listings}
use Rattle.osm_restarts.proofs.Entries.{IsWords}
use Rattle.osm_restarts.proofs.NineTrees.{own_trees, same_own}
use Rattle.osm_restarts.proofs.SameTrees.{same_file_tree}
use Rattle.osm_restarts.proofs.Twins.{AreTwins, same_row}
use Rattle.osm_openings.proofs.KnownLemmas.{no_page_0}

-- the row describes the table, and has a text or none
abbrev IsOfTable : Row → Table → Type 0
IsOfTable row t = Describes row t.tree (codes "table") t.name t.name 1 (table_reals t) × IsWords (column row 4)

-- the row describes the index of the table, and has a text or none
abbrev IsOfIndex : Row → Index → Table → Type 0
IsOfIndex row i t = Describes row i.tree (codes "index") i.name t.name (2 + 8 * i.order.digits) (index_reals (table_reals t) i.columns) × IsWords (column row 4)

-- the row is that of one of the tables or of the indexes
abbrev IsKnownRow : Row → Type 0
IsKnownRow row = ((t : Table) × Has table_schema.tables t × IsOfTable row t)
    ⊎ ((i : Index) × (t : Table) × Has table_schema.indexes i × Has table_schema.tables t × (i.table ≡ t.tree) × IsOfIndex row i t)

row_of_table : (t : Table) (sql : List ℕ) → t.tree < 65536 → 0 ≡ table_reals t → IsOfTable (table_listing t.tree t.name sql) t
row_of_table t sql low none = (record { low = low; id = refl; kind_is = refl; name_is = refl; owner_is = refl; shape_is = refl; reals_are = none; fits = omega arith }, tt)

row_of_index : (i : Index) (t : Table) (sql : Value) → i.tree < 65536 → 2 ≡ 2 + 8 * i.order.digits → 0 ≡ index_reals (table_reals t) i.columns → IsWords sql
    → IsOfIndex (index_listing i.tree i.name t.name sql) i t
row_of_index i t sql low plain none words =
    (record { low = low; id = refl; kind_is = refl; name_is = refl; owner_is = refl; shape_is = plain; reals_are = none; fits = omega arith }, words)

of_meta : IsOfTable (table_listing 0 (codes "meta") CREATE_META.now) meta
of_meta = row_of_table meta CREATE_META.now (omega arith) refl

of_blob : IsOfTable (table_listing 1 (codes "blob") CREATE_BLOB.now) blob
of_blob = row_of_table blob CREATE_BLOB.now (omega arith) refl

of_element : IsOfTable (table_listing 2 (codes "element") CREATE_ELEMENT.now) element
of_element = row_of_table element CREATE_ELEMENT.now (omega arith) refl

of_tag : IsOfTable (table_listing 4 (codes "tag") CREATE_TAG.now) tag
of_tag = row_of_table tag CREATE_TAG.now (omega arith) refl

of_link : IsOfTable (table_listing 6 (codes "link") CREATE_LINK.now) link
of_link = row_of_table link CREATE_LINK.now (omega arith) refl

of_element_key : IsOfIndex (index_listing 3 (codes "sqlite_autoindex_element_1") (codes "element") Null) element_key element
of_element_key = row_of_index element_key element Null (omega arith) refl refl tt

of_tag_key : IsOfIndex (index_listing 5 (codes "sqlite_autoindex_tag_1") (codes "tag") Null) tag_key tag
of_tag_key = row_of_index tag_key tag Null (omega arith) refl refl tt

of_link_key : IsOfIndex (index_listing 7 (codes "sqlite_autoindex_link_1") (codes "link") Null) link_key link
of_link_key = row_of_index link_key link Null (omega arith) refl refl tt

of_element_by_id : IsOfIndex (index_listing 8 (codes "element_by_id") (codes "element") (Text CREATE_ELEMENT_INDEX.now)) element_by_id element
of_element_by_id = row_of_index element_by_id element (Text CREATE_ELEMENT_INDEX.now) (omega arith) refl refl tt

all_rows : AllByRecursion IsKnownRow table_listings
all_rows = (
  inl (meta, inl refl, of_meta),
  (
    inl (blob, inr (inl refl), of_blob),
    (
      inl (element, inr (inr (inl refl)), of_element),
      (
        inr (element_key, element, inl refl, inr (inr (inl refl)), refl, of_element_key),
        (
          inl (tag, inr (inr (inr (inl refl))), of_tag),
          (
            inr (tag_key, tag, inr (inl refl), inr (inr (inr (inl refl))), refl, of_tag_key),
            (
              inl (link, inr (inr (inr (inr (inl refl)))), of_link),
              (
                inr (link_key, link, inr (inr (inl refl)), inr (inr (inr (inr (inl refl)))), refl, of_link_key),
                (
                  inr (element_by_id, element, inr (inr (inr (inl refl))), inr (inr (inl refl)), refl, of_element_by_id),
                  tt,
                ),
              ),
            ),
          ),
        ),
      ),
    ),
  ),
)

has_at : (rows : List Row) (k : ℕ) (row : Row) → slice_get rows k ≡ Some row → Has rows row
has_at [] k row at = absurd (none-some row at)
has_at (r ∷ rows) zero row at = inl (sym (same_Some r row at))
has_at (r ∷ rows) (suc k) row at = inr (has_at rows k row at)

has_among : (n : ℕ) (rows : List Row) (row : Row) → Has (take n rows) row → Has rows row
has_among zero rows row h = absurd h
has_among (suc n) [] row h = absurd h
has_among (suc n) (r ∷ rows) row (inl is) = inl is
has_among (suc n) (r ∷ rows) row (inr later) = inr (has_among n rows row later)

-- the rows of a store's own list have the rowids from 1 on
abbrev AreNumbered : ℕ → List Row → Type 0
AreNumbered from [] = ⊤
AreNumbered from (r ∷ rows) = (column r 0 ≡ Int (pos (from + 1))) × AreNumbered (from + 1) rows

all_numbered : AreNumbered 0 table_listings
all_numbered = (refl, (refl, (refl, (refl, (refl, (refl, (refl, (refl, (refl, tt)))))))))

numbered_from : (rows : List Row) (from : ℕ) → AreNumbered from rows → (t : ℕ) (q : Row) → slice_get rows t ≡ Some q → column q 0 ≡ Int (pos (from + t + 1))
numbered_from [] from all t q at = absurd (none-some q at)
numbered_from (r ∷ rows) from all zero q at =
    let same : from + 1 ≡ from + 0 + 1 = omega arith in
    ap (λ (x : Row). column x 0) (sym (same_Some r q at)) ∙ all.0 ∙ ap (λ n. Int (pos n)) same
numbered_from (r ∷ rows) from all (suc t) q at =
    let next : from + 1 + t + 1 ≡ from + suc t + 1 = omega arith in
    numbered_from rows (from + 1) all.1 t q at ∙ ap (λ n. Int (pos n)) next

pub numbered : (t : ℕ) (q : Row) → slice_get table_listings t ≡ Some q → column q 0 ≡ Int (pos (t + 1))
numbered t q at =
    let same : 0 + t + 1 ≡ t + 1 = omega arith in
    numbered_from table_listings 0 all_numbered t q at ∙ ap (λ n. Int (pos n)) same

module _ (schema : List Wanted) (lists : Lists (listed_from 0 schema) table_schema) where
  -- an index belongs to one table
  owned : (i : Index) (t : Table) (row : Row) → Has table_schema.tables t → i.table ≡ t.tree → IsIndexRow table_schema.tables row i
      → Describes row i.tree (codes "index") i.name t.name (2 + 8 * i.order.digits) (index_reals (table_reals t) i.columns)
  owned i t row there of x =
      let apart = (laid_out (is_listed schema) (listing_shaped 0 schema) lists.listed).tables_apart in
      let same = same_table table_schema.tables x.table t apart x.listed there (sym (index_owner x.table i _ x.defined) ∙ of) in
      subst (λ (u : Table). Describes row i.tree (codes "index") i.name u.name (2 + 8 * i.order.digits) (index_reals (table_reals u) i.columns)) same x.described

  from_own : (q : Row) → Has table_listings q → (r : Row) × Has (listed_from 0 schema) r × AreTwins r q
  from_own q here = elim (all_has IsKnownRow table_listings q all_rows here) [
    | inl table ↦
        let x = table_row (is_listed schema) (listing_shaped 0 schema).0 lists.listed table.0 table.1 in
        (x.0, x.1, record { tree = _; kind = _; name = _; owner = _; code = _; bits = _; one = x.2.described; other = table.2.0; coded = inl refl; words = table.2.1 })
    | inr index ↦
        let x = index_row (is_listed schema) (listing_shaped 0 schema).0 lists.listed index.0 index.2 in
        (x.0, x.1, record { tree = _; kind = _; name = _; owner = _; code = _; bits = _; one = owned index.0 index.1 x.0 index.3 index.4 x.2; other = index.5.0; coded = inr (index.0.order, refl); words = index.5.1 })
  ]

-- the row of a store's own list stands in each list of the trees of a store, and in each that begins with the store's own
pub has_own : (size : ℕ) (schema others : List Wanted) (pages : PageMap) → IsFile size schema pages → IsFile size others pages → HasAStore Tables (listed_from 0 schema)
    → take 9 (listed_from 0 others) ≡ table_listings → (q : Row) → Has table_listings q → Has (listed_from 0 schema) q × Has (listed_from 0 others) q
has_own size schema others pages mine theirs (inl lists) first q own =
    let there = has_among 9 (listed_from 0 others) q (subst (λ rows. Has rows q) (sym first) own) in
    let t = from_own schema lists q own in
    (subst (Has (listed_from 0 schema)) (same_row (no_page_0 size pages mine.sound) mine.db theirs.db t.0 q t.1 there t.2) t.1, there)
has_own size schema others pages mine theirs (inr begins) first q own =
    (has_among 9 (listed_from 0 schema) q (subst (λ rows. Has rows q) (sym begins) own), has_among 9 (listed_from 0 others) q (subst (λ rows. Has rows q) (sym first) own))

-- a file that lists the trees of a store has the same nine by each list of them, whatever else is listed
pub one_store : (size : ℕ) (schema others : List Wanted) (pages : PageMap) → IsFile size schema pages → IsFile size others pages → HasAStore Tables (listed_from 0 schema)
    → take 9 (listed_from 0 others) ≡ table_listings → own_trees (file_trees size schema pages) ≡ own_trees (file_trees size others pages)
one_store size schema others pages mine theirs lists first = same_own _ _ (λ t low.
    let q = get_or table_listings t [] in
    let at : slice_get table_listings t ≡ Some q = slice_get-get_or table_listings t [] low in
    let both = has_own size schema others pages mine theirs lists first q (has_at table_listings t q at) in
    same_file_tree size schema others pages t q low (numbered t q at) both.0 both.1)
