-- Trees that hold a map obey the schema of a store, and those that a put adds a blob to hold the map with it.
use Rattle.std.proofs.Common.{◌≡◌, ◌<◌, ◌≤◌, ℕ, ℤ, true, not, ◌&&◌, List, [], ◌∷◌, map, drop, Option, Some, None, refl, sym, ap, subst, inl, ◌∙◌}
use Rattle.std.specs.Prelude.{flat_map}
use Rattle.std.specs.List.{AllByRecursion}
use Rattle.std.specs.FinMap.{entries}
use Rattle.std.proofs.lemmas.Bool.{and_from}
use Rattle.sqlite_value.specs.declared.value.Value.{Value}
use Rattle.sqlite_value.specs.declared.value.Value.TheVariants.{Null, Int, Text as Words}
use Rattle.sqlite_value.specs.Order.{Row}
use Rattle.sqlite_schema.specs.declared.schema.Constraint.{Constraint}
use Rattle.sqlite_schema.specs.declared.schema.Constraint.TheVariants.{Datatype, NotNull, Check, PrimaryKey, Unique, ForeignKey}
use Rattle.sqlite_schema.specs.declared.schema.Kind.{Kind}
use Rattle.sqlite_schema.specs.declared.schema.Kind.TheVariants as kinds
use Rattle.sqlite_schema.specs.declared.schema.Table.{Table}
use Rattle.sqlite_schema.specs.Rules.{Obeys, Keeps, passes, are_typed, are_present, is_of}
use Rattle.sqlite_trees.specs.Tree.{Trees, put_row}
use Rattle.sqlite_trees.proofs.ListLemmas.{all_of, all_weaker, all-map, all_from_map, all-permutation}
use Rattle.sqlite_catalog.specs.Listing.{Lists}
use Rattle.pbf_frame.specs.declared.part.TheConstants.{MAX_OFFSET}
use Rattle.osm_value.specs.Value.{Text, MemberValue}
use Rattle.osm_value.specs.Elements.{info_of_element}
use Rattle.osm_rows.specs.declared.keeper.Extent.{Extent}
use Rattle.osm_rows.specs.declared.schema.layout.Layout.{Layout}
use Rattle.osm_rows.specs.declared.schema.layout.Layout.TheVariants.{Bodies, Tables}
use Rattle.osm_rows.specs.Schema.Layouts.{schema_of}
use Rattle.sqlite_trees.specs.Objects.{catalog_tree}
use Rattle.osm_rows.specs.Held.{Blob, HeldMap}
use Rattle.osm_rows.specs.Keeping.{IsAddable, extent_of, extents_of, with_blob}
use Rattle.osm_rows.specs.LayoutHolding.{IsBlob, IsKept, HasRows, HoldElements, TablesHold}
use Rattle.osm_rows.specs.Rows.{Placed, extent_row, placed, placed_in, version_row}
use Rattle.osm_rows.specs.Schema.Bodies.{meta, blob as blobs}
use Rattle.osm_rows.specs.Schema.Tables.{element, tag, link, table_schema}
use Rattle.osm_rows.specs.TableRows.{Part, element_row, element_rows, flag, lat_of, lon_of, link_row, link_rows, links_at, tag_row, tag_rows, tags_at}
use Rattle.osm_rows.proofs.MapLemmas.OneMap.{element_before, rises, tags_rise, links_rise, one_map_of}
use Rattle.osm_rows.proofs.MapLemmas.OneMore.{unheld, inserted, more_elements, put_entry}
use Rattle.osm_rows.proofs.MapLemmas.PlacedLaws.{IsBefore, placed_in_rise}
use Rattle.osm_tree_writes.specs.Beside.{HasAStore}
use Rattle.osm_tree_writes.specs.Putting.{AreTables, IsIndexedStore, PutsBelow, TreesHold}
use Rattle.osm_tree_writes.proofs.RowKeys.{no_clashes}

-- ---- rows of one table

meta_passes : (rule : Constraint) (db : Trees) → passes rule table_schema db meta (version_row Tables) ≡ true
meta_passes Datatype db = refl
meta_passes NotNull db = refl
meta_passes Check db = refl
meta_passes PrimaryKey db = refl
meta_passes Unique db = refl
meta_passes ForeignKey db = refl

blob_passes : (rule : Constraint) (db : Trees) (e : Extent) → passes rule table_schema db blobs (extent_row e) ≡ true
blob_passes Datatype db e = refl
blob_passes NotNull db e = refl
blob_passes Check db e = refl
blob_passes PrimaryKey db e = refl
blob_passes Unique db e = refl
blob_passes ForeignKey db e = refl

-- ---- the columns of a row

-- a value, and NULL where there is none
abbrev optional : {X : Type 0} → (X → Value) → Option X → Value
optional make None = Null
optional make (Some x) = make x

suits_if_any : {X : Type 0} (kind : Kind) (make : X → Value) → ((x : X) → is_of kind (make x) ≡ true) → (o : Option X) → is_of kind (optional make o) ≡ true
suits_if_any kind make each None = refl
suits_if_any kind make each (Some x) = each x

number : (n : Option ℤ) → is_of kinds.Integer (optional Int n) ≡ true
number = suits_if_any kinds.Integer Int (λ n. refl)

abbrev AreTyped : Table → Row → Type 0
AreTyped table columns = are_typed None 0 table.columns columns ≡ true

-- as the rule reads them, behind a rowid
abbrev ArePresent : Table → Row → Type 0
ArePresent table columns = are_present None 0 table.columns (Null ∷ columns) ≡ true

element_typed : (p : Placed) → AreTyped element (element_row p)
element_typed p =
    let i = info_of_element p.2 in
    and_from _ _ (number (lat_of p.2))
    (and_from _ _ (number (lon_of p.2))
    (and_from _ _ (number i.version)
    (and_from _ _ (number i.time)
    (and_from _ _ (number i.changeset)
    (and_from _ _ (number i.uid)
    (and_from _ _ (suits_if_any kinds.Text Words (λ t. refl) i.user)
    (and_from _ _ (suits_if_any kinds.Integer flag (λ b. refl) i.visible) refl)))))))

element_present : (p : Placed) → ArePresent element (element_row p)
element_present p = refl

element_with_rowid : (row : Row) → ArePresent element (drop 1 row) → are_present None 0 element.columns row ≡ true
element_with_rowid [] present = present
element_with_rowid (id ∷ columns) present = present

tag_typed : (p : Part (Text × Text)) → AreTyped tag (tag_row p)
tag_typed p = refl

tag_present : (p : Part (Text × Text)) → ArePresent tag (tag_row p)
tag_present p = refl

tag_with_rowid : (row : Row) → ArePresent tag (drop 1 row) → are_present None 0 tag.columns row ≡ true
tag_with_rowid [] present = present
tag_with_rowid (id ∷ columns) present = present

link_typed : (p : Part MemberValue) → AreTyped link (link_row p)
link_typed p = refl

link_present : (p : Part MemberValue) → ArePresent link (link_row p)
link_present p = refl

link_with_rowid : (row : Row) → ArePresent link (drop 1 row) → are_present None 0 link.columns row ≡ true
link_with_rowid [] present = present
link_with_rowid (id ∷ columns) present = present

-- what holds of the columns of each of these rows holds of those of each row in the table
each_row : {X : Type 0} (P : Row → Type 0) (row : X → Row) (items : List X) (table : List Row) → HasRows (map row items) table → ((x : X) → P (row x)) → AllByRecursion (λ r. P (drop 1 r)) table
each_row P row items table has each = all_from_map P (drop 1) table (all-permutation P _ _ has (all-map P row items (all_of _ each items)))

-- ---- the schema

module _ (held : HeldMap) (db : Trees) (is_meta : db 0 ≡ version_row Tables ∷ []) (is_blob : db 1 ≡ map extent_row (extents_of held)) (has : HoldElements Tables (placed_in held) db) (tables : AreTables db) where
  in_meta : (rule : Constraint) → AllByRecursion (λ row. passes rule table_schema db meta row ≡ true) (db 0)
  in_meta rule = subst (AllByRecursion (λ row. passes rule table_schema db meta row ≡ true)) (sym is_meta) (meta_passes rule db, tt)

  in_blob : (rule : Constraint) → AllByRecursion (λ row. passes rule table_schema db blobs row ≡ true) (db 1)
  in_blob rule = subst (AllByRecursion (λ row. passes rule table_schema db blobs row ≡ true)) (sym is_blob) (all-map _ extent_row (extents_of held) (all_of _ (blob_passes rule db) (extents_of held)))

  in_element : (rule : Constraint) → AllByRecursion (λ row. passes rule table_schema db element row ≡ true) (db 2)
  in_element Datatype = all_weaker _ _ (λ row typed. and_from _ _ typed refl) (db 2) (each_row (AreTyped element) element_row (placed_in held) (db 2) has.0 element_typed)
  in_element NotNull = all_weaker _ _ element_with_rowid (db 2) (each_row (ArePresent element) element_row (placed_in held) (db 2) has.0 element_present)
  in_element Unique =
      all_weaker _ _ (λ row none. ap (λ b. not b && true) none) (db 2)
      (no_clashes (0 ∷ 1 ∷ []) (element_rows (placed_in held)) (db 2) (rises (0 ∷ 1 ∷ []) IsBefore element_row element_before (placed_in held) (placed_in_rise held)) has.0 tables.0.1)
  in_element rule = all_of _ (λ row. refl) (db 2)

  in_tag : (rule : Constraint) → AllByRecursion (λ row. passes rule table_schema db tag row ≡ true) (db 4)
  in_tag Datatype = all_weaker _ _ (λ row typed. and_from _ _ typed refl) (db 4) (each_row (AreTyped tag) tag_row (flat_map tags_at (placed_in held)) (db 4) has.1 tag_typed)
  in_tag NotNull = all_weaker _ _ tag_with_rowid (db 4) (each_row (ArePresent tag) tag_row (flat_map tags_at (placed_in held)) (db 4) has.1 tag_present)
  in_tag Unique =
      all_weaker _ _ (λ row none. ap (λ b. not b && true) none) (db 4)
      (no_clashes (0 ∷ 1 ∷ 2 ∷ []) (tag_rows (placed_in held)) (db 4) (tags_rise (placed_in held) (placed_in_rise held)) has.1 tables.1.1)
  in_tag rule = all_of _ (λ row. refl) (db 4)

  in_link : (rule : Constraint) → AllByRecursion (λ row. passes rule table_schema db link row ≡ true) (db 6)
  in_link Datatype = all_weaker _ _ (λ row typed. and_from _ _ typed refl) (db 6) (each_row (AreTyped link) link_row (flat_map links_at (placed_in held)) (db 6) has.2 link_typed)
  in_link NotNull = all_weaker _ _ link_with_rowid (db 6) (each_row (ArePresent link) link_row (flat_map links_at (placed_in held)) (db 6) has.2 link_present)
  in_link Unique =
      all_weaker _ _ (λ row none. ap (λ b. not b && true) none) (db 6)
      (no_clashes (0 ∷ 1 ∷ 2 ∷ []) (link_rows (placed_in held)) (db 6) (links_rise (placed_in held) (placed_in_rise held)) has.2 tables.2.1)
  in_link rule = all_of _ (λ row. refl) (db 6)

  pub keeps_rules : (rule : Constraint) → Keeps rule table_schema db
  keeps_rules rule = (in_meta rule, (in_blob rule, (in_element rule, (in_tag rule, (in_link rule, tt)))))

pub obey : (held : HeldMap) (db : Trees) → db 0 ≡ version_row Tables ∷ [] → db 1 ≡ map extent_row (extents_of held) → HoldElements Tables (placed_in held) db
    → AreTables db → IsIndexedStore db → Obeys table_schema db
obey held db is_meta is_blob has tables indexed = record { rules = keeps_rules held db is_meta is_blob has tables; indexed = indexed }

-- ---- a put

module _ (held : HeldMap) (off : ℕ) (blob : Blob) (kept : IsKept Tables held) (addable : IsAddable held off blob) (order : off < blob.fin) (limit : blob.fin ≤ MAX_OFFSET) (is : IsBlob Tables blob) where
  pub hold_with : (old new : Trees) → TreesHold Tables held old → PutsBelow old new (extent_of (off, blob)) (placed off 0 blob.elements) → TreesHold Tables (with_blob held off blob) new
  hold_with old new holds puts =
      let is_meta = puts.meta ∙ holds.meta in
      let in_place = put_entry off blob (entries held) (unheld held off blob Tables kept addable.free order) in
      let more = ap (λ l. map extent_row (map extent_of l)) (sym (inserted held off blob Tables kept addable.free order)) in
      let is_blob = puts.blob ∙ ap (put_row (extent_row (extent_of (off, blob)))) holds.blob ∙ in_place ∙ more in
      let has = more_elements held off blob Tables kept addable.free order Tables old new holds.elements puts.elements in
      record {
        lists = subst (HasAStore Tables) (sym (puts.catalog)) holds.lists;
        obeys = obey (with_blob held off blob) new is_meta is_blob has puts.tables (puts.indexed holds.obeys.indexed);
        meta = is_meta;
        blob = is_blob;
        elements = has;
      }

-- no other map has these rows
pub one_map_below : (layout : Layout) (one other : HeldMap) (db : Trees) → IsKept layout one → IsKept layout other → TreesHold layout one db → TreesHold layout other db → one ≡ other
one_map_below layout one other db kept kept_too trees trees_too = one_map_of layout one other db kept kept_too trees.blob trees_too.blob trees.elements trees_too.elements

-- a list of the trees of a store alone is one of them
lists_alone : (layout : Layout) (rows : List Row) → Lists rows (schema_of layout) → HasAStore layout rows
lists_alone Bodies rows lists = lists
lists_alone Tables rows lists = inl lists

-- what the tables of a connection hold, its trees hold
pub trees_of : (layout : Layout) (held : HeldMap) (db : Trees) → TablesHold layout held db → TreesHold layout held db
trees_of layout held db tables = record { lists = lists_alone layout (db catalog_tree) tables.sound.lists; obeys = tables.sound.obeys; meta = tables.meta; blob = tables.blob; elements = tables.elements }

-- and the other way round, where the list of objects is that of a store alone
pub tables_of : (layout : Layout) (held : HeldMap) (db : Trees) → Lists (db catalog_tree) (schema_of layout) → TreesHold layout held db → TablesHold layout held db
tables_of layout held db lists trees = record { sound = record { lists = lists; obeys = trees.obeys }; meta = trees.meta; blob = trees.blob; elements = trees.elements }
