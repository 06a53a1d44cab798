-- What the queries on the layout of tables mean.
use Rattle.std.proofs.Common.{◌≡◌, ℕ, List, [], ◌∷◌, codes, false, refl}
use Rattle.sqlite.specs.Term.{Term, col}
use Rattle.sqlite.specs.Command.TheVariants.{Select}
use Rattle.sqlite_sql.specs.declared.ops.CompareOp.TheVariants.{Eq}
use Rattle.sqlite_tied.specs.Compute.{everything}
use Rattle.sqlite.specs.Listing.{understood, reads_listing}
use Rattle.sqlite.proofs.Callers.{IsPlain, command_of}
use Rattle.osm_sql_store.specs.declared.schema.sql.TheConstants.{SELECT_ELEMENTS, SELECT_TAGS, SELECT_LINKS, FIND_ELEMENTS, SELECT_ITS_TAGS, SELECT_ITS_LINKS}
use Rattle.osm_rows.specs.Schema.Tables.{table_schema}
use Rattle.osm_sql_store.proofs.LoadLemmas.OneTable.{select}
use Rattle.osm_sql_store.proofs.LoadLemmas.SharedTexts.{compares}

abbrev pub element_shown : List Term
element_shown = col 1 1 ∷ col 1 2 ∷ col 1 3 ∷ col 1 4 ∷ col 1 5 ∷ col 1 6 ∷ col 1 7 ∷ col 1 8 ∷ col 1 9 ∷ col 1 10 ∷ col 1 11 ∷ col 1 12 ∷ []

abbrev pub element_names : List (List ℕ)
element_names = codes "off" ∷ codes "pos" ∷ codes "kind" ∷ codes "id" ∷ codes "lat" ∷ codes "lon" ∷ codes "version" ∷ codes "time" ∷ codes "changeset" ∷ codes "uid" ∷ codes "user" ∷ codes "visible" ∷ []

abbrev pub tag_shown : List Term
tag_shown = col 1 1 ∷ col 1 2 ∷ col 1 3 ∷ col 1 4 ∷ col 1 5 ∷ []

abbrev pub tag_names : List (List ℕ)
tag_names = codes "off" ∷ codes "pos" ∷ codes "k" ∷ codes "key" ∷ codes "val" ∷ []

abbrev pub link_shown : List Term
link_shown = col 1 1 ∷ col 1 2 ∷ col 1 3 ∷ col 1 4 ∷ col 1 5 ∷ col 1 6 ∷ []

abbrev pub link_names : List (List ℕ)
link_names = codes "off" ∷ codes "pos" ∷ codes "k" ∷ codes "kind" ∷ codes "ref" ∷ codes "role" ∷ []

abbrev pub by_place : List Term
by_place = col 1 1 ∷ col 1 2 ∷ []

abbrev pub by_part : List Term
by_part = col 1 1 ∷ col 1 2 ∷ col 1 3 ∷ []

abbrev pub at_off : List Term
at_off = compares Eq (col 1 1) (col 0 0) ∷ []

abbrev pub at_place : List Term
at_place = compares Eq (col 1 1) (col 0 0) ∷ compares Eq (col 1 2) (col 0 1) ∷ []

abbrev pub of_kind_and_id : List Term
of_kind_and_id = compares Eq (col 1 3) (col 0 0) ∷ compares Eq (col 1 4) (col 0 1) ∷ []

pub elements_are : (command_of (understood table_schema SELECT_ELEMENTS.now) ≡ Select (record { lets = []; body = select 2 at_off element_shown by_place }) element_names) × (reads_listing table_schema SELECT_ELEMENTS.now ≡ false) × IsPlain (understood table_schema SELECT_ELEMENTS.now)
unfolding understood everything
elements_are = (refl, refl, (refl, refl))

pub tags_are : (command_of (understood table_schema SELECT_TAGS.now) ≡ Select (record { lets = []; body = select 4 at_off tag_shown by_part }) tag_names) × (reads_listing table_schema SELECT_TAGS.now ≡ false) × IsPlain (understood table_schema SELECT_TAGS.now)
unfolding understood everything
tags_are = (refl, refl, (refl, refl))

pub links_are : (command_of (understood table_schema SELECT_LINKS.now) ≡ Select (record { lets = []; body = select 6 at_off link_shown by_part }) link_names) × (reads_listing table_schema SELECT_LINKS.now ≡ false) × IsPlain (understood table_schema SELECT_LINKS.now)
unfolding understood everything
links_are = (refl, refl, (refl, refl))

pub found_are : (command_of (understood table_schema FIND_ELEMENTS.now) ≡ Select (record { lets = []; body = select 2 of_kind_and_id element_shown by_place }) element_names) × (reads_listing table_schema FIND_ELEMENTS.now ≡ false) × IsPlain (understood table_schema FIND_ELEMENTS.now)
unfolding understood everything
found_are = (refl, refl, (refl, refl))

pub its_tags_are : (command_of (understood table_schema SELECT_ITS_TAGS.now) ≡ Select (record { lets = []; body = select 4 at_place tag_shown by_part }) tag_names) × (reads_listing table_schema SELECT_ITS_TAGS.now ≡ false) × IsPlain (understood table_schema SELECT_ITS_TAGS.now)
unfolding understood everything
its_tags_are = (refl, refl, (refl, refl))

pub its_links_are : (command_of (understood table_schema SELECT_ITS_LINKS.now) ≡ Select (record { lets = []; body = select 6 at_place link_shown by_part }) link_names) × (reads_listing table_schema SELECT_ITS_LINKS.now ≡ false) × IsPlain (understood table_schema SELECT_ITS_LINKS.now)
unfolding understood everything
its_links_are = (refl, refl, (refl, refl))
