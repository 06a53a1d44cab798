-- What the texts mean that make the tables which users can query.
use Rattle.std.proofs.Common.{◌≡◌, Ok, refl}
use Rattle.sqlite.specs.Compile.{table_defined_by}
use Rattle.sqlite_tied.specs.Compute.{everything}
use Rattle.osm_rows.specs.declared.schema.sql.TheConstants.{CREATE_META, CREATE_BLOB, CREATE_ELEMENT, CREATE_TAG, CREATE_LINK}
use Rattle.osm_rows.specs.Schema.Bodies.{meta, blob}
use Rattle.osm_rows.specs.Schema.Tables.{element, tag, link}

pub meta_defined : table_defined_by CREATE_META.now ≡ Ok meta
unfolding everything
meta_defined = refl

pub blob_defined : table_defined_by CREATE_BLOB.now ≡ Ok (record blob { tree = 0 })
unfolding everything
blob_defined = refl

pub element_defined : table_defined_by CREATE_ELEMENT.now ≡ Ok (record element { tree = 0 })
unfolding everything
element_defined = refl

pub tag_defined : table_defined_by CREATE_TAG.now ≡ Ok (record tag { tree = 0 })
unfolding everything
tag_defined = refl

pub link_defined : table_defined_by CREATE_LINK.now ≡ Ok (record link { tree = 0 })
unfolding everything
link_defined = refl
