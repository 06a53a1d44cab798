use Rattle.std.proofs.Common.{◌≡◌, ◌∙◌, ◌&&◌, Bool, true, refl, ap}
use Rattle.sqlite_schema.specs.Names.{same_name}
use Rattle.sqlite.specs.Schema.{Schema}
use Rattle.osm_rows.specs.Schema.Bodies.{meta, blob, body, body_schema}
use Rattle.osm_sql_store.specs.Schema.Named.{has_table, names_of}
use Rattle.osm_old_store.proofs.schema.tables.has_body_tables.Goals as goal

abbrev has_shared : Schema → Bool
has_shared s = has_table s meta.name (names_of meta) && has_table s blob.name (names_of blob)

shared_by_bodies : has_shared body_schema ≡ true
unfolding same_name
shared_by_bodies = refl

bodies_by_bodies : has_table body_schema body.name (names_of body) ≡ true
unfolding same_name
bodies_by_bodies = refl

pub returns-then-has_shared_tables-clause-own : goal.returns-then-has_shared_tables-clause-own
returns-then-has_shared_tables-clause-own c same = c.has_table.ensures ∙ ap (λ (s : Schema). has_table s body.name (names_of body)) same ∙ bodies_by_bodies

pub returns-else-has_shared_tables-clause-own : goal.returns-else-has_shared_tables-clause-own
returns-else-has_shared_tables-clause-own c same = c.has_shared_tables.ensures ∙ ap has_shared same ∙ shared_by_bodies
