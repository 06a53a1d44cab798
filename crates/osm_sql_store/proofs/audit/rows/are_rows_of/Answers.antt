use Rattle.std.proofs.Common.{map, ap, ◌∙◌}
use Rattle.osm_rows.specs.Put.WrittenRows.{element_columns, tag_columns, link_columns}
use Rattle.osm_rows.proofs.AuditLemmas.Telling.{meant, ok_told}
use Rattle.osm_sql_store.proofs.audit.rows.are_rows_of.Goals as goal

pub returns-in-Blobs-clause-told : goal.returns-in-Blobs-clause-told
returns-in-Blobs-clause-told c = rw c.in-Blobs.is c.are_extent.ensures

pub returns-in_ok-expected-in-Elements-clause-told : goal.returns-in_ok-expected-in-Elements-clause-told
returns-in_ok-expected-in-Elements-clause-told c =
    rw c.in-Elements.is (ok_told c.have_columns.result (λ b told. meant _ _ _ (ap (map element_columns) c.deref.ensures.value ∙ c.in_ok-expected-in-Elements.ensures) told) c.have_columns.ensures.told)

pub returns-in_ok-expected-in-Tags-clause-told : goal.returns-in_ok-expected-in-Tags-clause-told
returns-in_ok-expected-in-Tags-clause-told c =
    rw c.in-Tags.is (ok_told c.have_columns-in-Tags.result (λ b told. meant _ _ _ (ap (map tag_columns) c.deref-in-Tags.ensures.value ∙ c.in_ok-expected-in-Tags.ensures) told) c.have_columns-in-Tags.ensures.told)

pub returns-in_ok-expected-in-Links-clause-told : goal.returns-in_ok-expected-in-Links-clause-told
returns-in_ok-expected-in-Links-clause-told c =
    rw c.in-Links.is (ok_told c.have_columns-in-Links.result (λ b told. meant _ _ _ (ap (map link_columns) c.deref-in-Links.ensures.value ∙ c.in_ok-expected-in-Links.ensures) told) c.have_columns-in-Links.ensures.told)
