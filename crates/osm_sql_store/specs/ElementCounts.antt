-- How many rows the tables of elements have.
use Rattle.sqlite.specs.Tree.{Trees}
use Rattle.osm_rows.specs.Audit.{HasCount}
use Rattle.osm_rows.specs.declared.audit.counts.Counts.{Counts}
use Rattle.osm_rows.specs.declared.schema.layout.Layout.{Layout}
use Rattle.osm_rows.specs.declared.schema.layout.Layout.TheVariants.{Bodies, Tables}
use Rattle.osm_rows.specs.declared.trees.TheConstants.{ELEMENTS, LINKS, TAGS}

-- each table in which the layout keeps elements has so many rows
abbrev pub ShowsElementCounts : Layout → Trees → Counts → Type 0
ShowsElementCounts Bodies db counts = HasCount (db ELEMENTS) counts.elements
ShowsElementCounts Tables db counts = HasCount (db ELEMENTS) counts.elements × HasCount (db TAGS) counts.tags × HasCount (db LINKS) counts.links
