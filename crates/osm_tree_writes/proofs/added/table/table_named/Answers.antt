use Rattle.std.proofs.Common.{◌≡◌, true, false, Some, ap, codes}
use Rattle.sqlite_trees.specs.Sound.{same_name}
use Rattle.osm_rows.specs.Schema.Tables.{element, tag, link}
use Rattle.osm_rows.proofs.SchemaLemmas.TablesDefined.{element_defined, tag_defined, link_defined}
use Rattle.osm_tree_writes.proofs.added.table.table_named.Goals as goal

pub returns-in_ok-defined : goal.returns-in_ok-defined
returns-in_ok-defined c =
    let name = c.args.name.now in
    let here : same_name name (codes "element") ≡ true = let yes_it = c.if-same_name.true in let same = c.same_name.ensures in cc in
    rw here (ap Some (c.in_ok-defined.ensures (record element { tree = 0 }) element_defined))

pub returns-in_ok-defined-2 : goal.returns-in_ok-defined-2
returns-in_ok-defined-2 c =
    let name = c.args.name.now in
    let first : same_name name (codes "element") ≡ false = let no = c.if-same_name.false in let same = c.same_name.ensures in cc in
    let here : same_name name (codes "tag") ≡ true = let yes_it = c.if-same_name-2.true in let same = c.same_name-else-same_name.ensures in cc in
    rw (first, here) (ap Some (c.in_ok-defined-2.ensures (record tag { tree = 0 }) tag_defined))

pub returns-in_ok-defined-3 : goal.returns-in_ok-defined-3
returns-in_ok-defined-3 c =
    let name = c.args.name.now in
    let first : same_name name (codes "element") ≡ false = let no = c.if-same_name.false in let same = c.same_name.ensures in cc in
    let second : same_name name (codes "tag") ≡ false = let no = c.if-same_name-2.false in let same = c.same_name-else-same_name.ensures in cc in
    let here : same_name name (codes "link") ≡ true = let yes_it = c.if-same_name-3.true in let same = c.same_name-else-same_name-2.ensures in cc in
    rw (first, second, here) (ap Some (c.in_ok-defined-3.ensures (record link { tree = 0 }) link_defined))
