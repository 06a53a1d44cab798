-- Reads one after the other, and what they leave of a map.
use Rattle.std.proofs.Common.{◌≡◌, false, sym, ap, subst, ◌∙◌}
use Rattle.sqlite_trees.specs.View.{View, IsClean}
use Rattle.sqlite_exec.specs.Calls.{OnlyReads}
use Rattle.osm_rows.specs.declared.schema.layout.Layout.{Layout}
use Rattle.osm_rows.specs.Held.{HeldMap}
use Rattle.osm_tree_writes.specs.Putting.{TreesHold}
use Rattle.osm_trees.specs.Below.{HoldsBelow}

pub same_trees : (a b : View) → OnlyReads a b → b.trees ≡ a.trees
same_trees a b reads = ap (λ (v : View). v.trees) reads

pub same_commit : (a b : View) → OnlyReads a b → b.committed ≡ a.committed
same_commit a b reads = ap (λ (v : View). v.committed) reads

pub holds_after : (layout : Layout) (a b : View) (held : HeldMap) → OnlyReads a b → IsClean b → b.is_broken ≡ false → HoldsBelow layout a held → HoldsBelow layout b held
holds_after layout a b held reads clean up holds = record {
  clean = clean;
  unbroken = up;
  settled = same_trees a b reads ∙ holds.settled ∙ sym (same_commit a b reads);
  kept = holds.kept;
  tables = subst (TreesHold layout held) (sym (same_trees a b reads)) holds.tables;
  only = λ other kept tables. holds.only other kept (subst (TreesHold layout other) (same_trees a b reads) tables);
}
