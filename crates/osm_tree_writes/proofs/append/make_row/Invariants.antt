use Rattle.std.proofs.Common.{◌≡◌, ◌∷◌, take}
use Rattle.sqlite_value.specs.declared.value.Value.TheVariants.{Int}
use Rattle.sqlite.specs.Values.{bound}
use Rattle.osm_tree_writes.proofs.append.make_row.Given as goal

abbrev pub invariant-loop-value : goal.invariant-loop-value
invariant-loop-value l = l.row ≡ Int l.fn.rowid ∷ bound (take l.value-index l.values)
