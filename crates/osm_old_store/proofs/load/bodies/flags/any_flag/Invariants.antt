use Rattle.std.proofs.Common.{◌≡◌, drop}
use Rattle.std.specs.List.{list_any}
use Rattle.osm_rows.specs.Flags.{has_flag}
use Rattle.osm_old_store.proofs.load.bodies.flags.any_flag.Given as goal

abbrev pub invariant-loop-element : goal.invariant-loop-element
invariant-loop-element l = list_any has_flag (drop l.element-index l.elements) ≡ list_any has_flag l.elements
