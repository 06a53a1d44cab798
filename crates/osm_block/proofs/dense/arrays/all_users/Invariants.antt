use Rattle.std.proofs.Common.{◌≡◌, ◌&&◌, drop}
use Rattle.std.specs.List.{list_all}
use Rattle.osm_block.specs.Phases.{is_index}
use Rattle.osm_block.proofs.dense.arrays.all_users.Given as goal

abbrev pub invariant-loop-user : goal.invariant-loop-user
invariant-loop-user l = (l.all && list_all (is_index l.texts) (drop l.user-index l.users)) ≡ list_all (is_index l.texts) l.users
