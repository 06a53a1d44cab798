use Rattle.std.proofs.Common.{◌≡◌, ◌&&◌, drop}
use Rattle.std.specs.List.{list_all}
use Rattle.osm_value.specs.Ranges.{is_uid}
use Rattle.osm_block.proofs.dense.arrays.all_uids.Given as goal

abbrev pub invariant-loop-uid : goal.invariant-loop-uid
invariant-loop-uid l = (l.all && list_all is_uid (drop l.uid-index l.uids)) ≡ list_all is_uid l.uids
