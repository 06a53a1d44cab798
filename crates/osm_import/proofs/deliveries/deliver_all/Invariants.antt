use Rattle.std.proofs.Common.{◌≡◌, ◌≤◌, length, take, vec_len}
use Rattle.std.specs.Prelude.{vec_capacity}
use Rattle.osm_import.specs.Stores.{TakesEach}
use Rattle.osm_import.proofs.deliveries.deliver_all.Given as goal

abbrev pub invariant-loop-delivery : goal.invariant-loop-delivery
invariant-loop-delivery g l = record {
  room : length l.deliveries ≤ vec_capacity l.answers;
  count : vec_len l.answers ≡ l.delivery-index;
  each : TakesEach g.K.BlobReader l.fn.keeper l.keeper (take l.delivery-index l.deliveries) l.answers.items;
}
