use Rattle.std.proofs.Common.{◌≡◌, ◌≤◌, ◌+◌, ◌-◌, IfSome, length, option_map}
use Rattle.pbf_wire.specs.FieldList.{items_from, last_or}
use Rattle.pbf_wire.specs.Readings.{bytes_of, fields, fitting, front, last_bytes}
use Rattle.pbfrow_c.specs.Blob.{span}
use Rattle.pbfrow_c.proofs.blob.last_place.Given as goal

abbrev pub invariant-fields : goal.invariant-fields
invariant-fields l = record {
  in_range : l.at ≤ length l.message;
  within : IfSome l.last (λ p. p.at + p.length ≤ length l.message);
  so_far : last_or (option_map (λ p. span p.at p.length l.message) l.last) (fitting bytes_of l.number (front (items_from l.at l.message))) ≡ last_bytes (fields l.message) l.number;
}

abbrev pub decreases-fields : goal.decreases-fields
decreases-fields l = length l.message - l.at
