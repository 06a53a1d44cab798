use Rattle.std.proofs.Common.{◌≡◌, drop, max}
use Rattle.osm_import.specs.Exports.{greatest_end}
use Rattle.osm_import.proofs.export.refusal.greatest_end.Given as goal

abbrev pub invariant-loop-extent : goal.invariant-loop-extent
invariant-loop-extent l = max l.end (greatest_end (drop l.extent-index l.extents)) ≡ greatest_end l.extents
