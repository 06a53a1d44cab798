use Rattle.std.proofs.Common.{◌≡◌, take}
use Rattle.osm_rows.specs.Audit.{capped, tags_in}
use Rattle.osm_rows.proofs.audit.counts.tags_in.Given as goal

abbrev pub invariant-loop-element : goal.invariant-loop-element
invariant-loop-element l = l.count ≡ capped (tags_in (take l.element-index l.elements))
