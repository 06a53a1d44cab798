use Rattle.std.proofs.Common.{◌≡◌, take}
use Rattle.osm_rows.specs.Audit.{capped, links_in}
use Rattle.osm_rows.proofs.audit.counts.links_in.Given as goal

abbrev pub invariant-loop-element : goal.invariant-loop-element
invariant-loop-element l = l.count ≡ capped (links_in (take l.element-index l.elements))
