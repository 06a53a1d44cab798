use Rattle.std.proofs.Common.{◌≡◌, drop}
use Rattle.osm_value.specs.Ranges.{has_no_nul}
use Rattle.osm_value.proofs.range.text_in_range.Given as goal

-- the bytes that are left decide
abbrev pub invariant-loop-byte : goal.invariant-loop-byte
invariant-loop-byte l = has_no_nul l.text ≡ has_no_nul (drop l.byte-index l.byte-items)
