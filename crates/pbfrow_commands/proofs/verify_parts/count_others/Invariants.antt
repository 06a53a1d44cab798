use Rattle.std.proofs.Common.{◌≡◌, ◌≤◌, take}
use Rattle.std.specs.List.{count_by}
use Rattle.pbfrow_commands.specs.VerifyingParts.{is_other}
use Rattle.pbfrow_commands.proofs.verify_parts.count_others.Given as goal

abbrev pub invariant-loop-finding : goal.invariant-loop-finding
invariant-loop-finding l = (l.count ≡ count_by is_other (take l.finding-index l.findings)) × (l.count ≤ l.finding-index)
