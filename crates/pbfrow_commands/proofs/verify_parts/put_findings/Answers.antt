use Rattle.osm_verify.specs.declared.part_audit.Finding.TheVariants.{Differs}
use Rattle.pbfrow_commands.specs.VerifyingParts.{finding_line}
use Rattle.pbfrow_reading.proofs.LineLemmas.{lines-all, lines-more, lines-none}
use Rattle.pbfrow_commands.proofs.verify_parts.put_findings.Goals as goal

pub loop-finding-init : goal.loop-finding-init
loop-finding-init g c = λ start before h. lines-none start before _ _ h

pub loop-finding-preserved : goal.loop-finding-preserved
loop-finding-preserved g c = λ start before h.
    lines-more finding_line start before c.args.findings.now c.loop-finding.finding-index (Differs 0) _ _ c.loop-finding-test.true (c.put_finding.ensures start _ (c.loop-finding.invariant start before h))

pub returns : goal.returns
returns g c = λ start before h.
    lines-all finding_line start before c.args.findings.now c.loop-finding.finding-index _ _ c.loop-finding-test.false (c.loop-finding.invariant start before h)
