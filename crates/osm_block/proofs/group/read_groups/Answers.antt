use Rattle.std.proofs.Common.{rules, map}
use Rattle.std.specs.List.{flat_map}
use Rattle.osm_block.specs.Block.{GroupOf}
use Rattle.osm_block.specs.Fields.{context_of}
use Rattle.osm_block.specs.Phases.{first, group_phases}
use Rattle.osm_block.proofs.ReadingLemmas.{Refused, still_refused}
use Rattle.osm_block.proofs.LoopLemmas.{phase-step, phase-stop, joins-step}
use Rattle.osm_block.proofs.group.read_groups.Goals as goal

pub returns-in_err-read_group-clause-phase : goal.returns-in_err-read_group-clause-phase
returns-in_err-read_group-clause-phase c =
    let b = context_of c.args.scale.now in
    let refused : Refused (first (flat_map (group_phases b) (map (λ p. p.now) c.args.groups.now))) c.in_err-read_group.field-0.0 =
    still_refused _ _ _ (phase-stop (group_phases b) (λ g. g) (λ p. p.now) c.args.groups.now c.loop-group.group-index _ _ c.loop-group-test.true c.loop-group.invariant.phases) c.in_err-read_group.ensures.phase in
    search rules

pub loop-group-preserved : goal.loop-group-preserved
loop-group-preserved c =
    let b = context_of c.args.scale.now in
    record {
      so_far = joins-step (GroupOf b) (λ g. g) (λ p. p.now) c.args.groups.now c.loop-group.group-index _ _ _ _ c.in_ok-read_group.ensures.read.0 c.loop-group-test.true
          c.in_ok-read_group.ensures.read.1 c.in_ok-read_group.ensures.read.2 c.loop-group.invariant.so_far;
      phases = phase-step (group_phases b) (λ g. g) (λ p. p.now) c.args.groups.now c.loop-group.group-index _ _ c.loop-group-test.true c.in_ok-read_group.ensures.phase.0 c.loop-group.invariant.phases;
    }
