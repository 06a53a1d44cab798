use Rattle.std.proofs.Common.{rules, map, Err, Vec, Global}
use Rattle.std.specs.List.{flat_map}
use Rattle.osm_block.specs.declared.groups.GroupElements.{GroupElements}
use Rattle.osm_block.specs.Fields.{context_of}
use Rattle.osm_block.specs.GroupsRead.{GroupRead, GroupsRead}
use Rattle.osm_block.specs.Phases.{Gives, first, group_phases}
use Rattle.osm_block.proofs.LoopLemmas.{phase-step}
use Rattle.osm_block.proofs.GroupsLemmas.{groups-step, groups-stop}
use Rattle.osm_block.proofs.groups.read_each_group.Goals as goal

pub returns-in_err-read : goal.returns-in_err-read
returns-in_err-read c =
    let b = context_of c.args.scale.now in
    let refused : Gives {A = Vec GroupElements Global} (λ gs. GroupsRead b gs.items (map (λ p. p.now) c.args.groups.now)) (first (flat_map (group_phases b) (map (λ p. p.now) c.args.groups.now))) (Err c.in_err-read.field-0.0) =
    groups-stop {C = Vec GroupElements Global} (GroupRead b) (λ (gs : Vec GroupElements Global). GroupsRead b gs.items (map (λ p. p.now) c.args.groups.now)) b (λ p. p.now) c.args.groups.now c.loop-group.group-index _ _ _ c.loop-group-test.true c.loop-group.invariant.phases c.in_err-read.ensures in
    search rules

pub loop-group-preserved : goal.loop-group-preserved
loop-group-preserved c =
    let b = context_of c.args.scale.now in
    record {
      so_far = groups-step b (λ p. p.now) c.args.groups.now c.loop-group.group-index _ _ _ _ c.loop-group-test.true c.loop-group.invariant.so_far c.in_ok-read.ensures.1 c.in_ok-append_group.ensures;
      phases = phase-step (group_phases b) (λ g. g) (λ p. p.now) c.args.groups.now c.loop-group.group-index _ _ c.loop-group-test.true c.in_ok-read.ensures.0 c.loop-group.invariant.phases;
    }
