use Rattle.std.proofs.Common.{rules, ◌≡◌, length, map}
use Rattle.osm_block.specs.Fields.{context_of}
use Rattle.osm_block.proofs.DenseLemmas.{no_phase_stands, nothing_appended, no_items, arrays_appended}
use Rattle.osm_block.proofs.dense.read_dense.Goals as goal

pub returns-then-is_empty-clause-phase : goal.returns-then-is_empty-clause-phase
returns-then-is_empty-clause-phase c =
    let empty : length c.args.payloads.now ≡ 0 = search rules in
    (no_phase_stands (context_of c.args.scale.now) _ (no_items (λ p. p.now) c.args.payloads.now empty), tt)

pub returns-then-is_empty-clause-read : goal.returns-then-is_empty-clause-read
returns-then-is_empty-clause-read c =
    let empty : length c.args.payloads.now ≡ 0 = search rules in
    nothing_appended (context_of c.args.scale.now) _ _ (no_items (λ p. p.now) c.args.payloads.now empty)

pub nodes_of-requires : goal.nodes_of-requires
nodes_of-requires c = record { ready = c.in_ok-arrays.ensures.1.0 }

pub returns-clause-phase : goal.returns-clause-phase
returns-clause-phase c = (c.in_ok-arrays.ensures.0, tt)

pub returns-clause-read : goal.returns-clause-read
returns-clause-read c =
    arrays_appended (context_of c.args.scale.now) (map (λ p. p.now) c.args.payloads.now) c.in_ok-arrays.arrays _ _ c.in_ok-arrays.ensures.0 c.in_ok-arrays.ensures.1.0 c.in_ok-arrays.ensures.1.1 c.in_ok-nodes_of.ensures
