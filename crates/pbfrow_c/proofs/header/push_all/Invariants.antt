use Rattle.std.proofs.Common.{◌≡◌, ◌++◌, map}
use Rattle.osm_block.specs.HeaderTexts.{texts_left}
use Rattle.pbfrow_c.proofs.header.push_all.Given as goal

abbrev pub invariant-loop-text : goal.invariant-loop-text
invariant-loop-text l = record {
  can : (goal.iterator-loop-text).can_next l.text-iterator;
  ends : (goal.iterator-loop-text).is_finite l.text-iterator;
  so_far : map (λ t. t.now) l.out.items ++ texts_left l.text-iterator ≡ map (λ t. t.now) l.fn.out.items ++ texts_left l.fn.texts;
}
