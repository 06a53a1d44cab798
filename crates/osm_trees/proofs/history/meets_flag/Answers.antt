use Rattle.std.proofs.Common.{rules, arith, ◌∙◌, refl, sym, ap}
use Rattle.std.specs.List.{list_any}
use Rattle.sqlite_exec.specs.Loops.{left_of}
use Rattle.sqlite_exec.proofs.CheckLemmas.{from_no_key, stepped, ended}
use Rattle.osm_trees.specs.Below.{is_flagged}
use Rattle.osm_trees.proofs.TreeReads.{flag_met, flag_missed}
use Rattle.osm_trees.proofs.history.meets_flag.Goals as goal

pub rows-init : goal.rows-init
rows-init g c = (
  search rules,
  search rules,
  search rules,
  λ clean. rw (c.in_default.ensures.ok clean, c.new-row.ensures, from_no_key) refl,
)

pub returns-in-Ok-false-clause-found : goal.returns-in-Ok-false-clause-found
returns-in-Ok-false-clause-found g c clean =
    let before = c.rows.invariant.3 (omega (arith, clean, c.next.ensures.quiet.clean)) in
    let none = ended _ _ 0 c.next.new.row (rw c.in-Ok-false.field-0-test at (c.in-Ok-false.ensures.ok clean)) in
    ap (list_any is_flagged) (sym none) ∙ before

pub returns-then-is_flagged-clause-found : goal.returns-then-is_flagged-clause-found
returns-then-is_flagged-clause-found g c clean =
    let before = c.rows.invariant.3 (omega (arith, clean, c.next.ensures.quiet.clean)) in
    let step = stepped _ _ 0 c.next.new.row (rw c.in-Ok-true.field-0-test at (c.in-Ok-true.ensures.ok clean)) in
    flag_met c.next.new.row (left_of (g.S.Store.view c.next.new.self) 0) _ (sym c.is_flagged.ensures ∙ c.if-is_flagged.true) (rw step at before)

pub rows-preserved : goal.rows-preserved
rows-preserved g c = (
  search rules,
  search rules,
  search rules,
  λ clean.
      let before = c.rows.invariant.3 (omega (arith, clean, c.next.ensures.quiet.clean)) in
      let step = stepped _ _ 0 c.next.new.row (rw c.in-Ok-true.field-0-test at (c.in-Ok-true.ensures.ok clean)) in
      flag_missed c.next.new.row (left_of (g.S.Store.view c.next.new.self) 0) _ (sym c.is_flagged.ensures ∙ c.if-is_flagged.false) (rw step at before),
)
