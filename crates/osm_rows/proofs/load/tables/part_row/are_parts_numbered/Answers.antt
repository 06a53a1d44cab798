use Rattle.std.proofs.Common.{◌≡◌, ℕ, [], Option, Some, true, not, eqb, true≢false, ap, subst, ◌∙◌}
use Rattle.std.specs.Prelude.{slice_index_or}
use Rattle.std.specs.Option.{option_eq}
use Rattle.sqlite.specs.Order.{Row, column}
use Rattle.osm_rows.proofs.LoadLemmas.Numbering.{read_at, same_number}
use Rattle.osm_rows.proofs.load.tables.part_row.are_parts_numbered.Goals as goal

pub returns-then-ne : goal.returns-then-ne
returns-then-ne c = (
  λ bad. absurd (cc),
  λ are.
      let number : ℕ = c.loop-number.number in
      let same : c.index-rows-number.result ≡ slice_index_or c.args.rows.now number [] = c.index-rows-number.is ∙ read_at c.args.rows.now number _ [] c.loop-number-test.true in
      let there = ap (λ (row : Row). column row 2) same ∙ are number c.loop-number-test.true in
      let found = c.number_of.ensures.exact number (c.value.ensures ∙ there) in
      let differs : true ≡ not (option_eq eqb (Some number) (Some number)) = subst (λ (o : Option ℕ). true ≡ not (option_eq eqb o (Some number))) found c.if-ne.ensures in
      absurd (true≢false (differs ∙ ap not (same_number number))),
)
