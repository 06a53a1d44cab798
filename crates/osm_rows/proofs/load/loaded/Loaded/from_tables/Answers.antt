use Rattle.std.proofs.Common.{◌∙◌, refl, sym, true≢false}
use Rattle.osm_rows.specs.TableRows.{element_row}
use Rattle.osm_rows.proofs.LoadLemmas.Numbering.{placed_numbered}
use Rattle.osm_rows.proofs.load.loaded.Loaded.from_tables.Goals as goal

pub returns-then-not-are_numbered-clause-rows : goal.returns-then-not-are_numbered-clause-rows
returns-then-not-are_numbered-clause-rows c off blob are =
    absurd (true≢false (sym (c.are_numbered.ensures.1 (placed_numbered element_row (λ p. refl) off blob _ (c.deref.ensures.value ∙ are.elements))) ∙ c.if-not-are_numbered.true))

pub returns-clause-rows : goal.returns-clause-rows
returns-clause-rows c off blob are = record { off = off; rows = are }
