use Rattle.std.proofs.Common.{◌∙◌, sym, ap, true, false}
use Rattle.osm_value.specs.Ranges.{has_no_nul}
use Rattle.osm_block.proofs.HeadLemmas.{text_not_utf8, text_of_utf8}
use Rattle.osm_block.proofs.texts.read_text.Goals as goal

pub returns-in_default-clause-phase : goal.returns-in_default-clause-phase
returns-in_default-clause-phase c = text_not_utf8 c.args.bytes.now c.in_default.ensures

pub returns-then-text_in_range-clause-phase : goal.returns-then-text_in_range-clause-phase
returns-then-text_in_range-clause-phase c =
    text_of_utf8 c.args.bytes.now true c.in-Ok.ensures.1 (ap has_no_nul (sym c.in-Ok.ensures.0) ∙ sym c.text_in_range.ensures ∙ c.if-text_in_range.true)

pub returns-else-text_in_range-clause-phase : goal.returns-else-text_in_range-clause-phase
returns-else-text_in_range-clause-phase c =
    text_of_utf8 c.args.bytes.now false c.in-Ok.ensures.1 (ap has_no_nul (sym c.in-Ok.ensures.0) ∙ sym c.text_in_range.ensures ∙ c.if-text_in_range.false)
