use Rattle.std.proofs.Common.{◌∙◌, sym}
use Rattle.std.proofs.lemmas.Bool.Decides.{not_from_Decides, Decides-eqb}
use Rattle.osm_import.proofs.ExportLemmas.{refused-gap, refused-end, tiling}
use Rattle.osm_import.proofs.export.refusal.export_refusal.Goals as goal

pub returns-in-Some : goal.returns-in-Some
returns-in-Some c = refused-gap c.args.extents.now c.args.size c.greatest_end-greatest.result c.unwrap_or-size.result c.in-Some.from c.in-Some.to c.greatest_end-greatest.ensures c.unwrap_or-size.ensures c.in-Some.ensures

pub returns-then-size-greatest : goal.returns-then-size-greatest
returns-then-size-greatest c = refused-end c.args.extents.now c.args.size c.greatest_end-greatest.result c.unwrap_or-size.result c.greatest_end-greatest.ensures c.unwrap_or-size.ensures
    (λ x is. c.in_default.not-Some x (c.first_gap.ensures ∙ is)) c.if-size-greatest.true

pub returns : goal.returns
returns c = tiling c.args.extents.now c.args.size c.greatest_end-greatest.result c.unwrap_or-size.result c.greatest_end-greatest.ensures c.unwrap_or-size.ensures
    (λ x is. c.in_default.not-Some x (c.first_gap.ensures ∙ is)) (λ none. not_from_Decides _ (Decides-eqb _ 0) (sym c.if-is_empty.ensures) none) c.if-size-greatest.false
