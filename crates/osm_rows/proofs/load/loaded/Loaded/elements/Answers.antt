use Rattle.std.proofs.Common.{◌≡◌, List, IfOk, IsSomeAnd, subst}
use Rattle.osm_value.specs.declared.element.Element.{Element}
use Rattle.osm_rows.specs.Rows.{placed}
use Rattle.osm_rows.proofs.MapLemmas.HeldLemmas.{elements_of}
use Rattle.osm_rows.proofs.load.loaded.Loaded.elements.Goals as goal

pub returns : goal.returns
returns c elements h =
    subst (λ (es : List Element). IfOk c.elements.result (λ found. IsSomeAnd found (λ made. made.items ≡ es))) (elements_of h.off 0 elements) (c.elements.ensures (placed h.off 0 elements) h.rows)
