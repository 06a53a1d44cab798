use Rattle.std.proofs.Common.{◌≡◌, ℕ, true, false, refl, ◌<◌, List, length, get_or, slice_get, Some, sym, ◌∙◌, ap, inl, inr, arith}
use Rattle.std.proofs.lemmas.Bool.Decides.{eqb_tells}
use Rattle.std.proofs.lemmas.Option.{slice_get_within, get_or_from_slice_get, slice_get-get_or}
use Rattle.osm_parts.specs.declared.runs.Part.{Part}
use Rattle.osm_parts.proofs.runs.has_place.Goals as goal

here : (parts : List Part) (i : ℕ) (part : Part) → i < length parts → part ≡ get_or parts i part → slice_get parts i ≡ Some part
here parts i part low is = slice_get-get_or parts i part low ∙ ap (λ (p : Part). Some p) (sym is)

pub returns-then-part-place : goal.returns-then-part-place
returns-then-part-place c = (
  λ yes. (c.loop-part.part-index, c.part-item.result, here c.args.parts.now c.loop-part.part-index c.part-item.result c.loop-part-test.true c.part-item.is, c.if-part-place.true),
  λ has. refl,
)

pub loop-part-preserved : goal.loop-part-preserved
loop-part-preserved c = λ i part low at same. elim (eqb_tells i c.loop-part.part-index) [
  | inl (_, last) ↦ (
      let is : part ≡ c.part-item.result = sym (get_or_from_slice_get c.args.parts.now i part c.part-item.result at) ∙ ap (λ n. get_or c.args.parts.now n c.part-item.result) last ∙ sym c.part-item.is in
      c.if-part-place.false (sym (ap (λ (p : Part). p.place) is) ∙ same)
      )
  | inr (_, other) ↦ c.loop-part.invariant i part (omega arith) at same
]

pub returns : goal.returns
returns c = (
  λ (no : false ≡ true). absurd (cc),
  λ has. absurd (c.loop-part.invariant has.0 has.1 (let h : has.0 < length c.args.parts.now = slice_get_within c.args.parts.now has.0 has.1 has.2 in omega (arith, c.loop-part-test.false)) has.2 has.3),
)
