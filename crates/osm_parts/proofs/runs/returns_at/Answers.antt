use Rattle.std.proofs.Common.{not, eqb, eq-eqb, ◌≡◌, ◌≢◌, ℕ, zero, suc, ◌+◌, ◌<◌, List, [], ◌∷◌, length, take, get_or, slice_get, Some, Bool, true, false, sym, ◌∙◌, ap, subst, arith}
use Rattle.std.proofs.lemmas.Option.{slice_get-get_or}
use Rattle.osm_import.proofs.WalkLemmas.{read-is}
use Rattle.osm_parts.specs.Runs.{HasPlace, ReturnsAt}
use Rattle.osm_parts.specs.declared.runs.Part.{Part}
use Rattle.osm_parts.proofs.runs.returns_at.Goals as goal

in-front : (parts : List Part) (k i : ℕ) (part : Part) → slice_get (take i parts) k ≡ Some part → (k < i) × (slice_get parts k ≡ Some part)
in-front [] k zero part at = absurd (cc)
in-front [] k (suc i) part at = absurd (cc)
in-front (x ∷ parts) k zero part at = absurd (cc)
in-front (x ∷ parts) zero (suc i) part at = (omega arith, at)
in-front (x ∷ parts) (suc k) (suc i) part at = let it = in-front parts k i part at in (let h : k < i = it.0 in omega arith, it.1)

to-front : (parts : List Part) (k i : ℕ) (part : Part) → k < i → slice_get parts k ≡ Some part → slice_get (take i parts) k ≡ Some part
to-front [] k i part low at = absurd (cc)
to-front (x ∷ parts) k zero part low at = absurd (omega arith)
to-front (x ∷ parts) zero (suc i) part low at = at
to-front (x ∷ parts) (suc k) (suc i) part low at = to-front parts k i part (omega arith) at

unequal : (a b : ℕ) → a ≡ b → not (eqb a b) ≡ true → ⊥
unequal a b same differ = let bad : false ≡ true = subst (λ (v : Bool). not v ≡ true) (eq-eqb a b same) differ in cc

module _ (parts : List Part) (index : ℕ) (between last : Part) (low : index + 1 < length parts) (between_is : between ≡ get_or parts index between) (last_is : last ≡ get_or parts (index + 1) last) where
  between-at : slice_get parts index ≡ Some between
  between-at = slice_get-get_or parts index between (omega arith) ∙ ap (λ (p : Part). Some p) (sym between_is)

  last-at : slice_get parts (index + 1) ≡ Some last
  last-at = slice_get-get_or parts (index + 1) last low ∙ ap (λ (p : Part). Some p) (sym last_is)

  comes-back : between.place ≢ last.place → HasPlace last.place (take index parts) → ReturnsAt parts index
  comes-back other has =
      let it = in-front parts has.0 index has.1 has.2 in
      record { early = has.0; first = has.1; between = between; last = last; first_at = it.1; between_at = between-at; last_at = last-at; before = it.0; same = has.3; other = other }

  came-back : ReturnsAt parts index → (between.place ≢ last.place) × HasPlace last.place (take index parts)
  came-back r =
      let one : r.between ≡ between = let e : Some r.between ≡ Some between = sym r.between_at ∙ between-at in cc in
      let two : r.last ≡ last = let e : Some r.last ≡ Some last = sym r.last_at ∙ last-at in cc in (
        λ same. r.other (ap (λ (p : Part). p.place) one ∙ same ∙ ap (λ (p : Part). p.place) (sym two)),
        (r.early, r.first, to-front parts r.early index r.first r.before r.first_at, r.same ∙ ap (λ (p : Part). p.place) two),
      )

pub returns-then-parts-index : goal.returns-then-parts-index
returns-then-parts-index c =
    let parts = c.args.parts.now in
    let index = c.args.index in
    let between = get_or parts index c.index-parts-index-2.result in
    let last = get_or parts (index + 1) c.index-parts-index.result in
    let low : index < length parts = omega (arith, c.requires) in
    let between_is = read-is parts index c.index-parts-index-2.result between low in
    let last_is = read-is parts (index + 1) c.index-parts-index.result last c.requires in (
      λ yes. comes-back parts index between last c.requires between_is last_is c.if-parts-index.true (c.has_place.ensures.0 yes),
      λ r. c.has_place.ensures.1 (came-back parts index between last c.requires between_is last_is r).1,
    )

pub returns-else-parts-index : goal.returns-else-parts-index
returns-else-parts-index c =
    let parts = c.args.parts.now in
    let index = c.args.index in
    let between = get_or parts index c.index-parts-index-2.result in
    let last = get_or parts (index + 1) c.index-parts-index.result in
    let low : index < length parts = omega (arith, c.requires) in
    let between_is = read-is parts index c.index-parts-index-2.result between low in
    let last_is = read-is parts (index + 1) c.index-parts-index.result last c.requires in (
      λ differ. absurd (unequal between.place last.place c.if-parts-index.false differ),
      λ r. absurd ((came-back parts index between last c.requires between_is last_is r).0 c.if-parts-index.false),
    )
