use Rattle.std.proofs.Common.{◌≡◌, ℕ, Option, Some, None, Ok, Result, ◌∙◌, ap, sym, subst, refl}
use Rattle.std.specs.Str.Parse.{ParsesUnsigned, ExplainsUnsignedError, HasUnsignedDigitsIfOk}
use Rattle.clap.specs.Words.{Text, TriesOne, found_of}
use Rattle.clap.proofs.WalkLemmas.{one_text-rows}
use Rattle.pbfrow_words.proofs.arguments.number_of.Goals as goal

absent : {E : Type 0} (gives : Text → Result ℕ E → Type 0) (given : Option Text) (r : Result (Option ℕ) E)
    → ((t : Text) → given ≡ Some t → TriesOne gives t r) → r ≡ Ok None → given ≡ None
absent gives None r value e = refl
absent gives (Some t) r value e = absurd (subst (TriesOne gives t) e (value t refl))

present : {E : Type 0} (gives : Text → Result ℕ E → Type 0) (given : Option Text) (r : Result (Option ℕ) E) (n : ℕ)
    → (given ≡ None → r ≡ Ok None) → ((t : Text) → given ≡ Some t → TriesOne gives t r) → r ≡ Ok (Some n)
    → (t : Text) × (given ≡ Some t) × gives t (Ok n)
present gives None r n none value e =
    let other = none refl in
    cc
present gives (Some t) r n none value e = (t, refl, subst (TriesOne gives t) e (value t refl))

pub returns-in-Ok-None : goal.returns-in-Ok-None
returns-in-Ok-None c =
    let same = one_text-rows (found_of c.args.matches.now) c.args.id.now in
    sym same ∙ absent (λ t r. ParsesUnsigned 64 10 t r × ExplainsUnsignedError 10 t r × HasUnsignedDigitsIfOk t r) _ _ c.try_get_one.ensures.value (c.in-Ok-None.is ∙ ap Ok c.in-Ok-None.field-0-is)

pub returns-in-Ok-Some : goal.returns-in-Ok-Some
returns-in-Ok-Some c =
    let same = one_text-rows (found_of c.args.matches.now) c.args.id.now in
    let p = present (λ t r. ParsesUnsigned 64 10 t r × ExplainsUnsignedError 10 t r × HasUnsignedDigitsIfOk t r) _ _ c.in-Ok-Some.number c.try_get_one.ensures.none c.try_get_one.ensures.value
    (c.in-Ok-Some.is ∙ ap Ok c.in-Ok-Some.field-0-is) in
    (p.0, sym same ∙ p.1, (p.2.0.0.0, p.2.0.1, c.if-number-le-MAX_OFFSET.true))
