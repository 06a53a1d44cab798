-- What is read from several payloads, one after the other.
use Rattle.std.proofs.Common.{◌≡◌, ℕ, zero, suc, ◌+◌, ◌<◌, List, [], ◌∷◌, ◌++◌, map, length, drop, take, get_or, refl, sym, ap, ◌∙◌, Option, Some, None, Result, Ok, Err, append_assoc, subst, set, arith}
use Rattle.std.specs.Prelude.{⊤}
use Rattle.std.specs.List.{flat_map}
use Rattle.std.specs.Result.{result_err}
use Rattle.std.proofs.lemmas.List.{drop_more}
use Rattle.std.proofs.lemmas.List.Elements.{filter_map-append}
use Rattle.std.proofs.lemmas.Grind.{flat_map-append}
use Rattle.pbf_wire.specs.declared.fault.WireFault.{WireFault}
use Rattle.pbf_wire.specs.Fault as reading
use Rattle.pbf_wire.specs.Field.{Entry}
use Rattle.pbf_wire.specs.FieldList.{fields_of}
use Rattle.pbf_wire.proofs.Choices.{err_is}
use Rattle.pbf_wire.proofs.ReadingLaws.{fields_are, wire_is}
use Rattle.osm_block.specs.declared.fault.BlockFault.{BlockFault}
use Rattle.osm_block.specs.declared.fault.BlockError.{BlockError}
use Rattle.osm_block.specs.declared.fault.BlockError.TheVariants as errors
use Rattle.pbf_wire.specs.Readings.{fields, wire, fitting, numbers_of, each, nums}
use Rattle.osm_block.specs.Phases.{Phase, Gives, first}

-- ---- a payload that is a field list, or isn't

-- what reads w as a message answers the fault of its wire
pub err-of_gives : {M : Type 0} (view : M → List Entry) (r : Result M WireFault) (w : List ℕ) → reading.ReturnsReading view r (fields_of w) → result_err r ≡ wire w
err-of_gives {M} view r w g = by r (wire w) refl g
  where
    by : (r : Result M WireFault) (o : Option WireFault) → wire w ≡ o → reading.ReturnsReading view r (fields_of w) → result_err r ≡ o
    by (Ok m) None e g = refl
    by (Ok m) (Some f) e g = let h : Err f ≡ Ok (view m) = sym (wire_is w f e) ∙ g in absurd cc
    by (Err d) None e g = let h : Ok (fields w) ≡ Err d = sym (fields_are w e) ∙ g in absurd cc
    by (Err d) (Some f) e g = ap Some (sym (err_is {A = List Entry} f d (sym (wire_is w f e) ∙ g)))

-- ---- lists of phases

pub first-append_none : (ps qs : List Phase) → first ps ≡ None → first (ps ++ qs) ≡ first qs
first-append_none [] qs e = refl
first-append_none (None ∷ ps) qs e = first-append_none ps qs e
first-append_none (Some f ∷ ps) qs e = cc

pub first-append_some : (ps qs : List Phase) (f : BlockFault) → first ps ≡ Some f → first (ps ++ qs) ≡ Some f
first-append_some [] qs f e = cc
first-append_some (None ∷ ps) qs f e = first-append_some ps qs f e
first-append_some (Some g ∷ ps) qs f e = e

-- a refusal stands for a longer list of phases
pub Gives-err : {A B : Type 0} (P : A → Type 0) (Q : B → Type 0) (p q : Phase) (e : BlockError) → ((f : BlockFault) → p ≡ Some f → q ≡ Some f) → Gives P p (Err e) → Gives Q q (Err e)
Gives-err P Q p q errors.Memory h g = tt
Gives-err P Q p q (errors.Fault f) h g = h f g

-- what a call that gives no value answers where it refuses
abbrev pub Refused : Phase → BlockError → Type 0
Refused p e = Gives {A = Unit {0}} (λ _. ⊤) p (Err e)

pub still_refused : (p q : Phase) (e : BlockError) → ((f : BlockFault) → p ≡ Some f → q ≡ Some f) → Refused p e → Refused q e
still_refused p q errors.Memory h g = tt
still_refused p q (errors.Fault f) h g = h f g

-- what was found of a message, of the same message as it stands in the payload
pub Gives-along : {A M : Type 0} (R : A → M → Type 0) (phase : M → Phase) (found message : M) (whole : Phase) (r : Result A BlockError) → found ≡ message → whole ≡ phase message →
    Gives (λ x. R x found) (phase found) r → Gives (λ x. R x message) whole r
Gives-along {A} {M} R phase found message whole r e w g =
    let P : M → Type 0 = λ m. Gives (λ x. R x m) (phase m) r in
    let Q : Phase → Type 0 = λ p. Gives (λ x. R x message) p r in
    subst Q (sym w) (subst P e g)

-- the same phase, written otherwise
pub as_it_is : (p q : Phase) (r : Result (Unit {0}) BlockError) → p ≡ q → Gives {A = Unit {0}} (λ _. ⊤) p r → Gives {A = Unit {0}} (λ _. ⊤) q r
as_it_is p q r e g = let P : Phase → Type 0 = λ s. Gives {A = Unit {0}} (λ _. ⊤) s r in subst P e g

-- ---- readings of joined field lists

abbrev all : {B : Type 0} → (B → List ℕ) → List B → List Entry
all now ps = flat_map fields (map now ps)

pub each-append : (k : ℕ) (xs ys : List Entry) → each (xs ++ ys) k ≡ each xs k ++ each ys k
each-append k xs ys = filter_map-append _ xs ys

pub nums-append : (k : ℕ) (xs ys : List Entry) → nums (xs ++ ys) k ≡ nums xs k ++ nums ys k
nums-append k xs ys = ap (flat_map (λ ns. ns)) (filter_map-append _ xs ys) ∙ flat_map-append (λ ns. ns) (fitting numbers_of k xs) (fitting numbers_of k ys)

pub each-step : {B : Type 0} (now : B → List ℕ) (ps : List B) (i : ℕ) (d : B) (k : ℕ) (old new total : List (List ℕ)) → i < length ps →
    new ≡ old ++ each (fields (now (get_or ps i d))) k →
    old ++ each (flat_map fields (map now (drop i ps))) k ≡ total → new ++ each (flat_map fields (map now (drop (i + 1) ps))) k ≡ total
each-step now ps i d k old new total h is so_far =
    let rest : List Entry = all now (drop (i + 1) ps) in
    let p : List Entry = fields (now (get_or ps i d)) in
    ap (λ l. l ++ each rest k) is ∙ append_assoc old (each p k) (each rest k) ∙ sym (ap (λ l. old ++ l) (each-append k p rest))
    ∙ ap (λ l. old ++ each (all now l) k) (sym (drop_more ps i d h)) ∙ so_far

pub nums-step : {B : Type 0} (now : B → List ℕ) (ps : List B) (i : ℕ) (d : B) (k : ℕ) (old new total : List ℕ) → i < length ps →
    new ≡ old ++ nums (fields (now (get_or ps i d))) k →
    old ++ nums (flat_map fields (map now (drop i ps))) k ≡ total → new ++ nums (flat_map fields (map now (drop (i + 1) ps))) k ≡ total
nums-step now ps i d k old new total h is so_far =
    let rest : List Entry = all now (drop (i + 1) ps) in
    let p : List Entry = fields (now (get_or ps i d)) in
    ap (λ l. l ++ nums rest k) is ∙ append_assoc old (nums p k) (nums rest k) ∙ sym (ap (λ l. old ++ l) (nums-append k p rest))
    ∙ ap (λ l. old ++ nums (all now l) k) (sym (drop_more ps i d h)) ∙ so_far

-- ---- a list changed from the front

changed : (f : ℕ → ℕ) (ys : List ℕ) (i : ℕ) → i < length ys →
    set (map f (take i ys) ++ drop i ys) i (f (get_or (map f (take i ys) ++ drop i ys) i 0)) ≡ map f (take (suc i) ys) ++ drop (suc i) ys
changed f [] i h = absurd (omega arith)
changed f (y ∷ ys) zero h = refl
changed f (y ∷ ys) (suc i) h = ap (λ l. f y ∷ l) (changed f ys i (omega arith))

pub changed-step : (f : ℕ → ℕ) (xs ys : List ℕ) (i : ℕ) → i < length ys → xs ≡ map f (take i ys) ++ drop i ys →
    set xs i (f (get_or xs i 0)) ≡ map f (take (i + 1) ys) ++ drop (i + 1) ys
changed-step f xs ys i h e =
    let next : suc i ≡ i + 1 = omega arith in
    ap (λ l. set l i (f (get_or l i 0))) e ∙ changed f ys i h ∙ ap (λ k. map f (take k ys) ++ drop k ys) next
