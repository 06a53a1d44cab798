-- A piece of text written in pieces, to a sink that may fail.
use Rattle.std.proofs.Common.{◌≡◌, ℕ, ◌+◌, ◌<◌, ◌≤◌, List, [], ◌++◌, length, take, drop, Bool, true, false, ◌&&◌, ◌||◌, not, refl, sym, ap, ◌∙◌, arith, Option, append_assoc, subst, eqb, ◌-◌}
use Rattle.std.proofs.KnownBytes.{Appends-trans, Appends-kept, Appends-nil}
use Rattle.std.specs.Io.KnownBytes.{Appends, Keeps}
use Rattle.std.proofs.Math.Seq.{take-add}
use Rattle.std.proofs.lemmas.List.{take_all, take-append-drop, append-nil, length-drop}
use Rattle.std.proofs.lemmas.Bool.Decides.{nat_tests}
use Rattle.osm_value.specs.Sink.{AppendsFront, Wrote}

abbrev pub Known : Type 0
Known = Option (List ℕ)

-- an equation of texts carries over
pub Wrote-text : (start : Known) (a b : List ℕ) (w : Known) (f : Bool) → a ≡ b → Wrote start a w f → Wrote start b w f
Wrote-text start a b w f e h = let P : List ℕ → Type 0 = λ t. Wrote start t w f in subst P e h

-- a sink that has failed has a front of any longer text
pub Wrote-longer : (start : Known) (text more : List ℕ) (w : Known) → Wrote start text w true → Wrote start (text ++ more) w true
Wrote-longer start text more w h = (h.0, h.1 ++ more, sym (append_assoc h.0 h.1 more) ∙ ap (λ t. t ++ more) h.2, h.3)

-- where the sink had not failed
pub Wrote-append : (start : Known) (text bs : List ℕ) (w v : Known) (g : Bool) → Wrote start text w false → Appends w v bs → Wrote start (text ++ bs) v g
Wrote-append start text bs w v false h a = Appends-trans start w v text bs h a
Wrote-append start text bs w v true h a = (text ++ bs, [], append-nil (text ++ bs), Appends-trans start w v text bs h a)

at_false : (start : Known) (text : List ℕ) (w : Known) (f : Bool) → f ≡ false → Wrote start text w f → Wrote start text w false
at_false start text w f e h = let P : Bool → Type 0 = λ b. Wrote start text w b in subst P e h

at_true : (start : Known) (text : List ℕ) (w : Known) (f : Bool) → f ≡ true → Wrote start text w f → Wrote start text w true
at_true start text w f e h = let P : Bool → Type 0 = λ b. Wrote start text w b in subst P e h

from_true : (start : Known) (text : List ℕ) (w : Known) (f : Bool) → f ≡ true → Wrote start text w true → Wrote start text w f
from_true start text w f e h = let P : Bool → Type 0 = λ b. Wrote start text w b in subst P (sym e) h

-- the whole text, where its front up to a place was written: the sink has failed
pub put-failed : (start : Known) (text piece : List ℕ) (at : ℕ) (w : Known) (f : Bool) → f ≡ true → Wrote start (text ++ take at piece) w f → Wrote start (text ++ piece) w f
put-failed start text piece at w f e h =
    let whole : (text ++ take at piece) ++ drop at piece ≡ text ++ piece = append_assoc text (take at piece) (drop at piece) ∙ ap (λ p. text ++ p) (take-append-drop at piece) in
    from_true start (text ++ piece) w f e (Wrote-text start _ _ w true whole (Wrote-longer start (text ++ take at piece) (drop at piece) w (at_true start _ w f e h)))

pub put-end : (start : Known) (text piece : List ℕ) (at : ℕ) (w : Known) (f : Bool) → length piece ≤ at → Wrote start (text ++ take at piece) w f → Wrote start (text ++ piece) w f
put-end start text piece at w f over h = Wrote-text start _ _ w f (ap (λ p. text ++ p) (take_all at piece over)) h

pub put-more : (start : Known) (text piece rest : List ℕ) (at n : ℕ) (w v : Known) (f g : Bool) → f ≡ false → Wrote start (text ++ take at piece) w f → rest ≡ drop at piece → Appends w v (take n rest) → Wrote start (text ++ take (at + n) piece) v g
put-more start text piece rest at n w v f g e h r a =
    let whole : (text ++ take at piece) ++ take n rest ≡ text ++ take (at + n) piece = append_assoc text (take at piece) _ ∙ ap (λ l. text ++ (take at piece ++ take n l)) r ∙ sym (ap (λ p. text ++ p) (take-add at n piece)) in
    Wrote-text start _ _ v g whole (Wrote-append start _ _ w v g (at_false start _ w f e h) a)

-- a write that failed, or took nothing
pub put-stops : (start : Known) (text piece : List ℕ) (at : ℕ) (w v : Known) (f g : Bool) → f ≡ false → g ≡ true → Wrote start (text ++ take at piece) w f → Appends w v [] → Wrote start (text ++ piece) v g
put-stops start text piece at w v f g e stop h a =
    let so_far : Wrote start (text ++ take at piece) v true = Wrote-text start _ _ v true (append-nil (text ++ take at piece)) (Wrote-append start _ [] w v true (at_false start _ w f e h) a) in
    put-failed start text piece at v g stop (from_true start _ v g stop so_far)

pub Appends-from_keeps : (w v : Known) → Keeps w v → Appends w v []
Appends-from_keeps w v k = Appends-kept w w v [] (Appends-nil w) k

not_zero : (n : ℕ) → 0 < n → not (eqb n 0) ≡ true
not_zero n h = grind (arith, nat_tests)

-- the slice from a place on
pub rest_is : (piece : List ℕ) (at : ℕ) → take (length piece - at) (drop at piece) ≡ drop at piece
rest_is piece at = take_all (length piece - at) (drop at piece) (omega (arith, length-drop at piece))

pub stop-took_nothing : (f g : Bool) (n : ℕ) (piece rest : List ℕ) (at : ℕ) → f ≡ false → at < length piece → n ≡ 0 → rest ≡ drop at piece → g ≡ (f || (eqb n 0 && not (eqb (length rest) 0))) → g ≡ true
stop-took_nothing f g n piece rest at e h zero_is r is =
    let some : 0 < length rest = omega (arith, length-drop at piece, ap length r) in
    is ∙ ap (λ b. b || (eqb n 0 && not (eqb (length rest) 0))) e ∙ ap (λ m. eqb m 0 && not (eqb (length rest) 0)) zero_is ∙ not_zero _ some

pub stop-error : (f g : Bool) → f ≡ false → g ≡ (f || true) → g ≡ true
stop-error f g e is = is ∙ ap (λ b. b || true) e

pub Appends-nothing : (w v : Known) (n : ℕ) (rest : List ℕ) → n ≡ 0 → Appends w v (take n rest) → Appends w v []
Appends-nothing w v n rest is a = let P : ℕ → Type 0 = λ m. Appends w v (take m rest) in subst P is a

-- before the first piece, and after the last
pub started : (w : Known) (f : Bool) → Wrote w [] w f
started w false = Appends-nil w
started w true = ([], [], refl, Appends-nil w)

pub whole_text : (start w : Known) (text : List ℕ) (f : Bool) → f ≡ false → Wrote start text w f → Appends start w text
whole_text start w text f e h = at_false start text w f e h

pub front_text : (start w : Known) (text : List ℕ) (f : Bool) → f ≡ true → Wrote start text w f → AppendsFront start w text
front_text start w text f e h = at_true start text w f e h
