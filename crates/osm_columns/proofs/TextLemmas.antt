-- Indexes that name texts, where there are more texts, and more indexes.
use Rattle.std.proofs.Common.{◌≡◌, ℕ, suc, ◌+◌, ◌<◌, List, [], ◌∷◌, ◌++◌, length, ℤ, pos, negsuc, Option, Some, None, refl, sym, ap, subst, ◌∙◌, append_assoc, append-nil, arith}
use Rattle.std.specs.List.{slice_get}
use Rattle.std.proofs.lemmas.Option.{slice_get_within, slice_get-get_or, get_or_from_slice_get}
use Rattle.std.proofs.lemmas.List.{length-append, get_or_append_left}
use Rattle.osm_value.specs.Value.{Text}
use Rattle.osm_columns.specs.Texts.{Names, NameAll, Extends}

pub get-append : {A : Type 0} (xs ys : List A) (k : ℕ) (x : A) → slice_get xs k ≡ Some x → slice_get (xs ++ ys) k ≡ Some x
get-append xs ys k x h =
    let lt : k < length xs = slice_get_within xs k x h in
    let sum : length (xs ++ ys) ≡ length xs + length ys = length-append xs ys in
    let within : k < length (xs ++ ys) = omega arith in
    slice_get-get_or (xs ++ ys) k x within ∙ ap Some (get_or_append_left xs ys x k lt ∙ get_or_from_slice_get xs k x x h)

pub names-extended : (texts more : List Text) (index : ℤ) (text : Option Text) → Names texts index text → Names (texts ++ more) index text
names-extended texts more (pos k) (Some t) h = get-append texts more k t h
names-extended texts more (negsuc k) None h = h
names-extended texts more (pos k) None h = absurd h
names-extended texts more (negsuc k) (Some t) h = absurd h

pub all-extended : (texts more : List Text) (indexes : List ℤ) (named : List (Option Text)) → NameAll texts indexes named → NameAll (texts ++ more) indexes named
all-extended texts more [] [] h = h
all-extended texts more (i ∷ is) (t ∷ ts) h = (names-extended texts more i t h.0, all-extended texts more is ts h.1)
all-extended texts more [] (t ∷ ts) h = absurd h
all-extended texts more (i ∷ is) [] h = absurd h

pub extended : (old new : List Text) (indexes : List ℤ) (named : List (Option Text)) → Extends old new → NameAll old indexes named → NameAll new indexes named
extended old new indexes named e h = let P : List Text → Type 0 = λ ts. NameAll ts indexes named in subst P (sym e.1) (all-extended old e.0 indexes named h)

pub extends-same : (texts : List Text) → Extends texts texts
extends-same texts = ([], sym (append-nil texts))

pub extends-twice : (a b c : List Text) → Extends a b → Extends b c → Extends a c
extends-twice a b c e f = (e.0 ++ f.0, f.1 ∙ ap (λ l. l ++ f.0) e.1 ∙ append_assoc a e.0 f.0)

pub all-append : (texts : List Text) (is js : List ℤ) (ts us : List (Option Text)) → NameAll texts is ts → NameAll texts js us → NameAll texts (is ++ js) (ts ++ us)
all-append texts [] js [] us h k = k
all-append texts (i ∷ is) js (t ∷ ts) us h k = (h.0, all-append texts is js ts us h.1 k)
all-append texts [] js (t ∷ ts) us h k = absurd h
all-append texts (i ∷ is) js [] us h k = absurd h

pub length-named : (texts : List Text) (is : List ℤ) (ts : List (Option Text)) → NameAll texts is ts → length is ≡ length ts
length-named texts [] [] h = refl
length-named texts (i ∷ is) (t ∷ ts) h = ap suc (length-named texts is ts h.1)
length-named texts [] (t ∷ ts) h = absurd h
length-named texts (i ∷ is) [] h = absurd h
