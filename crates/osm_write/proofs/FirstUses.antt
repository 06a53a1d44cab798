-- A table that takes texts one by one holds their first uses.
use Rattle.std.proofs.Common.{◌≡◌, ℕ, List, [], ◌∷◌, ◌++◌, refl, ap, Bool, true, false, not, ◌&&◌, ◌||◌, if◌then◌else◌, ◌∙◌, sym, filter, append_assoc, bytes_eq, append-nil, subst, ◌+◌, ◌<◌, length, drop, get_or}
use Rattle.std.proofs.lemmas.List.{drop_more}
use Rattle.osm_value.specs.declared.element.Element.{Element}
use Rattle.std.specs.List.{flat_map}
use Rattle.std.proofs.lemmas.Slice.Eq.{bytes_eq-Decides}
use Rattle.osm_value.specs.Value.{Text}
use Rattle.osm_write.specs.Texts.{has, with_text, with_texts}
use Rattle.osm_write.specs.Canon.{first_uses, texts_of}

pub with_texts_append : (ts us vs : List Text) → with_texts ts (us ++ vs) ≡ with_texts (with_texts ts us) vs
with_texts_append ts [] vs = refl
with_texts_append ts (u ∷ us) vs = with_texts_append (with_text ts u) us vs

sym_test : (u v : Text) → bytes_eq u v ≡ bytes_eq v u
sym_test u v = by (bytes_eq u v) refl (bytes_eq v u) refl
  where
    by : (b : Bool) → bytes_eq u v ≡ b → (c : Bool) → bytes_eq v u ≡ c → b ≡ c
    by true e true f = refl
    by false e false f = refl
    by true e false f = let s : u ≡ v = (bytes_eq-Decides u v).0 e in let t : bytes_eq v u ≡ true = (bytes_eq-Decides v u).1 (sym s) in cc
    by false e true f = let s : v ≡ u = (bytes_eq-Decides v u).0 f in let t : bytes_eq u v ≡ true = (bytes_eq-Decides u v).1 (sym s) in cc

-- two filters are one
filter_two : (p q r : Text → Bool) → ((v : Text) → r v ≡ (q v && p v)) → (xs : List Text) → filter r xs ≡ filter p (filter q xs)
filter_two p q r h [] = refl
filter_two p q r h (x ∷ xs) = rw (h x) (by (q x) (p x) refl (filter_two p q r h xs))
  where
    by : (b c : Bool) → p x ≡ c → filter r xs ≡ filter p (filter q xs) → (if b && c then x ∷ filter r xs else filter r xs) ≡ filter p (if b then x ∷ filter q xs else filter q xs)
    by true c e again = rw (e, again) refl
    by false c e again = again

has_append : (ts : List Text) (u v : Text) → has (ts ++ u ∷ []) v ≡ (has ts v || bytes_eq u v)
has_append [] u v = by (bytes_eq u v)
  where
    by : (b : Bool) → (b || false) ≡ b
    by true = refl
    by false = refl
has_append (t ∷ ts) u v = by (bytes_eq t v) (has_append ts u v)
  where
    by : (b : Bool) → has (ts ++ u ∷ []) v ≡ (has ts v || bytes_eq u v) → (b || has (ts ++ u ∷ []) v) ≡ ((b || has ts v) || bytes_eq u v)
    by true e = refl
    by false e = e

-- a text that is there already is left out anyway
there : (ts : List Text) (u v : Text) → has ts u ≡ true → not (has ts v) ≡ (not (bytes_eq v u) && not (has ts v))
there ts u v e = by (bytes_eq v u) refl
  where
    by : (b : Bool) → bytes_eq v u ≡ b → not (has ts v) ≡ (not b && not (has ts v))
    by true f = let s : v ≡ u = (bytes_eq-Decides v u).0 f in let t : has ts v ≡ true = cc in rw t refl
    by false f = refl

added : (ts : List Text) (u v : Text) → not (has (ts ++ u ∷ []) v) ≡ (not (bytes_eq v u) && not (has ts v))
added ts u v = rw (has_append ts u v, sym_test u v) (by (has ts v) (bytes_eq v u))
  where
    by : (b c : Bool) → not (b || c) ≡ (not c && not b)
    by true true = refl
    by true false = refl
    by false true = refl
    by false false = refl

pub holds_first_uses : (ts us : List Text) → with_texts ts us ≡ ts ++ filter (λ v. not (has ts v)) (first_uses us)
holds_first_uses ts [] = simp append-nil
holds_first_uses ts (u ∷ us) = by (has ts u) refl (holds_first_uses (with_text ts u) us)
  where
    by : (b : Bool) → has ts u ≡ b → with_texts (with_text ts u) us ≡ with_text ts u ++ filter (λ v. not (has (with_text ts u) v)) (first_uses us)
        → with_texts (with_text ts u) us ≡ ts ++ (if not b then u ∷ filter (λ v. not (has ts v)) (filter (λ v. not (bytes_eq v u)) (first_uses us)) else filter (λ v. not (has ts v)) (filter (λ v. not (bytes_eq v u)) (first_uses us)))
    by true e again =
        let same : with_text ts u ≡ ts = rw e refl in
        let g = subst (λ xs. with_texts xs us ≡ xs ++ filter (λ v. not (has xs v)) (first_uses us)) same again in
        rw same (g ∙ ap (λ xs. ts ++ xs) (filter_two (λ v. not (has ts v)) (λ v. not (bytes_eq v u)) (λ v. not (has ts v)) (λ v. there ts u v e) (first_uses us)))
    by false e again =
        let same : with_text ts u ≡ ts ++ u ∷ [] = rw e refl in
        let g = subst (λ xs. with_texts xs us ≡ xs ++ filter (λ v. not (has xs v)) (first_uses us)) same again in
        let f = filter_two (λ v. not (has ts v)) (λ v. not (bytes_eq v u)) (λ v. not (has (ts ++ u ∷ []) v)) (λ v. added ts u v) (first_uses us) in
        rw same (g ∙ ap (λ xs. (ts ++ u ∷ []) ++ xs) f ∙ append_assoc ts (u ∷ []) _)

keep_all : (us : List Text) → filter (λ v. not (has [] v)) us ≡ us
keep_all [] = refl
keep_all (u ∷ us) = ap (λ xs. u ∷ xs) (keep_all us)

pub table_is : (us : List Text) → with_texts [] us ≡ first_uses us
table_is us = holds_first_uses [] us ∙ keep_all (first_uses us)

pub elements_more : (ts added total : List Text) (es : List Element) (i : ℕ) (e : Element) → i < length es → e ≡ get_or es i e → added ≡ with_texts ts (texts_of e)
    → with_texts ts (flat_map texts_of (drop i es)) ≡ total → with_texts added (flat_map texts_of (drop (i + 1) es)) ≡ total
elements_more ts added total es i e within is is_added h =
    let one : drop i es ≡ e ∷ drop (i + 1) es = drop_more es i e within ∙ ap (λ x. x ∷ drop (i + 1) es) (sym is) in
    let g = rw one at h in
    rw is_added (sym (with_texts_append ts (texts_of e) (flat_map texts_of (drop (i + 1) es))) ∙ g)
