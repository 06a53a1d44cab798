-- The scale of one element, beside that of a list that begins with it.
use Rattle.std.proofs.Common.{◌≡◌, ℕ, suc, ◌%◌, ◌==◌, List, [], ◌∷◌, ◌++◌, filter, refl, ap, ◌∙◌, sym, ℤ, Bool, true, false, not, ◌&&◌, ◌||◌, if◌then◌else◌, bytes_eq, append-nil, subst, inl, inr}
use Rattle.std.specs.Prelude.{unsigned_abs}
use Rattle.std.specs.List.{flat_map, list_all}
use Rattle.std.proofs.lemmas.List.Folds.{list_all-append}
use Rattle.std.proofs.lemmas.Bool.{true≢false}
use Rattle.osm_value.specs.declared.element.Element.{Element}
use Rattle.osm_value.specs.Value.{Text}
use Rattle.osm_value.proofs.Ranges.{all_weaker}
use Rattle.osm_write.specs.Canon.{index_of, texts_of, first_uses, index_in, coordinates_of, divisor, scale_of}
use Rattle.osm_write.specs.Texts.{has, with_texts}
use Rattle.osm_write.proofs.FirstUses.{with_texts_append, holds_first_uses, table_is}
use Rattle.osm_write.proofs.TextsRead.{first_uses_has}
use Rattle.osm_write.proofs.BlockRead.{all_had, texts_are, times_of}
use Rattle.osm_write.proofs.Coarser.{Coarser}
use Rattle.osm_write.proofs.NumberLengths.{Finer}

-- the first uses of a front are a front
uses_append : (us vs : List Text) → first_uses (us ++ vs) ≡ first_uses us ++ filter (λ v. not (has (first_uses us) v)) (first_uses vs)
uses_append us vs =
    sym (table_is (us ++ vs)) ∙ with_texts_append [] us vs ∙ ap (λ ts. with_texts ts vs) (table_is us) ∙ holds_first_uses (first_uses us) vs

one_texts : (e : Element) → (scale_of (e ∷ [])).texts ≡ first_uses (texts_of e)
one_texts e = texts_are (e ∷ []) ∙ ap first_uses (append-nil (texts_of e))

-- the table of the list begins with that of its first element
pub more_texts : (e : Element) (es : List Element) → (more : List Text) × ((scale_of (e ∷ es)).texts ≡ (scale_of (e ∷ [])).texts ++ more)
more_texts e es =
    let more : List Text = filter (λ v. not (has (first_uses (texts_of e)) v)) (first_uses (flat_map texts_of es)) in
    (more, texts_are (e ∷ es) ∙ uses_append (texts_of e) (flat_map texts_of es) ∙ ap (λ ts. ts ++ more) (sym (one_texts e)))

index_in_front : (ts more : List Text) (t : Text) → has ts t ≡ true → index_in t ts ≡ index_in t (ts ++ more)
index_in_front [] more t e = absurd (true≢false (sym e))
index_in_front (u ∷ us) more t e = by (bytes_eq u t) (index_in_front us more t) e
  where
    by : (b : Bool) → (has us t ≡ true → index_in t us ≡ index_in t (us ++ more)) → (b || has us t) ≡ true → (if b then 0 else suc (index_in t us)) ≡ (if b then 0 else suc (index_in t (us ++ more)))
    by true again h = refl
    by false again h = ap suc (again h)

index_same : (e : Element) (es : List Element) (t : Text) → has (texts_of e) t ≡ true → index_of (scale_of (e ∷ [])) t ≡ index_of (scale_of (e ∷ es)) t
index_same e es t h =
    let m = more_texts e es in
    let there : has (scale_of (e ∷ [])).texts t ≡ true = rw (one_texts e) (first_uses_has (texts_of e) t h) in
    ap suc (index_in_front (scale_of (e ∷ [])).texts m.0 t there ∙ ap (index_in t) (sym m.1))

-- a number that divides each of them divides each of a front
divisor_append : (n : ℕ) (xs ys : List ℤ) → Finer n (divisor n xs) (divisor n (xs ++ ys))
divisor_append n xs ys = rw (list_all-append (λ z. unsigned_abs z % n == 0) xs ys) (by (list_all (λ z. unsigned_abs z % n == 0) xs) (list_all (λ z. unsigned_abs z % n == 0) ys))
  where
    by : (b c : Bool) → Finer n (if b then n else 1) (if b && c then n else 1)
    by true true = inl refl
    by true false = inr (refl, refl)
    by false c = inl refl

divisor_front : (n : ℕ) (of : Element → List ℤ) (e : Element) (es : List Element) → Finer n (divisor n (flat_map of (e ∷ []))) (divisor n (flat_map of (e ∷ es)))
divisor_front n of e es = subst (λ zs. Finer n (divisor n zs) (divisor n (of e ++ flat_map of es))) (sym (append-nil (of e))) (divisor_append n (of e) (flat_map of es))

coordinates_coarser : (e : Element) (es : List Element) → Finer 100 (scale_of (e ∷ [])).granularity (scale_of (e ∷ es)).granularity
unfolding scale_of
coordinates_coarser e es = divisor_front 100 coordinates_of e es

times_coarser : (e : Element) (es : List Element) → Finer 1000 (scale_of (e ∷ [])).date_granularity (scale_of (e ∷ es)).date_granularity
unfolding scale_of
times_coarser e es = divisor_front 1000 times_of e es

pub coarser : (e : Element) (es : List Element) → Coarser e (scale_of (e ∷ [])) (scale_of (e ∷ es))
coarser e es = record {
  same_index = all_weaker (λ t. has (texts_of e) t ≡ true) (λ t. index_of (scale_of (e ∷ [])) t ≡ index_of (scale_of (e ∷ es)) t) (texts_of e) (index_same e es)
      (all_had (texts_of e) (texts_of e) (λ t h. h));
  coordinates = coordinates_coarser e es;
  times = times_coarser e es;
}
