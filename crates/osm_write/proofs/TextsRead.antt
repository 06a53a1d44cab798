-- The text at an index of the table is the text that was given it.
use Rattle.std.proofs.Common.{◌≡◌, suc, List, [], ◌∷◌, refl, ap, Bool, true, false, not, ◌||◌, if◌then◌else◌, ◌∙◌, sym, filter, bytes_eq, Some, slice_get, pos}
use Rattle.std.proofs.lemmas.Slice.Eq.{bytes_eq-Decides}
use Rattle.osm_value.specs.Value.{Text}
use Rattle.osm_write.specs.Texts.{has}
use Rattle.osm_block.specs.Block.{text_at}
use Rattle.osm_write.specs.Canon.{Scale, first_uses, index_in, index_of}

-- the text at the index of a text that is there
pub text_at_own_index : (ts : List Text) (t : Text) → has ts t ≡ true → slice_get ts (index_in t ts) ≡ Some t
text_at_own_index [] t e = absurd (let f : false ≡ true = e in cc)
text_at_own_index (u ∷ us) t e = by (bytes_eq u t) refl (text_at_own_index us t) e
  where
    by : (b : Bool) → bytes_eq u t ≡ b → (has us t ≡ true → slice_get us (index_in t us) ≡ Some t) → (b || has us t) ≡ true → slice_get (u ∷ us) (if b then 0 else suc (index_in t us)) ≡ Some t
    by true f again h = let same : u ≡ t = (bytes_eq-Decides u t).0 f in ap (λ x. Some x) same
    by false f again h = again h

-- a text that is kept by a filter is there as before
kept : (p : Text → Bool) (ts : List Text) (t : Text) → p t ≡ true → has ts t ≡ true → has (filter p ts) t ≡ true
kept p [] t keep e = e
kept p (u ∷ us) t keep e = by (bytes_eq u t) refl (p u) refl (kept p us t keep) e
  where
    or_true : (b : Bool) → (b || true) ≡ true
    or_true true = refl
    or_true false = refl

    by : (b : Bool) → bytes_eq u t ≡ b → (c : Bool) → p u ≡ c → (has us t ≡ true → has (filter p us) t ≡ true) → (b || has us t) ≡ true → has (if c then u ∷ filter p us else filter p us) t ≡ true
    by true f true g again h = rw f refl
    by true f false g again h = let same : u ≡ t = (bytes_eq-Decides u t).0 f in let k : p u ≡ true = cc in absurd (let m : true ≡ false = sym k ∙ g in cc)
    by false f true g again h = rw (again h) (or_true (bytes_eq u t))
    by false f false g again h = again h

-- each used text is among the first uses
pub first_uses_has : (us : List Text) (t : Text) → has us t ≡ true → has (first_uses us) t ≡ true
first_uses_has [] t e = e
first_uses_has (u ∷ us) t e = by (bytes_eq u t) refl (first_uses_has us t) e
  where
    same_test : bytes_eq u t ≡ false → bytes_eq t u ≡ false
    same_test f = flip (bytes_eq t u) refl
      where
        flip : (b : Bool) → bytes_eq t u ≡ b → b ≡ false
        flip true g = let s : t ≡ u = (bytes_eq-Decides t u).0 g in let k : bytes_eq u t ≡ true = (bytes_eq-Decides u t).1 (sym s) in cc
        flip false g = refl

    by : (b : Bool) → bytes_eq u t ≡ b → (has us t ≡ true → has (first_uses us) t ≡ true) → (b || has us t) ≡ true → (bytes_eq u t || has (filter (λ v. not (bytes_eq v u)) (first_uses us)) t) ≡ true
    by true f again h = rw f refl
    by false f again h = let k = same_test f in rw f (kept (λ v. not (bytes_eq v u)) (first_uses us) t (rw k refl) (again h))

-- the index of a used text leads to it in the table, whose text 0 is empty
pub text_at_index : (s : Scale) (us : List Text) (t : Text) → s.texts ≡ first_uses us → has us t ≡ true → text_at ([] ∷ s.texts) (pos (index_of s t)) ≡ Some t
text_at_index s us t e h = rw e (text_at_own_index (first_uses us) t (first_uses_has us t h))
