-- Indexes of texts in a table.
use Rattle.std.proofs.Common.{◌≡◌, ℕ, suc, List, [], ◌∷◌, ◌++◌, length, map, Option, Some, None, is_some, option_map, unwrap_or, Bool, true, false, refl, ap, sym, if◌then◌else◌, ◌∙◌, bytes_eq, ◌||◌, Bor, ◌<◌, arith}
use Rattle.std.specs.HashMap as hash
use Rattle.std.proofs.lemmas.Slice.Eq.{bytes_eq-Decides}
use Rattle.std.proofs.lemmas.Map.Text.{hash_map_updates_str}
use Rattle.std.proofs.lemmas.List.{map-append}
use Rattle.std.specs.Option.{option_copied}
use Rattle.osm_value.specs.Value.{Text}
use Rattle.osm_write.specs.Texts.{has, Knows, find_text, with_text}
use Rattle.osm_write.specs.Canon.{index_in}

pub index_is : (ts : List Text) (t : Text) → index_in t ts ≡ unwrap_or (find_text ts t) (length ts)
index_is [] t = refl
index_is (u ∷ us) t = by (bytes_eq u t) (find_text us t) (index_is us t)
  where
    by : (b : Bool) (f : Option ℕ) → index_in t us ≡ unwrap_or f (length us) → (if b then 0 else suc (index_in t us)) ≡ unwrap_or (if b then Some 0 else option_map suc f) (suc (length us))
    by true f e = refl
    by false None e = ap suc e
    by false (Some n) e = ap suc e

pub has_is : (ts : List Text) (t : Text) → has ts t ≡ is_some (find_text ts t)
has_is [] t = refl
has_is (u ∷ us) t = by (bytes_eq u t) (find_text us t) (has_is us t)
  where
    by : (b : Bool) (f : Option ℕ) → has us t ≡ is_some f → (b || has us t) ≡ is_some (if b then Some 0 else option_map suc f)
    by true f e = refl
    by false None e = e
    by false (Some n) e = e

-- equal texts are the same to a third
same_tests : (u t q : Text) → bytes_eq u t ≡ false → bytes_eq u q ≡ true → bytes_eq t q ≡ false
same_tests u t q apart e = by (bytes_eq t q) refl
  where
    by : (b : Bool) → bytes_eq t q ≡ b → b ≡ false
    by true k =
        let same : u ≡ t = ((bytes_eq-Decides u q).0 e) ∙ sym ((bytes_eq-Decides t q).0 k) in
        let yes : bytes_eq u t ≡ true = (bytes_eq-Decides u t).1 same in cc
    by false k = refl

pub find_push : (ts : List Text) (t q : Text) → has ts t ≡ false → find_text (ts ++ t ∷ []) q ≡ (if bytes_eq t q then Some (length ts) else find_text ts q)
find_push [] t q apart = refl
find_push (u ∷ us) t q apart = first (bytes_eq u t) (λ no. find_push us t q no) refl apart
  where
    rest : (b : Bool) (f : Option ℕ) → f ≡ (if b then Some (length us) else find_text us q) → option_map suc f ≡ (if b then Some (suc (length us)) else option_map suc (find_text us q))
    rest true f e = ap (option_map suc) e
    rest false f e = ap (option_map suc) e

    by : (b : Bool) → (has us t ≡ false → find_text (us ++ t ∷ []) q ≡ (if bytes_eq t q then Some (length us) else find_text us q)) → bytes_eq u q ≡ b → bytes_eq u t ≡ false → has us t ≡ false
        → (if b then Some 0 else option_map suc (find_text (us ++ t ∷ []) q)) ≡ (if bytes_eq t q then Some (suc (length us)) else (if b then Some 0 else option_map suc (find_text us q)))
    by true again e no_u no_us = let k = same_tests u t q no_u e in rw k refl
    by false again e no_u no_us = rest (bytes_eq t q) (find_text (us ++ t ∷ []) q) (again no_us)

    first : (b : Bool) → (has us t ≡ false → find_text (us ++ t ∷ []) q ≡ (if bytes_eq t q then Some (length us) else find_text us q)) → bytes_eq u t ≡ b → (b || has us t) ≡ false
        → (if bytes_eq u q then Some 0 else option_map suc (find_text (us ++ t ∷ []) q)) ≡ (if bytes_eq t q then Some (suc (length us)) else (if bytes_eq u q then Some 0 else option_map suc (find_text us q)))
    first true again e apart = absurd (let f : true ≡ false = apart in cc)
    first false again e apart = by (bytes_eq u q) again refl e apart

pub index_some : (ts : List Text) (t : Text) (n : ℕ) → find_text ts t ≡ Some n → n ≡ index_in t ts
index_some ts t n e = let p = index_is ts t in rw (p, e) refl

pub index_none : (ts : List Text) (t : Text) → find_text ts t ≡ None → length ts ≡ index_in t ts
index_none ts t e = let p = index_is ts t in rw (p, e) refl

pub text_found : (ts : List Text) (t : Text) → is_some (find_text ts t) ≡ true → ts ≡ with_text ts t
text_found ts t e = let h = has_is ts t in rw (h, e) refl

pub text_missing : (ts : List Text) (t : Text) → is_some (find_text ts t) ≡ false → ts ++ t ∷ [] ≡ with_text ts t
text_missing ts t e = let h = has_is ts t in rw (h, e) refl

pub knows_push : {S : Type 0} (old new : hash.HashMap (Bor Text) ℕ S) (ts : List Text) (t : Text) → Knows old ts → is_some (find_text ts t) ≡ false
    → hash.UpdatesBy (λ x y. bytes_eq x.now y.now) (λ k. bytes_eq t k.now) old new (Some (length ts)) → Knows new (ts ++ t ∷ [])
knows_push old new ts t knows missing updates q =
    let apart : has ts t ≡ false = has_is ts t ∙ missing in
    rw (hash_map_updates_str t old new (Some (length ts)) updates q, find_push ts t q apart, knows q) refl

pub now_push : (texts new : List (Bor Text)) (t : Bor Text) → new ≡ texts ++ t ∷ [] → map (λ (s : Bor Text). s.now) new ≡ map (λ (s : Bor Text). s.now) texts ++ t.now ∷ []
now_push texts new t e = rw (e, map-append) refl

pub copied_some : (o : Option (Bor ℕ)) → is_some o ≡ is_some (option_copied o)
copied_some None = refl
copied_some (Some x) = refl

pub find_within : (ts : List Text) (t : Text) (n : ℕ) → find_text ts t ≡ Some n → n < length ts
find_within [] t n e = absurd (let f : None ≡ Some n = e in cc)
find_within (u ∷ us) t n e = by (bytes_eq u t) (find_text us t) (λ m h. find_within us t m h) e
  where
    by : (b : Bool) (f : Option ℕ) → ((m : ℕ) → f ≡ Some m → m < length us) → (if b then Some 0 else option_map suc f) ≡ Some n → n < suc (length us)
    by true f again h = let z : 0 ≡ n = cc in omega arith
    by false None again h = absurd (let f : None ≡ Some n = h in cc)
    by false (Some m) again h = let w : m < length us = again m refl in let z : suc m ≡ n = cc in omega arith
