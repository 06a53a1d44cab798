-- Texts of the table, one index after the other.
use Rattle.std.proofs.Common.{◌≡◌, ℕ, ◌+◌, ◌%◌, ◌^◌, ◌<◌, List, [], ◌∷◌, ◌++◌, map, length, take, get_or, sym, ap, ◌∙◌, pos, Some, subst}
use Rattle.std.specs.Prelude.{option_map}
use Rattle.std.proofs.lemmas.List.{take_more, map-append}
use Rattle.std.proofs.lemmas.Option.{slice_get-map, slice_get-get_or}
use Rattle.pbf_wire.specs.Readings.{uint32}
use Rattle.osm_value.specs.Value.{Text}
use Rattle.osm_block.specs.Block.{text_at, TagsAt}

text_at-is : {B : Type 0} (now : B → Text) (table : List B) (k : ℕ) (d : B) → k < length table → text_at (map now table) (pos k) ≡ Some (now (get_or table k d))
text_at-is now table k d h = slice_get-map now table k ∙ ap (option_map now) (slice_get-get_or table k d h)

-- one more element, whose text is the one at the next index
pub texts-step : {A B C : Type 0} (view : A → C) (get : C → Text) (now : B → Text) (table : List B) (xs ys : List A) (x : A) (ks : List ℕ) (i : ℕ) (d : B) →
    ys ≡ xs ++ x ∷ [] → i < length ks → get_or ks i 0 % 2 ^ 32 < length table → get (view x) ≡ now (get_or table (get_or ks i 0 % 2 ^ 32) d) →
    map (λ t. Some (get t)) (map view xs) ≡ map (text_at (map now table)) (map uint32 (take i ks)) →
    map (λ t. Some (get t)) (map view ys) ≡ map (text_at (map now table)) (map uint32 (take (i + 1) ks))
texts-step view get now table xs ys x ks i d pushed inside there is e =
    let k : ℕ = get_or ks i 0 in
    ap (λ l. map (λ t. Some (get t)) (map view l)) pushed
    ∙ ap (map (λ t. Some (get t))) (map-append view xs (x ∷ []))
    ∙ map-append (λ t. Some (get t)) (map view xs) (view x ∷ [])
    ∙ ap (λ l. l ++ Some (get (view x)) ∷ []) e
    ∙ ap (λ t. map (text_at (map now table)) (map uint32 (take i ks)) ++ t ∷ []) (ap Some is ∙ sym (text_at-is now table (k % 2 ^ 32) d there))
    ∙ sym (map-append (text_at (map now table)) (map uint32 (take i ks)) (uint32 k ∷ []))
    ∙ sym (ap (map (text_at (map now table))) (map-append uint32 (take i ks) (k ∷ [])))
    ∙ sym (ap (λ l. map (text_at (map now table)) (map uint32 l)) (take_more ks i 0 inside))

pub TagsAt-along : {B : Type 0} (now : B → Text) (t u : List B) (tags : List (Text × Text)) (ks ls vs ws : List ℕ) → t ≡ u → ks ≡ ls → vs ≡ ws →
    TagsAt (map now t) tags (map uint32 ks) (map uint32 vs) → TagsAt (map now u) tags (map uint32 ls) (map uint32 ws)
TagsAt-along {B} now t u tags ks ls vs ws e f g h =
    let P : List B → Type 0 = λ l. TagsAt (map now l) tags (map uint32 ks) (map uint32 vs) in
    let Q : List ℕ → Type 0 = λ l. TagsAt (map now u) tags (map uint32 l) (map uint32 vs) in
    let R : List ℕ → Type 0 = λ l. TagsAt (map now u) tags (map uint32 ls) (map uint32 l) in
    subst R g (subst Q f (subst P e h))
