-- The parts of a line, joined by commas.
use Rattle.std.proofs.Common.{◌≡◌, ℕ, ℤ, zero, suc, ◌+◌, ◌<◌, ◌≤◌, List, [], ◌∷◌, ◌++◌, length, take, get_or, refl, sym, ap, ◌∙◌, arith, append_assoc, Option, Some, None, Bool, map, length-append}
use Rattle.std.proofs.lemmas.List.{map-append, take_more, take_all, append-nil}
use Rattle.std.specs.Prelude.{option_map, option_to_list}
use Rattle.std.specs.Fmt.{signed_decimal}
use Rattle.osm_value.specs.declared.element.Element.TheVariants.{Node, Way, Relation}
use Rattle.osm_value.specs.Value.{InfoValue, MemberValue, NodeValue, WayValue, RelationValue, Text}
use Rattle.osm_value.specs.Escape.{escaped}
use Rattle.osm_value.specs.Line.{line, number_info, user_info, visible_info, info_texts, commas, comma_before, letter_of, member_text, tag_text, tail_text}

-- ---- pieces joined by commas

commas-push : (x : List ℕ) (xs : List (List ℕ)) (y : List ℕ) → commas ((x ∷ xs) ++ y ∷ []) ≡ commas (x ∷ xs) ++ 44 ∷ y
commas-push x [] y = refl
commas-push x (z ∷ xs) y = ap (λ t. x ++ 44 ∷ t) (commas-push z xs y) ∙ sym (append_assoc x (44 ∷ commas (z ∷ xs)) (44 ∷ y))

commas-more : {A : Type 0} (text : A → List ℕ) (xs : List A) (i : ℕ) (d : A) → i < length xs →
    commas (map text (take (i + 1) xs)) ≡ commas (map text (take i xs)) ++ (comma_before i ++ text (get_or xs i d))
commas-more text [] i d h = absurd (omega arith)
commas-more text (y ∷ xs) zero d h = refl
commas-more text (y ∷ xs) (suc i) d h =
    let inside : i < length xs = omega arith in
    let one : suc i + 1 ≡ suc (i + 1) = omega arith in
    ap (λ m. commas (map text (take m (y ∷ xs)))) one
    ∙ ap (λ l. commas (text y ∷ map text l)) (take_more xs i d inside)
    ∙ ap (λ l. commas (text y ∷ l)) (map-append text (take i xs) (get_or xs i d ∷ []))
    ∙ commas-push (text y) (map text (take i xs)) (text (get_or xs i d))

-- a comma and a piece more
pub commas-step : {A : Type 0} (text : A → List ℕ) (before : List ℕ) (xs : List A) (i : ℕ) (d : A) → i < length xs →
    ((before ++ commas (map text (take i xs))) ++ comma_before i) ++ text (get_or xs i d) ≡ before ++ commas (map text (take (i + 1) xs))
commas-step text before xs i d h =
    append_assoc (before ++ commas (map text (take i xs))) (comma_before i) (text (get_or xs i d))
    ∙ append_assoc before (commas (map text (take i xs))) (comma_before i ++ text (get_or xs i d))
    ∙ sym (ap (λ t. before ++ t) (commas-more text xs i d h))

-- the whole list
pub commas-all : {A : Type 0} (text : A → List ℕ) (before : List ℕ) (xs : List A) (i : ℕ) → length xs ≤ i → before ++ commas (map text (take i xs)) ≡ before ++ commas (map text xs)
commas-all text before xs i over = ap (λ l. before ++ commas (map text l)) (take_all i xs over)

-- through a view
pub map_through : {A B : Type 0} (text : B → List ℕ) (view : A → B) (xs : List A) → map (λ x. text (view x)) xs ≡ map text (map view xs)
map_through text view [] = refl
map_through text view (x ∷ xs) = ap (λ l. text (view x) ∷ l) (map_through text view xs)

pub no_comma : (before : List ℕ) (at : ℕ) → at ≡ 0 → before ≡ before ++ comma_before at
no_comma before zero h = sym (append-nil before)
no_comma before (suc n) h = absurd (omega arith)

pub one_comma : (before : List ℕ) (at : ℕ) → (at ≡ 0 → ⊥) → before ++ 44 ∷ [] ≡ before ++ comma_before at
one_comma before zero h = absurd (h refl)
one_comma before (suc n) h = refl

pub commas-grow : (pieces : List (List ℕ)) (at : ℕ) (p : List ℕ) → length pieces ≡ at → commas pieces ++ (comma_before at ++ p) ≡ commas (pieces ++ p ∷ [])
commas-grow [] zero p h = refl
commas-grow [] (suc n) p h = absurd (omega arith)
commas-grow (x ∷ pieces) zero p h = absurd (omega arith)
commas-grow (x ∷ pieces) (suc n) p h = sym (commas-push x pieces p)

-- a piece of three parts
pub piece_of_three : (before : List ℕ) (pieces : List (List ℕ)) (at : ℕ) (p q : List ℕ) → length pieces ≡ at →
    (((before ++ commas pieces) ++ comma_before at) ++ p) ++ q ≡ before ++ commas (pieces ++ (p ++ q) ∷ [])
piece_of_three before pieces at p q h = simp append_assoc (ap (λ t. before ++ t) (commas-grow pieces at (p ++ q) h))

pub no_piece : {A : Type 0} (f : A → List ℕ) (before : List ℕ) (pieces : List (List ℕ)) (o : Option A) → o ≡ None →
    before ++ commas pieces ≡ before ++ commas (pieces ++ option_to_list (option_map f o))
no_piece f before pieces o e =
    ap (λ l. before ++ commas l) (sym (append-nil pieces)) ∙ ap (λ o. before ++ commas (pieces ++ option_to_list (option_map f o))) (sym e)

pub some_piece : {A : Type 0} (f : A → List ℕ) (before : List ℕ) (pieces : List (List ℕ)) (at : ℕ) (p q : List ℕ) (o : Option A) (x : A) → length pieces ≡ at → o ≡ Some x → f x ≡ p ++ q →
    (((before ++ commas pieces) ++ comma_before at) ++ p) ++ q ≡ before ++ commas (pieces ++ option_to_list (option_map f o))
some_piece f before pieces at p q o x h e is =
    piece_of_three before pieces at p q h
    ∙ ap (λ t. before ++ commas (pieces ++ t ∷ [])) (sym is)
    ∙ ap (λ o. before ++ commas (pieces ++ option_to_list (option_map f o))) (sym e)

-- ---- the info

abbrev pub field : ℕ → Option ℤ → List (List ℕ)
field letter z = option_to_list (option_map (number_info letter) z)

pub one_further : (pieces more : List (List ℕ)) (at next : ℕ) → length pieces ≡ at → next ≡ at + length more → length (pieces ++ more) ≡ next
one_further pieces more at next h is = length-append pieces more ∙ ap (λ n. n + length more) h ∙ sym is

abbrev fields : Option ℤ → Option ℤ → Option ℤ → Option ℤ → Option Text → Option Bool → List (List ℕ)
fields v t c u w x = ((((field 118 v ++ field 116 t) ++ field 99 c) ++ field 105 u) ++ option_to_list (option_map user_info w)) ++ option_to_list (option_map visible_info x)

pub info_texts-is : (i : InfoValue) (v t c u : Option ℤ) (w : Option Text) (x : Option Bool) → v ≡ i.version → t ≡ i.time → c ≡ i.changeset → u ≡ i.uid → w ≡ i.user → x ≡ i.visible →
    ((((field 118 v ++ field 116 t) ++ field 99 c) ++ field 105 u) ++ option_to_list (option_map user_info w)) ++ option_to_list (option_map visible_info x) ≡ info_texts i
info_texts-is i v t c u w x ev et ec eu ew ex =
    ap (λ y. fields y t c u w x) ev
    ∙ ap (λ y. fields i.version y c u w x) et
    ∙ ap (λ y. fields i.version i.time y u w x) ec
    ∙ ap (λ y. fields i.version i.time i.changeset y w x) eu
    ∙ ap (λ y. fields i.version i.time i.changeset i.uid y x) ew
    ∙ ap (λ y. fields i.version i.time i.changeset i.uid i.user y) ex

-- ---- whole lines. Each literal has a name, since `simp` doesn't regroup what has computed to single cells

grouped_four : (before a b c d : List ℕ) → (((before ++ a) ++ b) ++ c) ++ d ≡ before ++ ((a ++ b) ++ (c ++ d))
grouped_four before a b c d = simp append_assoc

grouped_five : (before a b c d e : List ℕ) → ((((before ++ a) ++ b) ++ c) ++ d) ++ e ≡ before ++ ((((a ++ b) ++ c) ++ d) ++ e)
grouped_five before a b c d e = simp append_assoc

grouped_six : (before a b c d e f : List ℕ) → (((((before ++ a) ++ b) ++ c) ++ d) ++ e) ++ f ≡ before ++ (((((a ++ b) ++ c) ++ d) ++ e) ++ f)
grouped_six before a b c d e f = simp append_assoc

grouped_seven : (before a b c d e f g : List ℕ) → ((((((before ++ a) ++ b) ++ c) ++ d) ++ e) ++ f) ++ g ≡ before ++ ((((((a ++ b) ++ c) ++ d) ++ e) ++ f) ++ g)
grouped_seven before a b c d e f g = simp append_assoc

same_three : {A B C R : Type 0} (f : A → B → C → R) (a a' : A) (b b' : B) (c c' : C) → a ≡ a' → b ≡ b' → c ≡ c' → f a b c ≡ f a' b' c'
same_three f a a' b b' c c' p q r = cc

same_four : {A B C D R : Type 0} (f : A → B → C → D → R) (a a' : A) (b b' : B) (c c' : C) (d d' : D) → a ≡ a' → b ≡ b' → c ≡ c' → d ≡ d' → f a b c d ≡ f a' b' c' d'
same_four f a a' b b' c c' d d' p q r s = cc

same_five : {A B C D E R : Type 0} (f : A → B → C → D → E → R) (a a' : A) (b b' : B) (c c' : C) (d d' : D) (e e' : E) → a ≡ a' → b ≡ b' → c ≡ c' → d ≡ d' → e ≡ e' → f a b c d e ≡ f a' b' c' d' e'
same_five f a a' b b' c c' d d' e e' p q r s t = cc

pub member_parts : (before : List ℕ) (letter : ℕ) (id : ℤ) (role : Text) (m : MemberValue) → letter ≡ letter_of m.kind → id ≡ m.id → role ≡ m.role →
    (((before ++ letter ∷ []) ++ signed_decimal id) ++ 64 ∷ []) ++ escaped role ≡ before ++ member_text m
member_parts before letter id role m is_letter is_id is_role =
    grouped_four before (letter ∷ []) (signed_decimal id) (64 ∷ []) (escaped role)
    ∙ same_three (λ (l : ℕ) (i : ℤ) (r : Text). before ++ (l ∷ signed_decimal i ++ 64 ∷ escaped r)) _ _ _ _ _ _ is_letter is_id is_role

pub tail_parts : (before : List ℕ) (i : InfoValue) (tags : List (Text × Text)) →
    ((((before ++ 32 ∷ 91 ∷ []) ++ commas (info_texts i)) ++ 93 ∷ 32 ∷ 123 ∷ []) ++ commas (map tag_text tags)) ++ 125 ∷ 10 ∷ [] ≡ before ++ tail_text i tags
tail_parts before i tags = grouped_five before (32 ∷ 91 ∷ []) (commas (info_texts i)) (93 ∷ 32 ∷ 123 ∷ []) (commas (map tag_text tags)) (125 ∷ 10 ∷ [])

pub node_parts : (before : List ℕ) (n : NodeValue) (id lat lon : ℤ) (info : InfoValue) (tags : List (Text × Text)) → id ≡ n.id → lat ≡ n.lat → lon ≡ n.lon → info ≡ n.info → tags ≡ n.tags →
    ((((((before ++ 110 ∷ 32 ∷ []) ++ signed_decimal id) ++ 32 ∷ []) ++ signed_decimal lat) ++ 32 ∷ []) ++ signed_decimal lon) ++ tail_text info tags ≡ before ++ line (Node n)
node_parts before n id lat lon info tags is_id is_lat is_lon is_info is_tags =
    grouped_seven before (110 ∷ 32 ∷ []) (signed_decimal id) (32 ∷ []) (signed_decimal lat) (32 ∷ []) (signed_decimal lon) (tail_text info tags)
    ∙ same_five (λ (i : ℤ) (la : ℤ) (lo : ℤ) (f : InfoValue) (t : List (Text × Text)). before ++ line (Node (record { id = i; lat = la; lon = lo; tags = t; info = f }))) _ _ _ _ _ _ _ _ _ _ is_id is_lat is_lon is_info is_tags

pub way_parts : (before : List ℕ) (w : WayValue) (id : ℤ) (refs : List ℤ) (info : InfoValue) (tags : List (Text × Text)) → id ≡ w.id → refs ≡ w.refs → info ≡ w.info → tags ≡ w.tags →
    (((((before ++ 119 ∷ 32 ∷ []) ++ signed_decimal id) ++ 32 ∷ 40 ∷ []) ++ commas (map signed_decimal refs)) ++ 41 ∷ []) ++ tail_text info tags ≡ before ++ line (Way w)
way_parts before w id refs info tags is_id is_refs is_info is_tags =
    grouped_six before (119 ∷ 32 ∷ []) (signed_decimal id) (32 ∷ 40 ∷ []) (commas (map signed_decimal refs)) (41 ∷ []) (tail_text info tags)
    ∙ same_four (λ (i : ℤ) (r : List ℤ) (f : InfoValue) (t : List (Text × Text)). before ++ line (Way (record { id = i; refs = r; tags = t; info = f }))) _ _ _ _ _ _ _ _ is_id is_refs is_info is_tags

pub relation_parts : (before : List ℕ) (r : RelationValue) (id : ℤ) (members : List MemberValue) (info : InfoValue) (tags : List (Text × Text)) → id ≡ r.id → members ≡ r.members → info ≡ r.info → tags ≡ r.tags →
    (((((before ++ 114 ∷ 32 ∷ []) ++ signed_decimal id) ++ 32 ∷ 40 ∷ []) ++ commas (map member_text members)) ++ 41 ∷ []) ++ tail_text info tags ≡ before ++ line (Relation r)
relation_parts before r id members info tags is_id is_members is_info is_tags =
    grouped_six before (114 ∷ 32 ∷ []) (signed_decimal id) (32 ∷ 40 ∷ []) (commas (map member_text members)) (41 ∷ []) (tail_text info tags)
    ∙ same_four (λ (i : ℤ) (m : List MemberValue) (f : InfoValue) (t : List (Text × Text)). before ++ line (Relation (record { id = i; members = m; tags = t; info = f }))) _ _ _ _ _ _ _ _ is_id is_members is_info is_tags
