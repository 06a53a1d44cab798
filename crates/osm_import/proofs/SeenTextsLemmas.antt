-- Sets of texts, and how many different ones a list has.
use Rattle.std.proofs.Common.{◌≡◌, ℕ, ◌+◌, ◌*◌, ◌-◌, ◌^◌, ◌<◌, ◌≤◌, cond, Bool, true, false, not, ◌||◌, ◌&&◌, ◌↔◌, IsTrue, Option, Some, None, List, [], ◌∷◌, ◌++◌, map, filter, length, take, get_or, refl, sym, ap, subst, ◌∙◌, arith, bytes_eq, Bor, length-append}
use Rattle.std.specs.Prelude.{option_to_list}
use Rattle.std.specs.List.{AllByRecursion, IsDistinct, list_any}
use Rattle.std.specs.Set.{is_member}
use Rattle.std.specs.HashSet.{HashSet, hash_set_len, IsUnique}
use Rattle.std.proofs.lemmas.List.{map_more, length-map}
use Rattle.std.proofs.lemmas.List.Concat.{flat_map-append}
use Rattle.std.proofs.lemmas.Map.Made.{length-from_same_keys, is_member-filter}
use Rattle.osm_value.specs.declared.element.Element.{Element}
use Rattle.osm_value.specs.declared.element.Element.TheVariants.{Node, Way, Relation}
use Rattle.osm_value.specs.Elements.{tags_of_element}
use Rattle.osm_value.specs.Value.{Text, MemberValue, RelationValue}
use Rattle.osm_write.specs.Canon.{first_uses, tag_texts, texts_of}
use Rattle.osm_rows.specs.Held.{HasFewTexts}
use Rattle.osm_import.specs.SeenTexts.{has_text, AddsTexts}
use Rattle.osm_import.proofs.FewTexts.{same_text, bytes_flip, texts_equivalence, first_distinct}

-- ---- what a set takes

-- the key of a text
abbrev key_of : Text → Bor Text
key_of t = record { ref_ptr = (0, 0); now = t }

-- as an insertion tells it
abbrev pub Takes : {S : Type 0} → HashSet (Bor Text) S → HashSet (Bor Text) S → Text → Type 0
Takes old new a = (q : Bor Text) → list_any (λ (k : Bor Text). bytes_eq q.now k.now) new.keys ≡ cond (bytes_eq a q.now) true (list_any (λ (k : Bor Text). bytes_eq q.now k.now) old.keys)

or_joined : (a b c : Bool) → (a || (b || c)) ≡ ((a || b) || c)
or_joined true b c = refl
or_joined false b c = refl

or_moved : (a b c : Bool) → (a || (b || c)) ≡ ((b || a) || c)
or_moved true true c = refl
or_moved true false c = refl
or_moved false true c = refl
or_moved false false c = refl

pub adds-one : {S : Type 0} (old new : HashSet (Bor Text) S) (a : Text) → Takes old new a → AddsTexts old new (a ∷ [])
adds-one old new a takes t = takes (key_of t) ∙ by (bytes_eq a t)
  where
    by : (b : Bool) → cond b true (has_text old t) ≡ ((b || false) || has_text old t)
    by true = refl
    by false = refl

any-both : (p : Text → Bool) (us vs : List Text) → list_any p (us ++ vs) ≡ (list_any p us || list_any p vs)
any-both p [] vs = refl
any-both p (u ∷ us) vs = ap (λ b. p u || b) (any-both p us vs) ∙ or_joined (p u) (list_any p us) (list_any p vs)

pub adds-both : {S : Type 0} (old next new : HashSet (Bor Text) S) (us vs : List Text) → AddsTexts old next us → AddsTexts next new vs → AddsTexts old new (us ++ vs)
adds-both old next new us vs first then t =
    then t ∙ ap (λ b. list_any (λ (u : Text). bytes_eq u t) vs || b) (first t) ∙ or_moved (list_any (λ (u : Text). bytes_eq u t) vs) (list_any (λ (u : Text). bytes_eq u t) us) (has_text old t)
    ∙ ap (λ b. b || has_text old t) (sym (any-both (λ (u : Text). bytes_eq u t) us vs))

-- ---- how many

distinct-now : (keys : List (Bor Text)) → IsDistinct (λ (x y : Bor Text). bytes_eq x.now y.now) keys → IsDistinct bytes_eq (map (λ (k : Bor Text). k.now) keys)
unfolding IsDistinct
distinct-now [] d = tt
distinct-now (k ∷ keys) d = (apart k keys d.0, distinct-now keys d.1)
  where
    apart : (k : Bor Text) (keys : List (Bor Text)) → AllByRecursion (λ (y : Bor Text). bytes_eq k.now y.now ≡ false) keys → AllByRecursion (λ (y : Text). bytes_eq k.now y ≡ false) (map (λ (k : Bor Text). k.now) keys)
    apart k [] all = tt
    apart k (y ∷ keys) all = (all.0, apart k keys all.1)

member-now : (keys : List (Bor Text)) (t : Text) → is_member bytes_eq (map (λ (k : Bor Text). k.now) keys) t ≡ list_any (λ (k : Bor Text). bytes_eq t k.now) keys
member-now [] t = refl
member-now (k ∷ keys) t = ap (λ b. bytes_eq t k.now || b) (member-now keys t)

member-turned : (ts : List Text) (t : Text) → list_any (λ (u : Text). bytes_eq u t) ts ≡ is_member bytes_eq ts t
member-turned [] t = refl
member-turned (u ∷ ts) t = rw (bytes_flip u t (bytes_eq u t) (bytes_eq t u) refl refl, member-turned ts t) refl

-- a text stands among the first uses where it is used
member-first : (ts : List Text) (q : Text) → is_member bytes_eq (first_uses ts) q ≡ is_member bytes_eq ts q
member-first [] q = refl
member-first (t ∷ ts) q =
    let others = is_member-filter texts_equivalence (λ (u : Text). not (bytes_eq u t)) q (λ x same. ap (λ (u : Text). not (bytes_eq u t)) (same_text q x same)) (first_uses ts) in
    ap (λ b. bytes_eq q t || b) (others ∙ ap (λ b. b && not (bytes_eq q t)) (member-first ts q)) ∙ by (bytes_eq q t) (is_member bytes_eq ts q)
  where
    by : (a b : Bool) → (a || (b && not a)) ≡ (a || b)
    by true true = refl
    by true false = refl
    by false true = refl
    by false false = refl

-- a set of a list's texts alone has as many as stand there first
pub count-first : {S : Type 0} (empty seen : HashSet (Bor Text) S) (ts : List Text) → empty.keys ≡ [] → AddsTexts empty seen ts → IsUnique (λ (x y : Bor Text). bytes_eq x.now y.now) seen
    → hash_set_len seen ≡ length (first_uses ts)
count-first empty seen ts none adds unique =
    let keys = map (λ (k : Bor Text). k.now) seen.keys in
    let same : length keys ≡ length (first_uses ts) =
    length-from_same_keys texts_equivalence keys (first_uses ts) (distinct-now seen.keys unique) (first_distinct ts)
    (λ q. member-now seen.keys q ∙ adds q ∙ ap (λ (ks : List (Bor Text)). list_any (λ (u : Text). bytes_eq u q) ts || list_any (λ (k : Bor Text). bytes_eq q k.now) ks) none ∙ or_none (list_any (λ (u : Text). bytes_eq u q) ts)
    ∙ member-turned ts q ∙ sym (member-first ts q)) in
    sym (length-map seen.keys (λ (k : Bor Text). k.now)) ∙ same
  where
    or_none : (b : Bool) → (b || false) ≡ b
    or_none true = refl
    or_none false = refl

-- ---- few uses

filter_short : (p : Text → Bool) (us : List Text) → length (filter p us) ≤ length us
filter_short p [] = omega arith
filter_short p (u ∷ us) = by (p u) refl (filter_short p us)
  where
    by : (b : Bool) → p u ≡ b → length (filter p us) ≤ length us → length (filter p (u ∷ us)) ≤ length (u ∷ us)
    by true is less = rw is (omega arith)
    by false is less = rw is (omega arith)

pub first_short : (ts : List Text) → length (first_uses ts) ≤ length ts
first_short [] = omega arith
first_short (t ∷ ts) =
    let rest = filter_short (λ (u : Text). not (bytes_eq u t)) (first_uses ts) in
    let again = first_short ts in
    omega arith

pub tags_long : (tags : List (Text × Text)) → length (tag_texts tags) ≡ 2 * length tags
tags_long [] = refl
tags_long (t ∷ tags) = let rest = tags_long tags in omega arith

user_short : (user : Option Text) → length (option_to_list user) ≤ 1
user_short None = omega arith
user_short (Some t) = omega arith

-- what a tag says
abbrev pub tag_of : Bor Text × Bor Text → Text × Text
tag_of t = (t.0.now, t.1.now)

pub as-many : (tags : List (Bor Text × Bor Text)) (values : List (Text × Text)) (n : ℕ) → map tag_of tags ≡ values → length tags < n → length values < n
as-many tags values n same few = let one = length-map tags tag_of in let other = ap length same in omega arith

pub of-relation : (e : Element) (r s : RelationValue) (members : List MemberValue) → e ≡ Relation r → members ≡ r.members → e ≡ Relation s → length members < 1073741824 → length s.members < 1073741824
of-relation e r s members is same also few =
    let relations : Relation r ≡ Relation s = sym is ∙ also in
    let one : r ≡ s = cc in
    let many : length members ≡ length s.members = ap length (same ∙ ap (λ (v : RelationValue). v.members) one) in omega arith

-- so few tags, and so few members
pub few-uses : (e : Element) → length (tags_of_element e) < 536870912 → ((r : RelationValue) → e ≡ Relation r → length r.members < 1073741824) → length (texts_of e) < 2 ^ 31 - 1
few-uses (Node n) tags members =
    let all = length-append (tag_texts n.tags) (option_to_list n.info.user) in
    let twice = tags_long n.tags in
    let one = user_short n.info.user in
    omega arith
few-uses (Way w) tags members =
    let all = length-append (tag_texts w.tags) (option_to_list w.info.user) in
    let twice = tags_long w.tags in
    let one = user_short w.info.user in
    omega arith
few-uses (Relation r) tags members =
    let roles = map (λ (m : MemberValue). m.role) r.members in
    let front = length-append (tag_texts r.tags) (option_to_list r.info.user) in
    let all = length-append (tag_texts r.tags ++ option_to_list r.info.user) roles in
    let twice = tags_long r.tags in
    let one = user_short r.info.user in
    let each = length-map r.members (λ (m : MemberValue). m.role) in
    let few = members r refl in
    omega arith

-- ---- one tag more, and one member

pub tags-more : {S : Type 0} (old now next new : HashSet (Bor Text) S) (tags : List (Bor Text × Bor Text)) (i : ℕ) (d : Bor Text × Bor Text) → i < length tags → AddsTexts old now (tag_texts (map tag_of (take i tags)))
    → Takes now next (get_or tags i d).0.now → Takes next new (get_or tags i d).1.now → AddsTexts old new (tag_texts (map tag_of (take (i + 1) tags)))
tags-more old now next new tags i d within so_far key val =
    let x : Bor Text × Bor Text = get_or tags i d in
    let front : List (Text × Text) = map tag_of (take i tags) in
    let more : tag_texts (map tag_of (take (i + 1) tags)) ≡ tag_texts front ++ (x.0.now ∷ x.1.now ∷ []) =
    ap tag_texts (map_more tag_of tags i d within) ∙ flat_map-append (λ (t : Text × Text). t.0 ∷ t.1 ∷ []) front (tag_of x ∷ []) in
    subst (AddsTexts old new) (sym more)
    (adds-both old now new (tag_texts front) (x.0.now ∷ x.1.now ∷ []) so_far (adds-both now next new (x.0.now ∷ []) (x.1.now ∷ []) (adds-one now next x.0.now key) (adds-one next new x.1.now val)))

pub roles-more : {S : Type 0} (old now new : HashSet (Bor Text) S) (members : List MemberValue) (i : ℕ) (x : MemberValue) (role : Text) → i < length members → x ≡ get_or members i x → role ≡ x.role
    → AddsTexts old now (map (λ (m : MemberValue). m.role) (take i members)) → Takes now new role → AddsTexts old new (map (λ (m : MemberValue). m.role) (take (i + 1) members))
roles-more old now new members i x role within is same so_far takes =
    let roles : List Text = map (λ (m : MemberValue). m.role) (take i members) in
    let more : map (λ (m : MemberValue). m.role) (take (i + 1) members) ≡ roles ++ role ∷ [] =
    map_more (λ (m : MemberValue). m.role) members i x within ∙ ap (λ (r : Text). roles ++ r ∷ []) (sym (same ∙ ap (λ (m : MemberValue). m.role) is)) in
    subst (AddsTexts old new) (sym more) (adds-both old now new roles (role ∷ []) so_far (adds-one now new role takes))

-- ---- one element more

pub both-few : (e : Element) → length (texts_of e) < 2 ^ 31 - 1 → IsTrue true ↔ HasFewTexts e
both-few e few = let first = first_short (texts_of e) in ((λ any. omega arith), (λ any. refl))
