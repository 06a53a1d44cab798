-- The texts of dense nodes, named by the indexes of their block's table.
use Rattle.std.proofs.Common.{◌≡◌, ℕ, suc, zero, ◌<◌, List, [], ◌∷◌, ◌++◌, length, map, replicate, refl, sym, ap, subst, ◌∙◌, ℤ, pos, negsuc, Option, Some, None, Bool, true, false, ◌&&◌, append-nil, arith}
use Rattle.std.specs.Prelude.{option_map}
use Rattle.std.specs.List.{list_all}
use Rattle.std.proofs.lemmas.Bool.{ltb-true}
use Rattle.std.proofs.lemmas.Grind.{flat_map-append}
use Rattle.std.proofs.lemmas.List.{map-append}
use Rattle.osm_value.specs.declared.element.Element.{Element}
use Rattle.osm_value.specs.declared.element.Element.TheVariants as elements
use Rattle.osm_value.specs.Value.{Text, NodeValue}
use Rattle.osm_value.specs.Elements.{tags_of_element}
use Rattle.osm_block.specs.declared.dense.arrays.DenseArrays.{DenseArrays}
use Rattle.osm_block.specs.Message.{Context}
use Rattle.osm_block.specs.Block.{text_at, texts_at, all_there}
use Rattle.osm_block.specs.DenseTags.{Pair, indexes_of}
use Rattle.osm_block.specs.NodeTags.{node_pairs, pair_indexes}
use Rattle.osm_block.specs.Phases.{is_index}
use Rattle.osm_block.specs.Groups.{AreNodesOf}
use Rattle.osm_block.proofs.IndexesLemmas.{and_left, and_right}
use Rattle.osm_columns.specs.Values.{user_of_element, members_of_element}
use Rattle.osm_columns.specs.Lists.{joined, all_tags}
use Rattle.osm_columns.specs.Texts.{Names, NameAll}
use Rattle.osm_columns.specs.Indexes.{users_of, keys_of, values_of, roles_of, index_in}
use Rattle.osm_columns.proofs.TextLemmas.{all-append}
use Rattle.osm_columns.proofs.DenseLemmas.{node-count, values-there, values-missing}
use Rattle.osm_columns.proofs.GroupLemmas.{mapped-twice, joined-parts, none-of-nodes}

-- what a table's index names
place-named : (texts : List Text) (table : List ℤ) (T : List Text) (i : ℕ) → NameAll texts table (map (λ t. Some t) T) → i < length T → Names texts (index_in table (pos i)) (text_at T (pos i))
place-named texts [] [] i h within = absurd (omega arith)
place-named texts (x ∷ table) (t ∷ T) zero h within = h.0
place-named texts (x ∷ table) (t ∷ T) (suc i) h within = let less : i < length T = omega arith in place-named texts table T i h.1 less
place-named texts [] (t ∷ T) i h within = absurd h
place-named texts (x ∷ table) [] i h within = absurd h

index-named : (texts : List Text) (table : List ℤ) (T : List Text) (z : ℤ) → NameAll texts table (map (λ t. Some t) T) → is_index (length T) z ≡ true → Names texts (index_in table z) (text_at T z)
index-named texts table T (pos i) h within = place-named texts table T i h (ltb-true i (length T) within)
index-named texts table T (negsuc i) h within = absurd cc

pub places-named : (texts : List Text) (table : List ℤ) (T : List Text) (zs : List ℤ) → NameAll texts table (map (λ t. Some t) T) → list_all (is_index (length T)) zs ≡ true → NameAll texts (map (index_in table) zs) (map (text_at T) zs)
places-named texts table T [] h all = tt
places-named texts table T (z ∷ zs) h all = (index-named texts table T z h (and_left _ _ all), places-named texts table T zs h (and_right (is_index (length T) z) _ all))

pub none-named : (texts : List Text) (n : ℕ) → NameAll texts (replicate n (negsuc 0)) (replicate n None)
none-named texts zero = tt
none-named texts (suc n) = (refl, none-named texts n)

-- ---- users

inner : (o q : Option Text) → option_map (λ t. Some t) o ≡ Some q → o ≡ q
inner None q e = absurd cc
inner (Some t) q e = cc

inner-none : (o : Option Text) → option_map (λ t. Some t) o ≡ None → o ≡ None
inner-none None e = refl
inner-none (Some t) e = absurd cc

head-same : {A : Type 0} (x y : A) (xs ys : List A) → x ∷ xs ≡ y ∷ ys → x ≡ y
head-same x y xs ys e = cc

tail-same : {A : Type 0} (x y : A) (xs ys : List A) → x ∷ xs ≡ y ∷ ys → xs ≡ ys
tail-same x y xs ys e = cc

all-there-inner : {N A : Type 0} (of : N → Option Text) (g : A → Option Text) (ns : List N) (xs : List A) → map (λ n. option_map (λ t. Some t) (of n)) ns ≡ map (λ x. Some (g x)) xs → map of ns ≡ map g xs
all-there-inner of g [] [] e = refl
all-there-inner of g [] (x ∷ xs) e = absurd cc
all-there-inner of g (n ∷ ns) [] e = absurd cc
all-there-inner of g (n ∷ ns) (x ∷ xs) e =
    ap (λ o. o ∷ map of ns) (inner (of n) (g x) (head-same _ _ _ _ e)) ∙ ap (λ l. g x ∷ l) (all-there-inner of g ns xs (tail-same _ _ _ _ e))

none-inner : {N : Type 0} (of : N → Option Text) (ns : List N) → map (λ n. option_map (λ t. Some t) (of n)) ns ≡ replicate (length ns) None → map of ns ≡ replicate (length ns) None
none-inner of [] e = refl
none-inner of (n ∷ ns) e =
    ap (λ o. o ∷ map of ns) (inner-none (of n) (head-same _ _ _ _ e)) ∙ ap (λ l. None ∷ l) (none-inner of ns (tail-same _ _ _ _ e))

pub users-there : (b : Context) (c : DenseArrays) (ns : List NodeValue) → AreNodesOf b c ns → 0 < length c.users.items → map (text_at b.table) c.users.items ≡ users_of (map elements.Node ns)
users-there b c ns h some =
    sym (all-there-inner (λ n. n.info.user) (text_at b.table) ns c.users.items (h.users ∙ values-there (λ v. Some (text_at b.table v)) (length ns) c.users.items some))
    ∙ sym (mapped-twice elements.Node user_of_element ns)

pub users-missing : (b : Context) (c : DenseArrays) (ns : List NodeValue) → AreNodesOf b c ns → length c.users.items ≡ 0 → replicate (length c.ids.items) None ≡ users_of (map elements.Node ns)
users-missing b c ns h none =
    ap (λ k. replicate k None) (sym (node-count b c ns h))
    ∙ sym (none-inner (λ n. n.info.user) ns (h.users ∙ values-missing (λ v. Some (text_at b.table v)) (length ns) c.users.items none))
    ∙ sym (mapped-twice elements.Node user_of_element ns)

-- ---- tags

map-joined : {A B : Type 0} (f : A → B) (ls : List (List A)) → map f (joined ls) ≡ joined (map (map f) ls)
map-joined f [] = refl
map-joined f (l ∷ ls) = map-append f l (joined ls) ∙ ap (λ k. map f l ++ k) (map-joined f ls)

tags-there : (b : Context) (c : DenseArrays) (ns : List NodeValue) → AreNodesOf b c ns → all_there (all_tags (map elements.Node ns)) ≡ texts_at b.table (joined (node_pairs (length c.ids.items) c.keys_vals.items))
tags-there b c ns h =
    ap (λ l. all_there (joined l)) (mapped-twice elements.Node tags_of_element ns)
    ∙ map-joined (λ t. (Some t.0, Some t.1)) (map (λ n. n.tags) ns)
    ∙ ap joined (mapped-twice (λ (n : NodeValue). n.tags) all_there ns ∙ h.tags)
    ∙ sym (map-joined (λ p. (text_at b.table p.0, text_at b.table p.1)) (node_pairs (length ns) c.keys_vals.items))
    ∙ ap (λ k. texts_at b.table (joined (node_pairs k c.keys_vals.items))) (node-count b c ns h)

pub keys-there : (b : Context) (c : DenseArrays) (ns : List NodeValue) → AreNodesOf b c ns → map (text_at b.table) (map (λ p. p.0) (joined (node_pairs (length c.ids.items) c.keys_vals.items))) ≡ keys_of (map elements.Node ns)
keys-there b c ns h =
    let first : Option Text × Option Text → Option Text = λ x. x.0 in
    let pairs : List Pair = joined (node_pairs (length c.ids.items) c.keys_vals.items) in
    mapped-twice (λ (p : Pair). p.0) (text_at b.table) pairs ∙ sym (mapped-twice (λ (p : Pair). (text_at b.table p.0, text_at b.table p.1)) first pairs)
    ∙ sym (ap (map first) (tags-there b c ns h)) ∙ mapped-twice (λ (t : Text × Text). (Some t.0, Some t.1)) first (all_tags (map elements.Node ns))

pub tag-values-there : (b : Context) (c : DenseArrays) (ns : List NodeValue) → AreNodesOf b c ns → map (text_at b.table) (map (λ p. p.1) (joined (node_pairs (length c.ids.items) c.keys_vals.items))) ≡ values_of (map elements.Node ns)
tag-values-there b c ns h =
    let second : Option Text × Option Text → Option Text = λ x. x.1 in
    let pairs : List Pair = joined (node_pairs (length c.ids.items) c.keys_vals.items) in
    mapped-twice (λ (p : Pair). p.1) (text_at b.table) pairs ∙ sym (mapped-twice (λ (p : Pair). (text_at b.table p.0, text_at b.table p.1)) second pairs)
    ∙ sym (ap (map second) (tags-there b c ns h)) ∙ mapped-twice (λ (t : Text × Text). (Some t.0, Some t.1)) second (all_tags (map elements.Node ns))

indexes-joined : (ts : List (List Pair)) → indexes_of ts ≡ pair_indexes (joined ts)
indexes-joined [] = refl
indexes-joined (ps ∷ ts) = ap (λ l. pair_indexes ps ++ l) (indexes-joined ts) ∙ sym (flat_map-append (λ p. p.0 ∷ p.1 ∷ []) ps (joined ts))

and_both : (a b : Bool) → a ≡ true → b ≡ true → (a && b) ≡ true
and_both true b h k = k
and_both false b h k = absurd cc

keys-in : (n : ℕ) (ps : List Pair) → list_all (is_index n) (pair_indexes ps) ≡ true → list_all (is_index n) (map (λ p. p.0) ps) ≡ true
keys-in n [] h = refl
keys-in n (p ∷ ps) h = and_both _ _ (and_left _ _ h) (keys-in n ps (and_right (is_index n p.1) _ (and_right (is_index n p.0) _ h)))

values-in : (n : ℕ) (ps : List Pair) → list_all (is_index n) (pair_indexes ps) ≡ true → list_all (is_index n) (map (λ p. p.1) ps) ≡ true
values-in n [] h = refl
values-in n (p ∷ ps) h = and_both _ _ (and_left _ _ (and_right (is_index n p.0) _ h)) (values-in n ps (and_right (is_index n p.1) _ (and_right (is_index n p.0) _ h)))

pub all-keys-in : (n : ℕ) (ts : List (List Pair)) → list_all (is_index n) (indexes_of ts) ≡ true → list_all (is_index n) (map (λ p. p.0) (joined ts)) ≡ true
all-keys-in n ts h = keys-in n (joined ts) (sym (ap (list_all (is_index n)) (indexes-joined ts)) ∙ h)

pub all-values-in : (n : ℕ) (ts : List (List Pair)) → list_all (is_index n) (indexes_of ts) ≡ true → list_all (is_index n) (map (λ p. p.1) (joined ts)) ≡ true
all-values-in n ts h = values-in n (joined ts) (sym (ap (list_all (is_index n)) (indexes-joined ts)) ∙ h)

-- ---- of two lists of elements

pub users-parts : (xs ys : List Element) → users_of (xs ++ ys) ≡ users_of xs ++ users_of ys
users-parts xs ys = map-append user_of_element xs ys

pub keys-parts : (xs ys : List Element) → keys_of (xs ++ ys) ≡ keys_of xs ++ keys_of ys
keys-parts xs ys = ap (map (λ t. Some t.0)) (joined-parts tags_of_element xs ys) ∙ map-append (λ t. Some t.0) (all_tags xs) (all_tags ys)

pub values-parts : (xs ys : List Element) → values_of (xs ++ ys) ≡ values_of xs ++ values_of ys
values-parts xs ys = ap (map (λ t. Some t.1)) (joined-parts tags_of_element xs ys) ∙ map-append (λ t. Some t.1) (all_tags xs) (all_tags ys)

-- nodes have no roles
pub roles-same : (xs : List Element) (ns : List NodeValue) → roles_of (xs ++ map elements.Node ns) ≡ roles_of xs
roles-same xs ns = ap (map (λ m. Some m.role)) (joined-parts members_of_element xs (map elements.Node ns) ∙ ap (λ l. joined (map members_of_element xs) ++ l) (none-of-nodes members_of_element elements.Node (λ n. refl) ns) ∙ append-nil (joined (map members_of_element xs)))

case-length : {A : Type 0} (P : Type 0) (xs : List A) → (length xs ≡ 0 → P) → (0 < length xs → P) → P
case-length P [] none some = none refl
case-length P (x ∷ xs) none some = some (omega arith)

pub users-named : (b : Context) (c : DenseArrays) (ns : List NodeValue) (es : List Element) (texts : List Text) (table users more : List ℤ) → AreNodesOf b c ns → NameAll texts table (map (λ t. Some t) b.table) → NameAll texts users (users_of es) →
    (0 < length c.users.items → more ≡ users ++ map (index_in table) c.users.items) → (length c.users.items ≡ 0 → more ≡ users ++ replicate (length c.ids.items) (negsuc 0)) → NameAll texts more (users_of (es ++ map elements.Node ns))
users-named b c ns es texts table users more h t u some none =
    let P : List ℤ → Type 0 = λ l. NameAll texts l (users_of (es ++ map elements.Node ns)) in
    let Q : List (Option Text) → Type 0 = λ l. NameAll texts (users ++ map (index_in table) c.users.items) l in
    let R : List (Option Text) → Type 0 = λ l. NameAll texts (users ++ replicate (length c.ids.items) (negsuc 0)) l in
    case-length (P more) c.users.items
    (λ z. subst P (sym (none z)) (subst R (ap (λ l. users_of es ++ l) (users-missing b c ns h z) ∙ sym (users-parts es (map elements.Node ns))) (all-append texts users _ (users_of es) _ u (none-named texts (length c.ids.items)))))
    (λ z. subst P (sym (some z)) (subst Q (ap (λ l. users_of es ++ l) (users-there b c ns h z) ∙ sym (users-parts es (map elements.Node ns))) (all-append texts users _ (users_of es) _ u (places-named texts table b.table c.users.items t h.ready.users_in_table))))

pub keys-named : (b : Context) (c : DenseArrays) (ns : List NodeValue) (es : List Element) (texts : List Text) (table keys more : List ℤ) → AreNodesOf b c ns → NameAll texts table (map (λ t. Some t) b.table) → NameAll texts keys (keys_of es) →
    more ≡ keys ++ map (λ p. index_in table p.0) (joined (node_pairs (length c.ids.items) c.keys_vals.items)) → NameAll texts more (keys_of (es ++ map elements.Node ns))
keys-named b c ns es texts table keys more h t k pushed =
    let places : List ℤ = map (λ p. p.0) (joined (node_pairs (length c.ids.items) c.keys_vals.items)) in
    let P : List ℤ → Type 0 = λ l. NameAll texts l (keys_of (es ++ map elements.Node ns)) in
    let Q : List (Option Text) → Type 0 = λ l. NameAll texts (keys ++ map (index_in table) places) l in
    subst P (ap (λ l. keys ++ l) (mapped-twice (λ (p : Pair). p.0) (index_in table) (joined (node_pairs (length c.ids.items) c.keys_vals.items))) ∙ sym pushed)
    (subst Q (ap (λ l. keys_of es ++ l) (keys-there b c ns h) ∙ sym (keys-parts es (map elements.Node ns)))
    (all-append texts keys _ (keys_of es) _ k (places-named texts table b.table places t (all-keys-in (length b.table) (node_pairs (length c.ids.items) c.keys_vals.items) h.ready.tags_in_table))))

pub values-named : (b : Context) (c : DenseArrays) (ns : List NodeValue) (es : List Element) (texts : List Text) (table values more : List ℤ) → AreNodesOf b c ns → NameAll texts table (map (λ t. Some t) b.table) → NameAll texts values (values_of es) →
    more ≡ values ++ map (λ p. index_in table p.1) (joined (node_pairs (length c.ids.items) c.keys_vals.items)) → NameAll texts more (values_of (es ++ map elements.Node ns))
values-named b c ns es texts table values more h t k pushed =
    let places : List ℤ = map (λ p. p.1) (joined (node_pairs (length c.ids.items) c.keys_vals.items)) in
    let P : List ℤ → Type 0 = λ l. NameAll texts l (values_of (es ++ map elements.Node ns)) in
    let Q : List (Option Text) → Type 0 = λ l. NameAll texts (values ++ map (index_in table) places) l in
    subst P (ap (λ l. values ++ l) (mapped-twice (λ (p : Pair). p.1) (index_in table) (joined (node_pairs (length c.ids.items) c.keys_vals.items))) ∙ sym pushed)
    (subst Q (ap (λ l. values_of es ++ l) (tag-values-there b c ns h) ∙ sym (values-parts es (map elements.Node ns)))
    (all-append texts values _ (values_of es) _ k (places-named texts table b.table places t (all-values-in (length b.table) (node_pairs (length c.ids.items) c.keys_vals.items) h.ready.tags_in_table))))

pub roles-named : (es : List Element) (ns : List NodeValue) (texts : List Text) (roles : List ℤ) → NameAll texts roles (roles_of es) → NameAll texts roles (roles_of (es ++ map elements.Node ns))
roles-named es ns texts roles h = let P : List (Option Text) → Type 0 = λ l. NameAll texts roles l in subst P (sym (roles-same es ns)) h
