-- The elements of a block that a raw payload holds use few texts: each text stands in the string table, and each entry
-- of the table takes a byte or more of the payload.
use Rattle.std.proofs.Common.{◌≡◌, ℕ, zero, suc, ◌+◌, ◌≤◌, ◌==◌, cond, Bool, true, false, not, ◌||◌, List, [], ◌∷◌, ◌++◌, map, filter, length, Option, Some, None, refl, sym, ap, subst, ◌∙◌, arith, bytes_eq, slice_get, length-append}
use Rattle.std.specs.Prelude.{ℤ, pos, negsuc, option_map, option_to_list, replicate}
use Rattle.std.specs.Cmp.{IsEquivalence}
use Rattle.std.specs.List.{AllByRecursion, IsDistinct, cons_option, flat_map, list_any}
use Rattle.std.proofs.lemmas.Slice.Eq.{bytes_eq-Decides}
use Rattle.std.proofs.lemmas.List.Elements.{filter_map-append}
use Rattle.std.proofs.lemmas.Map.Made.{length-le_from_is_member}
use Rattle.pbf_wire.specs.Number.{EndsOnce}
use Rattle.pbf_wire.specs.Field.{Content, Number, Fixed64, Bytes, Fixed32, Entry, Fields, Spells, SpellsValue}
use Rattle.pbf_wire.specs.Readings.{fields, wire, bytes_of, each}
use Rattle.pbf_wire.proofs.ReadingLaws.{read_list}
use Rattle.osm_value.specs.Value.{Text, InfoValue, MemberValue, NodeValue}
use Rattle.osm_value.specs.declared.element.Element.{Element}
use Rattle.osm_value.specs.declared.element.Element.TheVariants as elements
use Rattle.osm_block.specs.Message.{Context, Message, Plain, Dense, Way, Relation, context, messages}
use Rattle.osm_block.specs.Block.{Block, GroupOf, Joins, AllAreWire, MessageOf, TagsAt, text_at, texts_at, all_there, values_for}
use Rattle.osm_write.specs.Canon.{texts_of, tag_texts, first_uses}
use Rattle.osm_rows.specs.Held.{HaveFewTexts}

-- ---- first uses are apart, and are among what is used

pub same_text : (t u : Text) → bytes_eq t u ≡ true → t ≡ u
same_text t u e = (bytes_eq-Decides t u).0 e

text_itself : (t : Text) → bytes_eq t t ≡ true
text_itself t = (bytes_eq-Decides t t).1 refl

pub bytes_flip : (t u : Text) (b c : Bool) → bytes_eq t u ≡ b → bytes_eq u t ≡ c → b ≡ c
bytes_flip t u true true e f = refl
bytes_flip t u false false e f = refl
bytes_flip t u true false e f = let g : bytes_eq u t ≡ true = subst (λ (v : Text). bytes_eq v t ≡ true) (same_text t u e) (text_itself t) in absurd (let bad : true ≡ false = sym g ∙ f in cc)
bytes_flip t u false true e f = let g : bytes_eq t u ≡ true = subst (λ (v : Text). bytes_eq v u ≡ true) (same_text u t f) (text_itself u) in absurd (let bad : true ≡ false = sym g ∙ e in cc)

pub texts_equivalence : IsEquivalence bytes_eq
texts_equivalence = record {
  refl = text_itself;
  symm = λ t u. bytes_flip t u (bytes_eq t u) (bytes_eq u t) refl refl;
  congr = λ t u v e. ap (λ (w : Text). bytes_eq w v) (same_text t u e);
}

-- the text stands in the list
abbrev In : List Text → Text → Type 0
In table t = list_any (bytes_eq t) table ≡ true

or_true : (b : Bool) → (b || true) ≡ true
or_true true = refl
or_true false = refl

or_more : (b c d : Bool) → (c ≡ true → d ≡ true) → (b || c) ≡ true → (b || d) ≡ true
or_more true c d more e = refl
or_more false c d more e = more e

kept_one : (p : Text → Bool) (q u : Text) (us : List Text) → (In (filter p us) q → In us q) → (b : Bool) → In (cond b (u ∷ filter p us) (filter p us)) q → In (u ∷ us) q
kept_one p q u us rest true h = or_more (bytes_eq q u) (list_any (bytes_eq q) (filter p us)) (list_any (bytes_eq q) us) rest h
kept_one p q u us rest false h = rw (rest h) (or_true (bytes_eq q u))

in_kept : (p : Text → Bool) (q : Text) (us : List Text) → In (filter p us) q → In us q
in_kept p q [] h = h
in_kept p q (u ∷ us) h = kept_one p q u us (in_kept p q us) (p u) h

first_among : (ts : List Text) (q : Text) → In (first_uses ts) q → In ts q
first_among [] q h = h
first_among (t ∷ ts) q h =
    or_more (bytes_eq q t) (list_any (bytes_eq q) (filter (λ (u : Text). not (bytes_eq u t)) (first_uses ts))) (list_any (bytes_eq q) ts)
    (λ e. first_among ts q (in_kept (λ (u : Text). not (bytes_eq u t)) q (first_uses ts) e)) h

abbrev Apart : Text → List Text → Type 0
Apart q us = AllByRecursion (λ (u : Text). bytes_eq q u ≡ false) us

apart_one : (q u : Text) (kept : List Text) → bytes_eq q u ≡ false → Apart q kept → (b : Bool) → Apart q (cond b (u ∷ kept) kept)
apart_one q u kept here rest true = (here, rest)
apart_one q u kept here rest false = rest

apart_kept : (p : Text → Bool) (q : Text) (us : List Text) → AllByRecursion (λ (u : Text). bytes_eq q u ≡ false) us → AllByRecursion (λ (u : Text). bytes_eq q u ≡ false) (filter p us)
apart_kept p q [] h = tt
apart_kept p q (u ∷ us) h = apart_one q u (filter p us) h.0 (apart_kept p q us h.1) (p u)

distinct_one : (u : Text) (kept : List Text) → Apart u kept → IsDistinct bytes_eq kept → (b : Bool) → IsDistinct bytes_eq (cond b (u ∷ kept) kept)
unfolding IsDistinct
distinct_one u kept here rest true = (here, rest)
distinct_one u kept here rest false = rest

distinct_kept : (p : Text → Bool) (us : List Text) → IsDistinct bytes_eq us → IsDistinct bytes_eq (filter p us)
unfolding IsDistinct
distinct_kept p [] d = tt
distinct_kept p (u ∷ us) d = distinct_one u (filter p us) (apart_kept p u us d.0) (distinct_kept p us d.1) (p u)

other_one : (t u : Text) (kept : List Text) → Apart t kept → (b : Bool) → bytes_eq u t ≡ b → Apart t (cond (not b) (u ∷ kept) kept)
other_one t u kept rest true e = rest
other_one t u kept rest false e = (bytes_flip t u (bytes_eq t u) false refl e, rest)

-- what a filter takes out of a list is apart from what it leaves
others_apart : (t : Text) (us : List Text) → AllByRecursion (λ (u : Text). bytes_eq t u ≡ false) (filter (λ (u : Text). not (bytes_eq u t)) us)
others_apart t [] = tt
others_apart t (u ∷ us) = other_one t u (filter (λ (v : Text). not (bytes_eq v t)) us) (others_apart t us) (bytes_eq u t) refl

pub first_distinct : (ts : List Text) → IsDistinct bytes_eq (first_uses ts)
unfolding IsDistinct
first_distinct [] = tt
first_distinct (t ∷ ts) = (others_apart t (first_uses ts), distinct_kept (λ (u : Text). not (bytes_eq u t)) (first_uses ts) (first_distinct ts))

-- ---- texts of the table

abbrev AllIn : List Text → List Text → Type 0
AllIn table ts = AllByRecursion (In table) ts

in_here : (table : List Text) (t q : Text) (ts : List Text) → AllIn table (t ∷ ts) → (b : Bool) → bytes_eq q t ≡ b → (b || list_any (bytes_eq q) ts) ≡ true → (list_any (bytes_eq q) ts ≡ true → In table q) → In table q
in_here table t q ts all true e h rest = subst (In table) (sym (same_text q t e)) all.0
in_here table t q ts all false e h rest = rest h

all_in : (table ts : List Text) → AllIn table ts → (q : Text) → In ts q → In table q
all_in table [] all q h = absurd (let bad : false ≡ true = h in cc)
all_in table (t ∷ ts) all q h = in_here table t q ts all (bytes_eq q t) refl h (all_in table ts all.1 q)

few_of_table : (table ts : List Text) → AllIn table ts → length (first_uses ts) ≤ length table
few_of_table table ts all = length-le_from_is_member texts_equivalence (first_uses ts) table (first_distinct ts) (λ q h. all_in table ts all q (first_among ts q h))

all_joined : (table us vs : List Text) → AllIn table us → AllIn table vs → AllIn table (us ++ vs)
all_joined table [] vs u v = v
all_joined table (t ∷ us) vs u v = (u.0, all_joined table us vs u.1 v)

in_at : (table : List Text) (i : ℕ) (t : Text) → slice_get table i ≡ Some t → In table t
in_at [] i t e = absurd (let bad : None ≡ Some t = e in cc)
in_at (u ∷ us) zero t e = let same : u ≡ t = (let s : Some u ≡ Some t = e in cc) in rw (subst (λ (v : Text). bytes_eq t v ≡ true) (sym same) (text_itself t)) refl
in_at (u ∷ us) (suc i) t e = rw (in_at us i t e) (or_true (bytes_eq t u))

in_table : (table : List Text) (k : ℤ) (t : Text) → text_at table k ≡ Some t → In table t
in_table table (pos i) t e = in_at table i t e
in_table table (negsuc i) t e = absurd (let bad : None ≡ Some t = e in cc)

heads : {A : Type 0} (x y : A) (xs ys : List A) → (x ∷ xs) ≡ (y ∷ ys) → (x ≡ y) × (xs ≡ ys)
heads x y xs ys e = (cc, cc)

-- ---- one element

tags_in : (table : List Text) (tags : List (Text × Text)) (keys vals : List ℤ) → TagsAt table tags keys vals → AllIn table (tag_texts tags)
tags_in table tags keys vals h = go tags keys vals h.keys_are h.vals_are
  where
    go : (tags : List (Text × Text)) (keys vals : List ℤ) → map (λ (t : Text × Text). Some t.0) tags ≡ map (text_at table) keys → map (λ (t : Text × Text). Some t.1) tags ≡ map (text_at table) vals → AllIn table (tag_texts tags)
    go [] keys vals e f = tt
    go (t ∷ tags) [] vals e f = absurd cc
    go (t ∷ tags) (k ∷ keys) [] e f = absurd cc
    go (t ∷ tags) (k ∷ keys) (v ∷ vals) e f =
        let key = heads (Some t.0) (text_at table k) (map (λ (t : Text × Text). Some t.0) tags) (map (text_at table) keys) e in
        let val = heads (Some t.1) (text_at table v) (map (λ (t : Text × Text). Some t.1) tags) (map (text_at table) vals) f in
        (in_table table k t.0 (sym key.0), (in_table table v t.1 (sym val.0), go tags keys vals key.1 val.1))

user_in : (table : List Text) (user : Option Text) (sid : Option ℤ) → option_map Some user ≡ option_map (text_at table) sid → AllIn table (option_to_list user)
user_in table None sid e = tt
user_in table (Some u) None e = absurd cc
user_in table (Some u) (Some k) e = (in_table table k u (let same : Some u ≡ text_at table k = (let s : Some (Some u) ≡ Some (text_at table k) = e in cc) in sym same), tt)

roles_in : (table : List Text) (ms : List MemberValue) (sids : List ℤ) → map (λ (x : MemberValue). Some x.role) ms ≡ map (text_at table) sids → AllIn table (map (λ (m : MemberValue). m.role) ms)
roles_in table [] sids e = tt
roles_in table (m ∷ ms) [] e = absurd cc
roles_in table (m ∷ ms) (k ∷ sids) e =
    let it = heads (Some m.role) (text_at table k) (map (λ (x : MemberValue). Some x.role) ms) (map (text_at table) sids) e in
    (in_table table k m.role (sym it.0), roles_in table ms sids it.1)

-- ---- dense nodes

pairs_in : (table : List Text) (tags : List (Text × Text)) (ps : List (ℤ × ℤ)) → all_there tags ≡ texts_at table ps → AllIn table (tag_texts tags)
pairs_in table [] ps e = tt
pairs_in table (t ∷ tags) [] e = absurd cc
pairs_in table (t ∷ tags) (p ∷ ps) e =
    let it = heads (Some t.0, Some t.1) (text_at table p.0, text_at table p.1) (all_there tags) (texts_at table ps) e in
    let key : Some t.0 ≡ text_at table p.0 = ap (λ (x : Option Text × Option Text). x.0) it.0 in
    let val : Some t.1 ≡ text_at table p.1 = ap (λ (x : Option Text × Option Text). x.1) it.0 in
    (in_table table p.0 t.0 (sym key), (in_table table p.1 t.1 (sym val), pairs_in table tags ps it.1))

abbrev shown : InfoValue → Option (Option Text)
shown i = option_map Some i.user

abbrev nobody : Option (Option Text)
nobody = None

abbrev somebody : List Text → ℤ → Option (Option Text)
somebody table v = Some (text_at table v)

abbrev UsersIn : List Text → List InfoValue → Type 0
UsersIn table infos = AllByRecursion (λ (i : InfoValue). AllIn table (option_to_list i.user)) infos

nobody_in : (table : List Text) (user : Option Text) → option_map Some user ≡ nobody → AllIn table (option_to_list user)
nobody_in table None e = tt
nobody_in table (Some u) e = absurd (let bad : Some (Some u) ≡ nobody = e in cc)

-- a user for none of them
users_absent : (table : List Text) (n : ℕ) (infos : List InfoValue) → map shown infos ≡ replicate n nobody → UsersIn table infos
users_absent table n [] e = tt
users_absent table zero (i ∷ infos) e = absurd cc
users_absent table (suc n) (i ∷ infos) e =
    let it = heads (shown i) nobody (map shown infos) (replicate n nobody) e in (nobody_in table i.user it.0, users_absent table n infos it.1)

-- a user for each of them
users_present : (table : List Text) (vs : List ℤ) (infos : List InfoValue) → map shown infos ≡ map (somebody table) vs → UsersIn table infos
users_present table vs [] e = tt
users_present table [] (i ∷ infos) e = absurd cc
users_present table (v ∷ vs) (i ∷ infos) e =
    let it = heads (shown i) (somebody table v) (map shown infos) (map (somebody table) vs) e in (user_in table i.user (Some v) it.0, users_present table vs infos it.1)

users_in : (table : List Text) (n : ℕ) (vs : List ℤ) (infos : List InfoValue) → map shown infos ≡ values_for n (map (somebody table) vs) → UsersIn table infos
users_in table n [] infos e = users_absent table n infos e
users_in table n (v ∷ vs) infos e = users_present table (v ∷ vs) infos e

-- ---- messages, groups, blocks

abbrev Fit : List Text → List Element → Type 0
Fit table es = AllByRecursion (λ (e : Element). AllIn table (texts_of e)) es

fit_joined : (table : List Text) (es fs : List Element) → Fit table es → Fit table fs → Fit table (es ++ fs)
fit_joined table [] fs e f = f
fit_joined table (x ∷ es) fs e f = (e.0, fit_joined table es fs e.1 f)

joins_fit : {B : Type 0} (table : List Text) (R : List Element → B → Type 0) → ((es : List Element) (x : B) → R es x → Fit table es) → (es : List Element) (xs : List B) → Joins R es xs → Fit table es
joins_fit table R each_fits es [] h = subst (Fit table) (sym h) tt
joins_fit table R each_fits es (x ∷ xs) h = subst (Fit table) (sym h.2) (fit_joined table h.0 h.1 (each_fits h.0 x h.3) (joins_fit table R each_fits h.1 xs h.4))

dense_fit : (table : List Text) (ns : List NodeValue) (ts : List (List (ℤ × ℤ))) → map (λ (n : NodeValue). all_there n.tags) ns ≡ map (texts_at table) ts
    → UsersIn table (map (λ (n : NodeValue). n.info) ns) → Fit table (map elements.Node ns)
dense_fit table [] ts e users = tt
dense_fit table (n ∷ ns) [] e users = absurd cc
dense_fit table (n ∷ ns) (t ∷ ts) e users =
    let it = heads (all_there n.tags) (texts_at table t) (map (λ (n : NodeValue). all_there n.tags) ns) (map (texts_at table) ts) e in
    (all_joined table (tag_texts n.tags) (option_to_list n.info.user) (pairs_in table n.tags t it.0) users.0, dense_fit table ns ts it.1 users.1)

one_fit : (table : List Text) (e : Element) (es : List Element) → es ≡ e ∷ [] → AllIn table (texts_of e) → Fit table es
one_fit table e es is all = subst (Fit table) (sym is) (all, tt)

message_fit : (b : Context) (es : List Element) (m : Message) → AllAreWire m × MessageOf b es m → Fit b.table es
message_fit b es (Plain p) h =
    let n = h.1.0 in let of = h.1.2 in
    one_fit b.table (elements.Node n) es h.1.1 (all_joined b.table (tag_texts n.tags) (option_to_list n.info.user) (tags_in b.table n.tags _ _ of.tags_are) (user_in b.table n.info.user _ of.info_is.user_is))
message_fit b es (Way p) h =
    let w = h.1.0 in let of = h.1.2 in
    one_fit b.table (elements.Way w) es h.1.1 (all_joined b.table (tag_texts w.tags) (option_to_list w.info.user) (tags_in b.table w.tags _ _ of.tags_are) (user_in b.table w.info.user _ of.info_is.user_is))
message_fit b es (Relation p) h =
    let r = h.1.0 in let of = h.1.2 in
    one_fit b.table (elements.Relation r) es h.1.1
    (all_joined b.table (tag_texts r.tags ++ option_to_list r.info.user) (map (λ (m : MemberValue). m.role) r.members)
    (all_joined b.table (tag_texts r.tags) (option_to_list r.info.user) (tags_in b.table r.tags _ _ of.tags_are) (user_in b.table r.info.user _ of.info_is.user_is))
    (roles_in b.table r.members _ of.roles_are))
message_fit b es (Dense ps) h =
    let ns = h.1.0 in let of = h.1.2 in let users = of.infos_are.users_are in
    subst (Fit b.table) (sym h.1.1) (dense_fit b.table ns of.tags_are.0 of.tags_are.2 (users_in b.table _ users.0 (map (λ (n : NodeValue). n.info) ns) users.2))

group_fit : (b : Context) (es : List Element) (g : List ℕ) → GroupOf b es g → Fit b.table es
group_fit b es g h = joins_fit b.table (λ (xs : List Element) (m : Message). AllAreWire m × MessageOf b xs m) (message_fit b) es (messages (fields g)) h.elements_are

block_fit : (es : List Element) (w : List ℕ) → Block es w → Fit (context (fields w)).table es
block_fit es w h = joins_fit (context (fields w)).table (GroupOf (context (fields w))) (group_fit (context (fields w))) es (each (fields w) 2) h.elements_are

-- ---- how long the table is

-- how long a payload is
abbrev payload : Content → ℕ
payload (Bytes bytes) = length bytes
payload _ = 0

-- the payloads of fields together, and a byte for each field
abbrev weight : List Entry → ℕ
weight [] = 0
weight (f ∷ fs) = payload f.content + 1 + weight fs

ends_long : (w : List ℕ) → EndsOnce w → 1 ≤ length w
ends_long [] e = absurd e
ends_long (b ∷ bs) e = omega arith

value_long : (c : Content) (v : List ℕ) → SpellsValue c v → payload c ≤ length v
value_long (Bytes bytes) v s = omega (arith, ap length s.2, length-append s.0 bytes)
value_long (Number n) v s = omega arith
value_long (Fixed64 bytes) v s = omega arith
value_long (Fixed32 bytes) v s = omega arith

spelled_long : (f : Entry) (w : List ℕ) → Spells f w → payload f.content + 1 ≤ length w
spelled_long f w s =
    let tag = ends_long s.0 s.3.ends in
    let value = value_long f.content s.1 s.4 in
    omega (arith, ap length s.5, length-append s.0 s.1)

list_long : (fs : List Entry) (w : List ℕ) → Fields fs w → weight fs ≤ length w
list_long [] w h = omega arith
list_long (f ∷ fs) w h =
    let here = spelled_long f h.0 h.2 in
    let rest = list_long fs h.1 h.3 in
    omega (arith, ap length h.4, length-append h.0 h.1)

-- payloads together
abbrev total : List (List ℕ) → ℕ
total [] = 0
total (p ∷ ps) = length p + total ps

each_count : (fs : List Entry) (k : ℕ) → length (each fs k) ≤ weight fs
each_count [] k = omega arith
each_count (f ∷ fs) k = by (cond (f.number == k) (bytes_of f.content) None) (each_count fs k)
  where
    by : (o : Option (List ℕ)) → length (each fs k) ≤ weight fs → length (cons_option o (each fs k)) ≤ payload f.content + 1 + weight fs
    by None rest = omega arith
    by (Some p) rest = omega arith

each_total : (fs : List Entry) (k : ℕ) → total (each fs k) ≤ weight fs
each_total [] k = omega arith
each_total (f ∷ fs) k = by (f.number == k) f.content (each_total fs k)
  where
    by : (b : Bool) (c : Content) → total (each fs k) ≤ weight fs → total (cons_option (cond b (bytes_of c) None) (each fs k)) ≤ payload c + 1 + weight fs
    by true (Bytes bytes) rest = omega arith
    by true (Number n) rest = omega arith
    by true (Fixed64 bytes) rest = omega arith
    by true (Fixed32 bytes) rest = omega arith
    by false c rest = omega arith

read_long : (w : List ℕ) → wire w ≡ None → weight (fields w) ≤ length w
read_long w e = list_long (fields w) w (read_list w e)

each_both : (fs gs : List Entry) (k : ℕ) → each (fs ++ gs) k ≡ each fs k ++ each gs k
each_both fs gs k = filter_map-append (λ (f : Entry). cond (f.number == k) (bytes_of f.content) None) fs gs

table_long : (ps : List (List ℕ)) → AllByRecursion (λ (p : List ℕ). wire p ≡ None) ps → length (each (flat_map fields ps) 1) ≤ total ps
table_long [] all = omega arith
table_long (p ∷ ps) all =
    let here : length (each (fields p) 1) ≤ weight (fields p) = each_count (fields p) 1 in
    let read : weight (fields p) ≤ length p = read_long p all.0 in
    let rest : length (each (flat_map fields ps) 1) ≤ total ps = table_long ps all.1 in
    let both : length (each (fields p ++ flat_map fields ps) 1) ≡ length (each (fields p) 1) + length (each (flat_map fields ps) 1) =
    ap length (each_both (fields p) (flat_map fields ps) 1) ∙ length-append (each (fields p) 1) (each (flat_map fields ps) 1) in
    omega (arith, both)

block_table_long : (es : List Element) (w : List ℕ) → Block es w → length (context (fields w)).table ≤ length w
block_table_long es w h =
    let table : length (context (fields w)).table ≤ total (each (fields w) 1) = table_long (each (fields w) 1) h.tables_are in
    let within : total (each (fields w) 1) ≤ weight (fields w) = each_total (fields w) 1 in
    let read : weight (fields w) ≤ length w = read_long w h.is_message in
    omega arith

few_each : (table : List Text) (es : List Element) → length table ≤ 33554431 → Fit table es → HaveFewTexts es
few_each table [] short fit = tt
few_each table (e ∷ es) short fit =
    let here : length (first_uses (texts_of e)) ≤ length table = few_of_table table (texts_of e) fit.0 in
    (omega arith, few_each table es short fit.1)

-- every list that is read from a raw payload uses few texts
pub block_uses_few_texts : (es : List Element) (w : List ℕ) → length w ≤ 33554431 → Block es w → HaveFewTexts es
block_uses_few_texts es w short h =
    let table : length (context (fields w)).table ≤ length w = block_table_long es w h in
    few_each (context (fields w)).table es (omega arith) (block_fit es w h)
