-- A list that is read from a raw payload uses few texts: each stands in its table with two bytes or more.
use Rattle.std.proofs.Common.{◌≡◌, ℕ, zero, suc, ◌+◌, ◌*◌, ◌≤◌, ◌==◌, List, [], ◌∷◌, ◌++◌, length, map, filter, refl, ap, ◌∙◌, sym, arith, ℤ, pos, negsuc, Bool, true, false, not, ◌||◌, cond, if◌then◌else◌, Option, Some, None, option_map, subst, bytes_eq, slice_get}
use Rattle.std.specs.Prelude.{option_to_list, replicate}
use Rattle.std.specs.List.{AllByRecursion, flat_map}
use Rattle.std.proofs.lemmas.List.{length-append}
use Rattle.std.proofs.lemmas.List.Elements.{filter_map-append}
use Rattle.std.proofs.lemmas.Slice.Eq.{bytes_eq-Decides}
use Rattle.std.proofs.lemmas.Bool.{true≢false}
use Rattle.pbf_wire.specs.Number.{Num}
use Rattle.pbf_wire.specs.Field.{Content, Number, Fixed64, Bytes, Fixed32, Entry, Fields, Spells, SpellsValue}
use Rattle.pbf_wire.specs.Readings.{fields, wire, bytes_of, each}
use Rattle.pbf_wire.proofs.ReadingLaws.{read_list}
use Rattle.osm_value.specs.declared.element.Element.{Element}
use Rattle.osm_value.specs.declared.element.Element.TheVariants as elements
use Rattle.osm_value.specs.Value.{Text, InfoValue, NodeValue, MemberValue}
use Rattle.osm_value.proofs.Ranges.{all_append, all_map}
use Rattle.osm_block.specs.declared.fields.TheConstants.{BLOCK_PRIMITIVEGROUP, BLOCK_STRINGTABLE, STRINGTABLE_S}
use Rattle.osm_block.specs.DenseTags.{Pair}
use Rattle.osm_block.specs.Message.{Context, context, Message, Plain, Dense, Way, Relation, messages}
use Rattle.osm_block.specs.Block.{Block, GroupOf, Joins, AllAreWire, MessageOf, TagsAt, text_at, texts_at, all_there, values_for}
use Rattle.osm_write.specs.declared.block.TheConstants.{MAX_BLOCK_LEN}
use Rattle.osm_write.specs.Canon.{first_uses, tag_texts, texts_of}
use Rattle.osm_write.specs.Texts.{has}
use Rattle.osm_write.specs.Laws.{FewTexts}

-- ---- lists with no text twice

abbrev Distinct : List Text → Type 0
Distinct [] = Unit {0}
Distinct (t ∷ ts) = (has ts t ≡ false) × Distinct ts

abbrev without : Text → List Text → List Text
without t ts = filter (λ u. not (bytes_eq u t)) ts

or_false : (a b : Bool) → (a || b) ≡ false → (a ≡ false) × (b ≡ false)
or_false true b e = absurd (true≢false e)
or_false false b e = (refl, e)

not_kept : (p : Text → Bool) (ts : List Text) (t : Text) → has ts t ≡ false → has (filter p ts) t ≡ false
not_kept p [] t e = refl
not_kept p (u ∷ us) t e =
    let a = or_false (bytes_eq u t) (has us t) e in
    by (p u) (not_kept p us t a.1) a.0
  where
    by : (b : Bool) → has (filter p us) t ≡ false → bytes_eq u t ≡ false → has (if b then u ∷ filter p us else filter p us) t ≡ false
    by true again apart = rw (apart, again) refl
    by false again apart = again

distinct_kept : (p : Text → Bool) (ts : List Text) → Distinct ts → Distinct (filter p ts)
distinct_kept p [] d = tt
distinct_kept p (t ∷ ts) d = by (p t) (distinct_kept p ts d.1)
  where
    by : (b : Bool) → Distinct (filter p ts) → Distinct (if b then t ∷ filter p ts else filter p ts)
    by true again = (not_kept p ts t d.0, again)
    by false again = again

none_left : (t : Text) (ts : List Text) → has (without t ts) t ≡ false
none_left t [] = refl
none_left t (u ∷ us) = by (bytes_eq u t) refl (none_left t us)
  where
    by : (b : Bool) → bytes_eq u t ≡ b → has (without t us) t ≡ false → has (if not b then u ∷ without t us else without t us) t ≡ false
    by true e again = again
    by false e again = rw (e, again) refl

uses_distinct : (us : List Text) → Distinct (first_uses us)
uses_distinct [] = tt
uses_distinct (u ∷ us) = (none_left u (first_uses us), distinct_kept (λ v. not (bytes_eq v u)) (first_uses us) (uses_distinct us))

same_texts : (u t : Text) → bytes_eq u t ≡ true → u ≡ t
same_texts u t e = (bytes_eq-Decides u t).0 e

all_stay : (t : Text) (ts : List Text) → has ts t ≡ false → without t ts ≡ ts
all_stay t [] e = refl
all_stay t (u ∷ us) e = let a = or_false (bytes_eq u t) (has us t) e in let b = a.0 in rw b (ap (λ xs. u ∷ xs) (all_stay t us a.1))

one_less : (t : Text) (ts : List Text) → Distinct ts → length ts ≤ 1 + length (without t ts)
one_less t [] d = omega arith
one_less t (u ∷ us) d = by (bytes_eq u t) refl (one_less t us d.1)
  where
    by : (b : Bool) → bytes_eq u t ≡ b → length us ≤ 1 + length (without t us) → suc (length us) ≤ 1 + length (if not b then u ∷ without t us else without t us)
    by true e again =
        let same : u ≡ t = same_texts u t e in
        let gone : has us t ≡ false = ap (has us) (sym same) ∙ d.0 in
        let l = ap length (all_stay t us gone) in
        omega arith
    by false e again = omega arith

still_there : (t : Text) (ts xs : List Text) → AllByRecursion (λ x. has (t ∷ ts) x ≡ true) xs → AllByRecursion (λ x. has ts x ≡ true) (without t xs)
still_there t ts [] all = tt
still_there t ts (x ∷ xs) all = by (bytes_eq x t) refl (still_there t ts xs all.1)
  where
    other : (b : Bool) → bytes_eq t x ≡ b → bytes_eq x t ≡ false → (b || has ts x) ≡ true → has ts x ≡ true
    other true e apart h = let same : x ≡ t = sym (same_texts t x e) in absurd (true≢false (sym ((bytes_eq-Decides x t).1 same) ∙ apart))
    other false e apart h = h

    by : (b : Bool) → bytes_eq x t ≡ b → AllByRecursion (λ y. has ts y ≡ true) (without t xs) → AllByRecursion (λ y. has ts y ≡ true) (if not b then x ∷ without t xs else without t xs)
    by true e again = again
    by false e again = (other (bytes_eq t x) refl e all.0, again)

-- different texts of a table are at most as many as the table has
at_most : (table xs : List Text) → Distinct xs → AllByRecursion (λ x. has table x ≡ true) xs → length xs ≤ length table
at_most [] [] d all = omega arith
at_most [] (x ∷ xs) d all = absurd (true≢false (sym all.0))
at_most (t ∷ ts) xs d all =
    let a = one_less t xs d in
    let b = at_most ts (without t xs) (distinct_kept (λ u. not (bytes_eq u t)) xs d) (still_there t ts xs all) in
    omega arith

all_kept : (P : Text → Type 0) (p : Text → Bool) (xs : List Text) → AllByRecursion P xs → AllByRecursion P (filter p xs)
all_kept P p [] all = tt
all_kept P p (x ∷ xs) all = by (p x) (all_kept P p xs all.1)
  where
    by : (b : Bool) → AllByRecursion P (filter p xs) → AllByRecursion P (if b then x ∷ filter p xs else filter p xs)
    by true again = (all.0, again)
    by false again = again

all_uses : (P : Text → Type 0) (us : List Text) → AllByRecursion P us → AllByRecursion P (first_uses us)
all_uses P [] all = tt
all_uses P (u ∷ us) all = (all.0, all_kept P (λ v. not (bytes_eq v u)) (first_uses us) (all_uses P us all.1))

-- ---- how long a table is

abbrev heavy : List (List ℕ) → ℕ
heavy [] = 0
heavy (p ∷ ps) = 2 + length p + heavy ps

num_some : (n : ℕ) (w : List ℕ) → Num n w → 1 ≤ length w
num_some n [] h = absurd h.ends
num_some n (b ∷ w) h = omega arith

value_long : (c : Content) (value p : List ℕ) → SpellsValue c value → bytes_of c ≡ Some p → 1 + length p ≤ length value
value_long (Number n) value p h e = absurd (cc)
value_long (Fixed64 bs) value p h e = absurd (cc)
value_long (Bytes bs) value p h e =
    let same : bs ≡ p = cc in
    let l = ap length same in
    let a = num_some (length bs) h.0 h.1 in
    let b = ap length h.2 in
    let c = length-append h.0 bs in
    omega arith
value_long (Fixed32 bs) value p h e = absurd (cc)

spelled_long : (f : Entry) (w p : List ℕ) → Spells f w → bytes_of f.content ≡ Some p → 2 + length p ≤ length w
spelled_long f w p h e =
    let a = num_some _ h.0 h.3 in
    let b = value_long f.content h.1 p h.4 e in
    let c = ap length h.5 in
    let d = length-append h.0 h.1 in
    omega arith

chosen_some : (b : Bool) (o : Option (List ℕ)) (p : List ℕ) → cond b o None ≡ Some p → o ≡ Some p
chosen_some true o p e = e
chosen_some false o p e = absurd (cc)

each_heavy : (fs : List Entry) (w : List ℕ) (k : ℕ) → Fields fs w → heavy (each fs k) ≤ length w
each_heavy [] w k h = omega arith
each_heavy (f ∷ fs) w k h =
    by (cond (f.number == k) (bytes_of f.content) None) refl (each_heavy fs h.1 k h.3)
  where
    by : (o : Option (List ℕ)) → cond (f.number == k) (bytes_of f.content) None ≡ o → heavy (each fs k) ≤ length h.1 → heavy (each (f ∷ fs) k) ≤ length w
    by None e again =
        let a = ap length h.4 in
        let b = length-append h.0 h.1 in
        rw e (omega arith)
    by (Some p) e again =
        let a = ap length h.4 in
        let b = length-append h.0 h.1 in
        let c = spelled_long f h.0 p h.2 (chosen_some (f.number == k) (bytes_of f.content) p e) in
        rw e (omega arith)

heavy_count : (ps : List (List ℕ)) → 2 * length ps ≤ heavy ps
heavy_count [] = omega arith
heavy_count (p ∷ ps) = let a = heavy_count ps in omega arith

table_short : (ps : List (List ℕ)) → AllByRecursion (λ p. wire p ≡ None) ps → 2 * length (each (flat_map fields ps) STRINGTABLE_S) ≤ heavy ps
table_short [] all = omega arith
table_short (p ∷ ps) all =
    let e : each (fields p ++ flat_map fields ps) STRINGTABLE_S ≡ each (fields p) STRINGTABLE_S ++ each (flat_map fields ps) STRINGTABLE_S = filter_map-append _ (fields p) (flat_map fields ps) in
    let l = ap length e in
    let a = length-append (each (fields p) STRINGTABLE_S) (each (flat_map fields ps) STRINGTABLE_S) in
    let b = heavy_count (each (fields p) STRINGTABLE_S) in
    let c = each_heavy (fields p) p STRINGTABLE_S (read_list p all.0) in
    let d = table_short ps all.1 in
    omega arith

block_table : (es : List Element) (w : List ℕ) → Block es w → 2 * length (context (fields w)).table ≤ length w
block_table es w h =
    let a = table_short (each (fields w) BLOCK_STRINGTABLE) h.tables_are in
    let b = each_heavy (fields w) w BLOCK_STRINGTABLE (read_list w h.is_message) in
    omega arith

-- ---- each text that is read stands in the table

abbrev There : List Text → Text → Type 0
There table t = has table t ≡ true

has_first : (u t : Text) (us : List Text) → u ≡ t → has (u ∷ us) t ≡ true
has_first u t us same = let e : bytes_eq u t ≡ true = (bytes_eq-Decides u t).1 same in rw e refl

has_later : (u t : Text) (us : List Text) → has us t ≡ true → has (u ∷ us) t ≡ true
has_later u t us e = by (bytes_eq u t)
  where
    by : (b : Bool) → (b || has us t) ≡ true
    by true = refl
    by false = e

has_at : (table : List Text) (i : ℕ) (t : Text) → slice_get table i ≡ Some t → There table t
has_at [] i t e = absurd (cc)
has_at (u ∷ us) zero t e = has_first u t us (cc)
has_at (u ∷ us) (suc i) t e = has_later u t us (has_at us i t e)

text_there : (table : List Text) (z : ℤ) (t : Text) → text_at table z ≡ Some t → There table t
text_there table (pos i) t e = has_at table i t e
text_there table (negsuc i) t e = absurd (cc)

some_texts : {A : Type 0} (table : List Text) (pick : A → Text) (xs : List A) (ks : List ℤ) → map (λ x. Some (pick x)) xs ≡ map (text_at table) ks → AllByRecursion (λ x. There table (pick x)) xs
some_texts table pick [] ks e = tt
some_texts table pick (x ∷ xs) [] e = absurd (cc)
some_texts table pick (x ∷ xs) (k ∷ ks) e =
    let a : text_at table k ≡ Some (pick x) = cc in
    let b : map (λ y. Some (pick y)) xs ≡ map (text_at table) ks = cc in
    (text_there table k (pick x) a, some_texts table pick xs ks b)

user_there : (table : List Text) (o : Option Text) (u : Option ℤ) → option_map Some o ≡ option_map (text_at table) u → AllByRecursion (There table) (option_to_list o)
user_there table None u e = tt
user_there table (Some t) None e = absurd (cc)
user_there table (Some t) (Some z) e = let a : text_at table z ≡ Some t = cc in (text_there table z t a, tt)

tags_there : (table : List Text) (tags : List (Text × Text)) → AllByRecursion (λ (t : Text × Text). There table t.0) tags → AllByRecursion (λ (t : Text × Text). There table t.1) tags
    → AllByRecursion (There table) (tag_texts tags)
tags_there table [] keys values = tt
tags_there table (t ∷ tags) keys values = (keys.0, (values.0, tags_there table tags keys.1 values.1))

abbrev TextsThere : List Text → Element → Type 0
TextsThere table e = AllByRecursion (There table) (texts_of e)

head_there : (b : Context) (tags : List (Text × Text)) (ks vs : List ℤ) → TagsAt b.table tags ks vs → AllByRecursion (There b.table) (tag_texts tags)
head_there b tags ks vs h = tags_there b.table tags (some_texts b.table (λ (t : Text × Text). t.0) tags ks h.keys_are) (some_texts b.table (λ (t : Text × Text). t.1) tags vs h.vals_are)

pairs_there : (table : List Text) (tags : List (Text × Text)) (ps : List Pair) → all_there tags ≡ texts_at table ps → AllByRecursion (There table) (tag_texts tags)
pairs_there table [] ps e = tt
pairs_there table (t ∷ tags) [] e = absurd (cc)
pairs_there table (t ∷ tags) (p ∷ ps) e =
    let one : Option Text × Option Text = (Some t.0, Some t.1) in
    let two : Option Text × Option Text = (text_at table p.0, text_at table p.1) in
    let a : one ≡ two = cc in
    let b : all_there tags ≡ texts_at table ps = cc in (
      text_there table p.0 t.0 (sym (ap (λ (x : Option Text × Option Text). x.0) a)),
      (text_there table p.1 t.1 (sym (ap (λ (x : Option Text × Option Text). x.1) a)), pairs_there table tags ps b),
    )

nodes_tags : (table : List Text) (ns : List NodeValue) (ts : List (List Pair)) → map (λ (n : NodeValue). all_there n.tags) ns ≡ map (texts_at table) ts
    → AllByRecursion (λ (n : NodeValue). AllByRecursion (There table) (tag_texts n.tags)) ns
nodes_tags table [] ts e = tt
nodes_tags table (n ∷ ns) [] e = absurd (cc)
nodes_tags table (n ∷ ns) (ps ∷ ts) e =
    let a : all_there n.tags ≡ texts_at table ps = cc in
    let b : map (λ (n : NodeValue). all_there n.tags) ns ≡ map (texts_at table) ts = cc in
    (pairs_there table n.tags ps a, nodes_tags table ns ts b)

abbrev UserThere : List Text → InfoValue → Type 0
UserThere table i = AllByRecursion (There table) (option_to_list i.user)

absent : (table : List Text) (o : Option Text) → option_map Some o ≡ None → AllByRecursion (There table) (option_to_list o)
absent table None e = tt
absent table (Some t) e = absurd (cc)

present : (table : List Text) (o : Option Text) (v : ℤ) → option_map Some o ≡ Some (text_at table v) → AllByRecursion (There table) (option_to_list o)
present table None v e = tt
present table (Some t) v e = let a : text_at table v ≡ Some t = cc in (text_there table v t a, tt)

no_users : (table : List Text) (is : List InfoValue) → map (λ (i : InfoValue). option_map Some i.user) is ≡ replicate (length is) None → AllByRecursion (UserThere table) is
no_users table [] e = tt
no_users table (i ∷ is) e =
    let a : option_map Some i.user ≡ None = cc in
    let b : map (λ (i : InfoValue). option_map Some i.user) is ≡ replicate (length is) None = cc in
    (absent table i.user a, no_users table is b)

some_users : (table : List Text) (is : List InfoValue) (vs : List ℤ) → map (λ (i : InfoValue). option_map Some i.user) is ≡ map (λ v. Some (text_at table v)) vs → AllByRecursion (UserThere table) is
some_users table [] vs e = tt
some_users table (i ∷ is) [] e = absurd (cc)
some_users table (i ∷ is) (v ∷ vs) e =
    let a : option_map Some i.user ≡ Some (text_at table v) = cc in
    let b : map (λ (i : InfoValue). option_map Some i.user) is ≡ map (λ v. Some (text_at table v)) vs = cc in
    (present table i.user v a, some_users table is vs b)

users_there : (table : List Text) (is : List InfoValue) (vs : List ℤ) → map (λ (i : InfoValue). option_map Some i.user) is ≡ values_for (length is) (map (λ v. Some (text_at table v)) vs)
    → AllByRecursion (UserThere table) is
users_there table is [] e = no_users table is e
users_there table is (v ∷ vs) e = some_users table is (v ∷ vs) e

nodes_there : (table : List Text) (ns : List NodeValue) → AllByRecursion (λ (n : NodeValue). AllByRecursion (There table) (tag_texts n.tags)) ns
    → AllByRecursion (UserThere table) (map (λ (n : NodeValue). n.info) ns) → AllByRecursion (TextsThere table) (map elements.Node ns)
nodes_there table [] tags users = tt
nodes_there table (n ∷ ns) tags users = (all_append (There table) _ _ tags.0 users.0, nodes_there table ns tags.1 users.1)

one_there : (table : List Text) (es : List Element) (e : Element) → es ≡ e ∷ [] → TextsThere table e → AllByRecursion (TextsThere table) es
one_there table es e is h = rw is (h, tt)

message_there : (b : Context) (es : List Element) (m : Message) → AllAreWire m × MessageOf b es m → AllByRecursion (TextsThere b.table) es
message_there b es (Plain p) h =
    let n = h.1.2 in
    one_there b.table es (elements.Node h.1.0) h.1.1 (all_append (There b.table) _ _ (head_there b h.1.0.tags _ _ n.tags_are) (user_there b.table h.1.0.info.user _ n.info_is.user_is))
message_there b es (Dense ps) h =
    let d = h.1.2 in
    subst (AllByRecursion (TextsThere b.table)) (sym h.1.1)
    (nodes_there b.table h.1.0 (nodes_tags b.table h.1.0 d.tags_are.0 d.tags_are.2) (users_there b.table (map (λ (n : NodeValue). n.info) h.1.0) d.infos_are.users_are.0 d.infos_are.users_are.2))
message_there b es (Way p) h =
    let w = h.1.2 in
    one_there b.table es (elements.Way h.1.0) h.1.1 (all_append (There b.table) _ _ (head_there b h.1.0.tags _ _ w.tags_are) (user_there b.table h.1.0.info.user _ w.info_is.user_is))
message_there b es (Relation p) h =
    let r = h.1.2 in
    one_there b.table es (elements.Relation h.1.0) h.1.1
    (all_append (There b.table) _ _ (all_append (There b.table) _ _ (head_there b h.1.0.tags _ _ r.tags_are) (user_there b.table h.1.0.info.user _ r.info_is.user_is))
    (all_map (There b.table) (λ (m : MemberValue). m.role) h.1.0.members (some_texts b.table (λ (m : MemberValue). m.role) h.1.0.members _ r.roles_are)))

joins_all : {B : Type 0} (P : Element → Type 0) (R : List Element → B → Type 0) → ((xs : List Element) (z : B) → R xs z → AllByRecursion P xs) → (es : List Element) (zs : List B) → Joins R es zs → AllByRecursion P es
joins_all P R f es [] h = rw h tt
joins_all P R f es (z ∷ zs) h = subst (AllByRecursion P) (sym h.2) (all_append P h.0 h.1 (f h.0 z h.3) (joins_all P R f h.1 zs h.4))

all_flat : {A : Type 0} (P : Text → Type 0) (f : A → List Text) (xs : List A) → AllByRecursion (λ x. AllByRecursion P (f x)) xs → AllByRecursion P (flat_map f xs)
all_flat P f [] all = tt
all_flat P f (x ∷ xs) all = all_append P (f x) (flat_map f xs) all.0 (all_flat P f xs all.1)

block_there : (es : List Element) (w : List ℕ) → Block es w → AllByRecursion (There (context (fields w)).table) (flat_map texts_of es)
block_there es w h =
    let b : Context = context (fields w) in
    let P : Element → Type 0 = TextsThere b.table in
    all_flat (There b.table) texts_of es
    (joins_all P (GroupOf b) (λ xs g k. joins_all P (λ ys m. AllAreWire m × MessageOf b ys m) (message_there b) xs (messages (fields g)) k.elements_are) es (each (fields w) BLOCK_PRIMITIVEGROUP) h.elements_are)

-- ---- the bound

pub few_texts_read : (es : List Element) (w : List ℕ) → Block es w → length w ≤ MAX_BLOCK_LEN → FewTexts es
few_texts_read es w h short =
    let table : List Text = (context (fields w)).table in
    let us : List Text = flat_map texts_of es in
    let a = block_table es w h in
    let b = at_most table (first_uses us) (uses_distinct us) (all_uses (There table) us (block_there es w h)) in
    omega arith
