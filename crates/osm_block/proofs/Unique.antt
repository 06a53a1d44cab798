-- A message stands to one element at most.
use Rattle.std.proofs.Common.{◌≡◌, zero, suc, List, [], ◌∷◌, ◌++◌, map, length, refl, sym, ap, ◌∙◌, ℤ, pos, negsuc, Option, Some, None}
use Rattle.std.specs.Prelude.{option_map, flat_map}
use Rattle.std.specs.List.{AllByRecursion}
use Rattle.osm_value.specs.Value.{Text, InfoValue, NodeValue, WayValue, RelationValue, MemberValue}
use Rattle.osm_block.specs.Message.{Context, InfoMessage, NodeMessage, WayMessage, RelationMessage}
use Rattle.osm_block.specs.DenseTags.{Pair, pairs_and_zero, KeysAreNotZero, pairs_of, with_pair}
use Rattle.osm_block.specs.Block.{TagsAt, InfoOf, NodeOf, WayOf, RelationOf, Joins}
use Rattle.osm_block.proofs.DifferencesLemmas.{Diff-unique}

pub some_one : {A : Type 0} (a b : A) → Some a ≡ Some b → a ≡ b
some_one a b e = cc

pub option_one : {A : Type 0} (a b : Option A) → option_map Some a ≡ option_map Some b → a ≡ b
option_one None None e = refl
option_one None (Some b) e = cc
option_one (Some a) None e = cc
option_one (Some a) (Some b) e = cc

pairs_one : {A B : Type 0} (us vs : List (A × B)) → map (λ t. Some t.0) us ≡ map (λ t. Some t.0) vs → map (λ t. Some t.1) us ≡ map (λ t. Some t.1) vs → us ≡ vs
pairs_one [] [] e f = refl
pairs_one [] (v ∷ vs) e f = cc
pairs_one (u ∷ us) [] e f = cc
pairs_one (u ∷ us) (v ∷ vs) e f =
    let first : u.0 ≡ v.0 = cc in
    let second : u.1 ≡ v.1 = cc in
    let firsts : map (λ t. Some t.0) us ≡ map (λ t. Some t.0) vs = cc in
    let seconds : map (λ t. Some t.1) us ≡ map (λ t. Some t.1) vs = cc in
    ap (λ x. (x, u.1) ∷ us) first ∙ ap (λ x. (v.0, x) ∷ us) second ∙ ap (λ l. v ∷ l) (pairs_one us vs firsts seconds)

pub TagsAt-unique : (table : List Text) (us vs : List (Text × Text)) (ks ls : List ℤ) → TagsAt table us ks ls → TagsAt table vs ks ls → us ≡ vs
TagsAt-unique table us vs ks ls g h = pairs_one us vs (g.keys_are ∙ sym h.keys_are) (g.vals_are ∙ sym h.vals_are)

pub InfoOf-unique : (b : Context) (i j : InfoValue) (m : InfoMessage) → InfoOf b i m → InfoOf b j m → i ≡ j
InfoOf-unique b i j m g h =
    ap (λ x. record { version = x; time = i.time; changeset = i.changeset; uid = i.uid; user = i.user; visible = i.visible }) (g.version_is ∙ sym h.version_is)
    ∙ ap (λ x. record { version = j.version; time = x; changeset = i.changeset; uid = i.uid; user = i.user; visible = i.visible }) (g.time_is ∙ sym h.time_is)
    ∙ ap (λ x. record { version = j.version; time = j.time; changeset = x; uid = i.uid; user = i.user; visible = i.visible }) (g.changeset_is ∙ sym h.changeset_is)
    ∙ ap (λ x. record { version = j.version; time = j.time; changeset = j.changeset; uid = x; user = i.user; visible = i.visible }) (g.uid_is ∙ sym h.uid_is)
    ∙ ap (λ x. record { version = j.version; time = j.time; changeset = j.changeset; uid = j.uid; user = x; visible = i.visible }) (option_one i.user j.user (g.user_is ∙ sym h.user_is))
    ∙ ap (λ x. record { version = j.version; time = j.time; changeset = j.changeset; uid = j.uid; user = j.user; visible = x }) (g.visible_is ∙ sym h.visible_is)

pub WayOf-unique : (b : Context) (v w : WayValue) (m : WayMessage) → WayOf b v m → WayOf b w m → v ≡ w
WayOf-unique b v w m g h =
    ap (λ x. record { id = x; refs = v.refs; tags = v.tags; info = v.info }) (some_one _ _ (g.id_is ∙ sym h.id_is))
    ∙ ap (λ x. record { id = w.id; refs = x; tags = v.tags; info = v.info }) (Diff-unique v.refs w.refs m.refs g.refs_are h.refs_are)
    ∙ ap (λ x. record { id = w.id; refs = w.refs; tags = x; info = v.info }) (TagsAt-unique b.table v.tags w.tags m.keys m.vals g.tags_are h.tags_are)
    ∙ ap (λ x. record { id = w.id; refs = w.refs; tags = w.tags; info = x }) (InfoOf-unique b v.info w.info m.info g.info_is h.info_is)

pub NodeOf-unique : (b : Context) (v w : NodeValue) (m : NodeMessage) → NodeOf b v m → NodeOf b w m → v ≡ w
NodeOf-unique b v w m g h =
    ap (λ x. record { id = x; lat = v.lat; lon = v.lon; tags = v.tags; info = v.info }) (some_one _ _ (g.id_is ∙ sym h.id_is))
    ∙ ap (λ x. record { id = w.id; lat = x; lon = v.lon; tags = v.tags; info = v.info }) (some_one _ _ (g.lat_is ∙ sym h.lat_is))
    ∙ ap (λ x. record { id = w.id; lat = w.lat; lon = x; tags = v.tags; info = v.info }) (some_one _ _ (g.lon_is ∙ sym h.lon_is))
    ∙ ap (λ x. record { id = w.id; lat = w.lat; lon = w.lon; tags = x; info = v.info }) (TagsAt-unique b.table v.tags w.tags m.keys m.vals g.tags_are h.tags_are)
    ∙ ap (λ x. record { id = w.id; lat = w.lat; lon = w.lon; tags = w.tags; info = x }) (InfoOf-unique b v.info w.info m.info g.info_is h.info_is)

members_one : (us vs : List MemberValue) → map (λ x. x.id) us ≡ map (λ x. x.id) vs → map (λ x. Some x.role) us ≡ map (λ x. Some x.role) vs → map (λ x. Some x.kind) us ≡ map (λ x. Some x.kind) vs → us ≡ vs
members_one [] [] e f k = refl
members_one [] (v ∷ vs) e f k = cc
members_one (u ∷ us) [] e f k = cc
members_one (u ∷ us) (v ∷ vs) e f k =
    let id : u.id ≡ v.id = cc in
    let role : u.role ≡ v.role = cc in
    let kind : u.kind ≡ v.kind = cc in
    let ids : map (λ x. x.id) us ≡ map (λ x. x.id) vs = cc in
    let roles : map (λ x. Some x.role) us ≡ map (λ x. Some x.role) vs = cc in
    let kinds : map (λ x. Some x.kind) us ≡ map (λ x. Some x.kind) vs = cc in
    ap (λ x. record { kind = x; id = u.id; role = u.role } ∷ us) kind ∙ ap (λ x. record { kind = v.kind; id = x; role = u.role } ∷ us) id
    ∙ ap (λ x. record { kind = v.kind; id = v.id; role = x } ∷ us) role ∙ ap (λ l. v ∷ l) (members_one us vs ids roles kinds)

pub RelationOf-unique : (b : Context) (v w : RelationValue) (m : RelationMessage) → RelationOf b v m → RelationOf b w m → v ≡ w
RelationOf-unique b v w m g h =
    ap (λ x. record { id = x; members = v.members; tags = v.tags; info = v.info }) (some_one _ _ (g.id_is ∙ sym h.id_is))
    ∙ ap (λ x. record { id = w.id; members = x; tags = v.tags; info = v.info })
    (members_one v.members w.members (Diff-unique _ _ m.memids g.memids_are h.memids_are) (g.roles_are ∙ sym h.roles_are) (g.types_are ∙ sym h.types_are))
    ∙ ap (λ x. record { id = w.id; members = w.members; tags = x; info = v.info }) (TagsAt-unique b.table v.tags w.tags m.keys m.vals g.tags_are h.tags_are)
    ∙ ap (λ x. record { id = w.id; members = w.members; tags = w.tags; info = x }) (InfoOf-unique b v.info w.info m.info g.info_is h.info_is)

-- lists joined of parts that are unique are unique
pub Joins-unique : {A B : Type 0} (R : List A → B → Type 0) → ((xs ys : List A) (z : B) → R xs z → R ys z → xs ≡ ys) → (es fs : List A) (zs : List B) → Joins R es zs → Joins R fs zs → es ≡ fs
Joins-unique R one es fs [] g h = g ∙ sym h
Joins-unique R one es fs (z ∷ zs) g h =
    g.2 ∙ ap (λ l. l ++ g.1) (one g.0 h.0 z g.3 h.3) ∙ ap (λ l. h.0 ++ l) (Joins-unique R one g.1 h.1 zs g.4 h.4) ∙ sym h.2

-- ---- dense tags: joined pairs are split again

pub pairs_of-joined : (ts : List (List Pair)) → AllByRecursion KeysAreNotZero ts → pairs_of (length ts) (flat_map pairs_and_zero ts) ≡ Some ts
pairs_of-joined [] h = refl
pairs_of-joined ([] ∷ ts) h = ap (option_map (λ us. [] ∷ us)) (pairs_of-joined ts h.1)
pairs_of-joined (((pos zero, v) ∷ ps) ∷ ts) h = absurd (h.0.0 refl)
pairs_of-joined (((pos (suc k), v) ∷ ps) ∷ ts) h = ap (option_map (with_pair (pos (suc k), v))) (pairs_of-joined (ps ∷ ts) (h.0.1, h.1))
pairs_of-joined (((negsuc k, v) ∷ ps) ∷ ts) h = ap (option_map (with_pair (negsuc k, v))) (pairs_of-joined (ps ∷ ts) (h.0.1, h.1))
