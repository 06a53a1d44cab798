-- The first phase of a relation that stands, where the ones before it don't.
use Rattle.std.proofs.Common.{◌≡◌, Bool, true, false, not, ◌&&◌, ◌==◌, refl, sym, ap, subst, ◌∙◌, ℤ, ℕ, List, [], ◌∷◌, ◌++◌, map, length, Some, None, is_none, eqb-true}
use Rattle.std.specs.Prelude.{is_some}
use Rattle.std.specs.List.{list_all}
use Rattle.std.proofs.lemmas.List.{length-map}
use Rattle.pbf_wire.specs.Readings.{uint32, int32, sint64}
use Rattle.osm_value.specs.Value.{Text, MemberValue}
use Rattle.osm_value.specs.Ranges.{is_wide, passes}
use Rattle.osm_block.specs.declared.fault.BlockFault.TheVariants as faults
use Rattle.osm_block.specs.Message.{Context, RelationMessage}
use Rattle.osm_block.specs.Block.{kind}
use Rattle.osm_block.specs.Members.{MembersAt}
use Rattle.osm_block.specs.Differences.{Diff, front_sums, fits_i64}
use Rattle.osm_block.specs.Phases.{Phase, first, when, relation_phases, same_length, info_in_range, all_in, user_indexes, is_index}
use Rattle.osm_block.proofs.IndexesLemmas.{and_left, and_right}
use Rattle.osm_block.proofs.DifferencesLemmas.{Diff-are_sums, Diff-as_long}
use Rattle.osm_block.proofs.PhaseLemmas.{skip, pass, stop}

abbrev pub lengths : RelationMessage → Bool
lengths m = same_length m.keys m.vals && same_length m.roles_sid m.memids && same_length m.types m.memids

abbrev pub relations_range : Context → RelationMessage → Bool
relations_range b m = passes is_wide m.id && list_all is_wide (front_sums m.memids) && info_in_range b m.info

abbrev pub indexes : RelationMessage → List ℤ
indexes m = m.keys ++ m.vals ++ m.roles_sid ++ user_indexes m.info

abbrev pub kinds_known : RelationMessage → Bool
kinds_known m = list_all (λ t. is_some (kind t)) m.types

-- what is known of a relation once the ids of its members are taken
pub record RelationRead (b : Context) (m : RelationMessage) (id : ℤ) (memids : List ℤ) : Type 0 where
  pub there : m.id ≡ Some id
  pub even : lengths m ≡ true
  pub sums : when (not (list_all fits_i64 (front_sums m.memids))) faults.SumTooLarge ≡ None
  pub diff : Diff memids m.memids

pub three : (a b c : Bool) → (a && b && c) ≡ true → (a ≡ true) × (b ≡ true) × (c ≡ true)
three a b c h =
    let two = and_left (a && b) c h in
    (and_left a b two, and_right a b two, and_right (a && b) c h)

same_mapped : {A B : Type 0} (f : ℕ → A) (g : ℕ → B) (xs ys : List ℕ) → (length xs == length ys) ≡ (length (map f xs) == length (map g ys))
same_mapped f g xs ys = ap (λ n. n == length ys) (sym (length-map xs f)) ∙ ap (λ n. length (map f xs) == n) (sym (length-map ys g))

pub lengths_are : (ks vs rs ms ts : List ℕ) → (length ks == length vs && length rs == length ms && length ts == length ms) ≡
    (same_length (map uint32 ks) (map uint32 vs) && same_length (map int32 rs) (map sint64 ms) && same_length (map int32 ts) (map sint64 ms))
lengths_are ks vs rs ms ts =
    ap (λ x. x && length rs == length ms && length ts == length ms) (same_mapped uint32 uint32 ks vs)
    ∙ ap (λ x. same_length (map uint32 ks) (map uint32 vs) && x && length ts == length ms) (same_mapped int32 sint64 rs ms)
    ∙ ap (λ x. same_length (map uint32 ks) (map uint32 vs) && same_length (map int32 rs) (map sint64 ms) && x) (same_mapped int32 sint64 ts ms)

pub Diff-length : (vs : List ℤ) (ds : List ℕ) → Diff vs (map sint64 ds) → length ds ≡ length vs
Diff-length vs ds h = sym (length-map ds sint64) ∙ sym (Diff-as_long vs (map sint64 ds) h)

pub as_long : (xs ms : List ℕ) (ids : List ℤ) → (length xs == length ms) ≡ true → Diff ids (map sint64 ms) → length xs ≡ length ids
as_long xs ms ids e h = eqb-true (length xs) (length ms) e ∙ Diff-length ids ms h

late : (b : Context) (m : RelationMessage) (id : ℤ) (memids : List ℤ) → RelationRead b m id memids → first (relation_phases b m) ≡
    first (when (not (relations_range b m)) faults.OutOfRange ∷ when (not (all_in b.table (indexes m))) faults.BadIndex ∷ when (not (kinds_known m)) faults.BadMemberType ∷ [])
late b m id memids r =
    skip (when (is_none m.id) faults.Missing) _ (ap (λ o. when (is_none o) faults.Missing) r.there)
    ∙ pass (lengths m) faults.LengthsDiffer _ r.even
    ∙ skip (when (not (list_all fits_i64 (front_sums m.memids))) faults.SumTooLarge) _ r.sums

pub range_is : (b : Context) (m : RelationMessage) (id : ℤ) (memids : List ℤ) (i : ℤ) (ms : List ℤ) (t : Bool) → RelationRead b m id memids → i ≡ id → ms ≡ memids →
    t ≡ (is_wide i && list_all is_wide ms && info_in_range b m.info) → t ≡ relations_range b m
range_is b m id memids i ms t r same same_ids is =
    is ∙ ap (λ w. w && list_all is_wide ms && info_in_range b m.info) (ap is_wide same ∙ ap (passes is_wide) (sym r.there))
    ∙ ap (λ w. passes is_wide m.id && w && info_in_range b m.info) (ap (list_all is_wide) (same_ids ∙ Diff-are_sums memids m.memids r.diff))

pub fails_range : (b : Context) (m : RelationMessage) (id : ℤ) (memids : List ℤ) (t : Bool) → RelationRead b m id memids → t ≡ relations_range b m → t ≡ false → first (relation_phases b m) ≡ Some faults.OutOfRange
fails_range b m id memids t r is fails = late b m id memids r ∙ stop (relations_range b m) faults.OutOfRange _ (sym is ∙ fails)

index_is : (b : Context) (m : RelationMessage) (n : ℕ) (u : Bool) → n ≡ length b.table → u ≡ list_all (is_index n) (indexes m) → u ≡ all_in b.table (indexes m)
index_is b m n u len is = is ∙ ap (λ k. list_all (is_index k) (indexes m)) len

pub fails_index : (b : Context) (m : RelationMessage) (id : ℤ) (memids : List ℤ) (t : Bool) (n : ℕ) (u : Bool) → RelationRead b m id memids → t ≡ relations_range b m → t ≡ true →
    n ≡ length b.table → u ≡ list_all (is_index n) (indexes m) → u ≡ false → first (relation_phases b m) ≡ Some faults.BadIndex
fails_index b m id memids t n u r is passed len fits fails =
    late b m id memids r ∙ pass (relations_range b m) faults.OutOfRange _ (sym is ∙ passed) ∙ stop (all_in b.table (indexes m)) faults.BadIndex _ (sym (index_is b m n u len fits) ∙ fails)

first_one : (p : Phase) → first (p ∷ []) ≡ p
first_one None = refl
first_one (Some f) = refl

pub past_index : (b : Context) (m : RelationMessage) (id : ℤ) (memids : List ℤ) (t : Bool) (n : ℕ) (u : Bool) → RelationRead b m id memids → t ≡ relations_range b m → t ≡ true →
    n ≡ length b.table → u ≡ list_all (is_index n) (indexes m) → u ≡ true → first (relation_phases b m) ≡ when (not (kinds_known m)) faults.BadMemberType
past_index b m id memids t n u r is passed len fits fine =
    late b m id memids r ∙ pass (relations_range b m) faults.OutOfRange _ (sym is ∙ passed) ∙ pass (all_in b.table (indexes m)) faults.BadIndex _ (sym (index_is b m n u len fits) ∙ fine)
    ∙ first_one (when (not (kinds_known m)) faults.BadMemberType)

pub MembersAt-along : {B : Type 0} (now : B → Text) (t u : List B) (members : List MemberValue) (ids ids' : List ℤ) (roles roles' types types' : List ℕ) → t ≡ u → ids ≡ ids' → roles ≡ roles' → types ≡ types' →
    MembersAt (map now t) members ids (map int32 roles) (map int32 types) → MembersAt (map now u) members ids' (map int32 roles') (map int32 types')
MembersAt-along {B} now t u members ids ids' roles roles' types types' et ei er ek h =
    let P : List B → Type 0 = λ l. MembersAt (map now l) members ids (map int32 roles) (map int32 types) in
    let Q : List ℤ → Type 0 = λ l. MembersAt (map now u) members l (map int32 roles) (map int32 types) in
    let R : List ℕ → Type 0 = λ l. MembersAt (map now u) members ids' (map int32 l) (map int32 types) in
    let S : List ℕ → Type 0 = λ l. MembersAt (map now u) members ids' (map int32 roles') (map int32 l) in
    subst S ek (subst R er (subst Q ei (subst P et h)))
