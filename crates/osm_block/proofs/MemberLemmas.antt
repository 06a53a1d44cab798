-- The members of a relation, one after the other.
use Rattle.std.proofs.Common.{◌≡◌, ℕ, zero, suc, ◌+◌, ◌<◌, ◌≤◌, List, [], ◌∷◌, ◌++◌, map, length, take, get_or, refl, sym, ap, subst, ◌∙◌, ℤ, Some, None, Bool, true, false, ◌&&◌, not, arith}
use Rattle.std.specs.List.{list_all, AllByRecursion}
use Rattle.std.proofs.lemmas.List.{take_more, map-append, take_all}
use Rattle.std.proofs.lemmas.List.Folds.{list_all-append}
use Rattle.pbf_wire.specs.Readings.{int32}
use Rattle.osm_value.specs.Value.{Text, MemberValue}
use Rattle.osm_value.specs.Ranges.{IsMember}
use Rattle.osm_block.specs.declared.fault.BlockFault.TheVariants as faults
use Rattle.osm_block.specs.Block.{text_at, kind}
use Rattle.osm_block.specs.Members.{MembersAt}
use Rattle.osm_block.specs.Phases.{when}
use Rattle.osm_block.proofs.IndexesLemmas.{and_left, and_right}

pub all_at : {A : Type 0} (p : A → Bool) (xs : List A) (i : ℕ) (d : A) → list_all p xs ≡ true → i < length xs → p (get_or xs i d) ≡ true
all_at p [] i d h inside = absurd (omega arith)
all_at p (x ∷ xs) zero d h inside = and_left (p x) (list_all p xs) h
all_at p (x ∷ xs) (suc i) d h inside = all_at p xs i d (and_right (p x) (list_all p xs) h) (omega arith)

all_joined : {A : Type 0} (P : A → Type 0) (xs : List A) (x : A) → AllByRecursion P xs → P x → AllByRecursion P (xs ++ x ∷ [])
all_joined P [] x h g = (g, tt)
all_joined P (y ∷ ys) x h g = (h.0, all_joined P ys x h.1 g)

one_more : {A M C : Type 0} (get : A → C) (read : M → C) (meaning : ℕ → M) (xs ys : List A) (x : A) (bs : List ℕ) (i : ℕ) → ys ≡ xs ++ x ∷ [] → i < length bs →
    get x ≡ read (meaning (get_or bs i 0)) → map get xs ≡ map read (map meaning (take i bs)) → map get ys ≡ map read (map meaning (take (i + 1) bs))
one_more get read meaning xs ys x bs i pushed inside here e =
    ap (map get) pushed ∙ map-append get xs (x ∷ []) ∙ ap (λ l. l ++ get x ∷ []) e
    ∙ ap (λ t. map read (map meaning (take i bs)) ++ t ∷ []) here
    ∙ sym (map-append read (map meaning (take i bs)) (meaning (get_or bs i 0) ∷ []))
    ∙ sym (ap (map read) (map-append meaning (take i bs) (get_or bs i 0 ∷ [])))
    ∙ sym (ap (λ l. map read (map meaning l)) (take_more bs i 0 inside))

one_more_id : (xs ys : List MemberValue) (x : MemberValue) (ids : List ℤ) (i : ℕ) (d : ℤ) → ys ≡ xs ++ x ∷ [] → i < length ids →
    x.id ≡ get_or ids i d → map (λ m. m.id) xs ≡ take i ids → map (λ m. m.id) ys ≡ take (i + 1) ids
one_more_id xs ys x ids i d pushed inside here e =
    ap (map (λ m. m.id)) pushed ∙ map-append (λ m. m.id) xs (x ∷ []) ∙ ap (λ l. l ++ x.id ∷ []) e
    ∙ ap (λ t. take i ids ++ t ∷ []) here ∙ sym (take_more ids i d inside)

pub member_added : (table : List Text) (xs ys : List MemberValue) (x : MemberValue) (ids : List ℤ) (roles types : List ℕ) (i : ℕ) (d : ℤ) → ys ≡ xs ++ x ∷ [] →
    i < length ids → i < length roles → i < length types → x.id ≡ get_or ids i d → Some x.role ≡ text_at table (int32 (get_or roles i 0)) → Some x.kind ≡ kind (int32 (get_or types i 0)) → IsMember x →
    MembersAt table xs (take i ids) (map int32 (take i roles)) (map int32 (take i types)) → MembersAt table ys (take (i + 1) ids) (map int32 (take (i + 1) roles)) (map int32 (take (i + 1) types))
member_added table xs ys x ids roles types i d pushed in_ids in_roles in_types id role is_kind range h = record {
  ids_are = one_more_id xs ys x ids i d pushed in_ids id h.ids_are;
  roles_are = one_more (λ m. Some m.role) (text_at table) int32 xs ys x roles i pushed in_roles role h.roles_are;
  types_are = one_more (λ m. Some m.kind) kind int32 xs ys x types i pushed in_types is_kind h.types_are;
  in_range = subst (λ l. AllByRecursion IsMember l) (sym pushed) (all_joined IsMember xs x h.in_range range);
}

pub all_more : (p : ℤ → Bool) (bs : List ℕ) (i : ℕ) → i < length bs → p (int32 (get_or bs i 0)) ≡ true → list_all p (map int32 (take i bs)) ≡ true → list_all p (map int32 (take (i + 1) bs)) ≡ true
all_more p bs i inside here before =
    let one : list_all p (int32 (get_or bs i 0) ∷ []) ≡ true = ap (λ b. b && true) here in
    ap (λ l. list_all p (map int32 l)) (take_more bs i 0 inside)
    ∙ ap (list_all p) (map-append int32 (take i bs) (get_or bs i 0 ∷ []))
    ∙ list_all-append p (map int32 (take i bs)) (int32 (get_or bs i 0) ∷ [])
    ∙ ap (λ b. b && list_all p (int32 (get_or bs i 0) ∷ [])) before ∙ one

false_of : (b : Bool) → (b ≡ true → ⊥) → b ≡ false
false_of true h = absurd (h refl)
false_of false h = refl

all_mapped : (p : ℤ → Bool) (bs : List ℕ) → list_all p (map int32 bs) ≡ true → list_all (λ n. p (int32 n)) bs ≡ true
all_mapped p [] h = refl
all_mapped p (b ∷ bs) h = ap (λ x. x && list_all (λ n. p (int32 n)) bs) (and_left (p (int32 b)) (list_all p (map int32 bs)) h) ∙ all_mapped p bs (and_right (p (int32 b)) (list_all p (map int32 bs)) h)

-- one number that fails the test
pub not_all : (p : ℤ → Bool) (bs : List ℕ) (i : ℕ) → i < length bs → p (int32 (get_or bs i 0)) ≡ false → list_all p (map int32 bs) ≡ false
not_all p bs i inside fails = false_of (list_all p (map int32 bs)) (λ e.
    let yes : p (int32 (get_or bs i 0)) ≡ true = all_at (λ n. p (int32 n)) bs i 0 (all_mapped p bs e) inside in
    let no_way : true ≡ false = sym yes ∙ fails in cc)

-- all of them
pub members_whole : (table : List Text) (ms : List MemberValue) (ids : List ℤ) (roles types : List ℕ) (i : ℕ) → length ids ≤ i → length roles ≡ length ids → length types ≡ length ids →
    MembersAt table ms (take i ids) (map int32 (take i roles)) (map int32 (take i types)) → MembersAt table ms ids (map int32 roles) (map int32 types)
members_whole table ms ids roles types i far er et h =
    let a : take i ids ≡ ids = take_all i ids (omega arith) in
    let b : take i roles ≡ roles = take_all i roles (omega arith) in
    let c : take i types ≡ types = take_all i types (omega arith) in
    record {
      ids_are = h.ids_are ∙ a;
      roles_are = h.roles_are ∙ ap (λ l. map (text_at table) (map int32 l)) b;
      types_are = h.types_are ∙ ap (λ l. map kind (map int32 l)) c;
      in_range = h.in_range;
    }

pub kinds_whole : (p : ℤ → Bool) (types : List ℕ) (i : ℕ) → length types ≤ i → list_all p (map int32 (take i types)) ≡ true → when (not (list_all p (map int32 types))) faults.BadMemberType ≡ None
kinds_whole p types i far h =
    let c : take i types ≡ types = take_all i types (omega arith) in
    ap (λ l. when (not (list_all p (map int32 l))) faults.BadMemberType) (sym c) ∙ ap (λ b. when (not b) faults.BadMemberType) h

pub kinds_stop : (p : ℤ → Bool) (types : List ℕ) (i : ℕ) → i < length types → p (int32 (get_or types i 0)) ≡ false → when (not (list_all p (map int32 types))) faults.BadMemberType ≡ Some faults.BadMemberType
kinds_stop p types i inside fails = ap (λ b. when (not b) faults.BadMemberType) (not_all p types i inside fails)
