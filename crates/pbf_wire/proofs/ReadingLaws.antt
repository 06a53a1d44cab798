-- What is read from a payload against what a field list is.
use Rattle.std.proofs.Common.{◌≡◌, ℕ, List, [], ◌∷◌, ◌++◌, Some, None, Result, Ok, Err, refl, ap, inl, inr, ◌∙◌, take}
use Rattle.std.specs.Prelude.{map}
use Rattle.pbf_wire.specs.declared.fault.WireFault.{WireFault}
use Rattle.pbf_wire.specs.Field.{Entry, Fields, Wire}
use Rattle.pbf_wire.specs.FieldList.{IsWalk, items_from, all_ok, fields_of}
use Rattle.pbf_wire.specs.Readings.{front, first_fault, fields, wire}
use Rattle.pbf_wire.proofs.Choices.{ok_is, err_is, not_both, neither_both, then_ok, then_err}
use Rattle.pbf_wire.proofs.FieldListLaws.{fields_read, read_fields, wire_read, read_wire, broken}

-- ---- items that may end in a fault

pub front_is : {A : Type 0} (xs : List (Result A WireFault)) → first_fault xs ≡ None → all_ok xs ≡ Ok (front xs)
front_is [] e = refl
front_is (Ok x ∷ xs) e = rw (front_is xs e) refl
front_is (Err d ∷ xs) e = absurd cc

pub fault_is : {A : Type 0} (xs : List (Result A WireFault)) (d : WireFault) → first_fault xs ≡ Some d → all_ok xs ≡ Err d
fault_is [] d e = absurd cc
fault_is (Ok x ∷ xs) d e = rw (fault_is xs d e) refl
fault_is (Err c ∷ xs) d e = let same : c ≡ d = cc in cc

-- all of them are there
pub record AllOk {A : Type 0} (xs : List (Result A WireFault)) (ys : List A) : Type 0 where
  pub sound : first_fault xs ≡ None
  pub is_front : front xs ≡ ys
  pub listed : xs ≡ map Ok ys

pub is_front : {A : Type 0} (xs : List (Result A WireFault)) (ys : List A) → all_ok xs ≡ Ok ys → AllOk xs ys
is_front {A} [] ys e = let same : [] ≡ ys = ok_is [] ys e in record { sound = refl; is_front = same; listed = ap (λ (zs : List A). map Ok zs) same }
is_front {A} (Ok x ∷ xs) ys e =
    let a = then_ok (all_ok xs) (λ zs. Ok (x ∷ zs)) ys e in
    let rest = is_front xs a.0 a.1 in
    let same : x ∷ a.0 ≡ ys = ok_is (x ∷ a.0) ys a.2 in
    record {
      sound = rest.sound;
      is_front = ap (λ (zs : List A). x ∷ zs) rest.is_front ∙ same;
      listed = ap (λ (zs : List (Result A WireFault)). Ok x ∷ zs) rest.listed ∙ ap (λ (zs : List A). map Ok zs) same;
    }
is_front (Err d ∷ xs) ys e = neither_both ys d e

pub is_fault : {A : Type 0} (xs : List (Result A WireFault)) (d : WireFault) → all_ok xs ≡ Err d → first_fault xs ≡ Some d
is_fault [] d e = not_both [] d e
is_fault (Ok x ∷ xs) d e = elim (then_err (all_ok xs) (λ zs. Ok (x ∷ zs)) d e) [
  | inl a ↦ is_fault xs d a
  | inr a ↦ not_both (x ∷ a.0) d a.2
]
is_fault {A} (Err c ∷ xs) d e = ap Some (err_is {A = List A} c d e)

-- ---- the fields of a payload

pub fields_are : (w : List ℕ) → wire w ≡ None → fields_of w ≡ Ok (fields w)
fields_are w e = front_is (items_from 0 w) e

pub wire_is : (w : List ℕ) (fault : WireFault) → wire w ≡ Some fault → fields_of w ≡ Err fault
wire_is w fault e = fault_is (items_from 0 w) fault e

pub list_read : (fs : List Entry) (w : List ℕ) → Fields fs w → (wire w ≡ None) × (fields w ≡ fs)
list_read fs w h = let a = is_front (items_from 0 w) fs (fields_read fs w h) in (a.sound, a.is_front)

pub read_list : (w : List ℕ) → wire w ≡ None → Fields (fields w) w
read_list w e = read_fields (fields w) w (fields_are w e)

pub fault_read : (fault : WireFault) (w : List ℕ) → Wire fault w → wire w ≡ Some fault
fault_read fault w h = is_fault (items_from 0 w) fault (wire_read fault w h)

pub read_fault : (fault : WireFault) (w : List ℕ) → wire w ≡ Some fault → Wire fault w
read_fault fault w e = read_wire fault w (wire_is w fault e)

-- ---- what a walk gives

front_of : {A : Type 0} (xs : List A) (d : WireFault) → front (map Ok xs ++ Err d ∷ []) ≡ xs
front_of [] d = refl
front_of {A} (x ∷ xs) d = ap (λ (ys : List A). x ∷ ys) (front_of xs d)

-- the fields in front of a fault
pub fields_before : (fault : WireFault) (w : List ℕ) → Wire fault w → Fields (fields w) (take fault.at w)
fields_before fault w h =
    let b = broken fault w (wire_read fault w h) in
    let same : fields w ≡ b.fs = ap (λ (items : List (Result Entry WireFault)). front items) b.listed ∙ front_of b.fs fault in
    rw same b.front

walk_of : (w : List ℕ) (r : Result (List Entry) WireFault) → fields_of w ≡ r → IsWalk (items_from 0 w) w
walk_of w (Ok fs) e = inl (fs, read_fields fs w e, (is_front (items_from 0 w) fs e).listed)
walk_of w (Err fault) e = let b = broken fault w e in inr (b.fs, fault, b.high, b.front, b.stands, b.listed)

pub walked : (w : List ℕ) → IsWalk (items_from 0 w) w
walked w = walk_of w (fields_of w) refl
