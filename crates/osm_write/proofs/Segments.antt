-- A message as segments: the fields of one number, and their bytes.
use Rattle.std.proofs.Common.{◌≡◌, ℕ, ◌^◌, ◌<◌, ◌==◌, eqb, List, [], ◌∷◌, ◌++◌, length, refl, ap, Bool, true, false, cond, ◌∙◌, sym, append_assoc, append-nil, Option, Some, None, map, eq-eqb}
use Rattle.std.specs.Prelude.{option_to_list, IsNone}
use Rattle.std.specs.List.{AllByRecursion, flat_map}
use Rattle.std.proofs.lemmas.List.Elements.{filter_map-append}
use Rattle.pbf_wire.specs.Field.{Content, Entry, Fields, is_field_number}
use Rattle.pbf_wire.specs.Readings.{fields, wire, numbers, packed, number_of, bytes_of, numbers_of, fitting, each, nums, last}
use Rattle.pbf_wire.proofs.ReadingLaws.{list_read}
use Rattle.osm_write.specs.Canon.{number, number_field, bytes_field, message_field, optional}
use Rattle.osm_write.proofs.Pieces.{number_starts, number_entry, bytes_entry, number_field_spelled, bytes_field_spelled, one_field, fields_join, numbers_read, packed_read}

pub record Segment : Type 0 where
  pub number : ℕ
  pub entries : List Entry
  pub bytes : List ℕ

-- the entries are of the segment's number, and the bytes are theirs
pub record IsSegment (s : Segment) : Type 0 where
  pub spelled : Fields s.entries s.bytes
  pub only : AllByRecursion (λ (f : Entry). f.number ≡ s.number) s.entries

abbrev pub entries_of : List Segment → List Entry
entries_of ss = flat_map (λ (s : Segment). s.entries) ss

abbrev pub bytes_in : List Segment → List ℕ
bytes_in ss = flat_map (λ (s : Segment). s.bytes) ss

abbrev pub entries_at : ℕ → List Segment → List Entry
entries_at k ss = flat_map (λ (s : Segment). cond (s.number == k) s.entries []) ss

spelled_all : (ss : List Segment) → AllByRecursion IsSegment ss → Fields (entries_of ss) (bytes_in ss)
spelled_all [] all = refl
spelled_all (s ∷ ss) all = fields_join s.entries (entries_of ss) s.bytes (bytes_in ss) all.0.spelled (spelled_all ss all.1)

-- the bytes are a field list, and which
pub record IsMessage (es : List Entry) (w : List ℕ) : Type 0 where
  pub sound : wire w ≡ None
  pub fields_are : fields w ≡ es

pub message_read : (ss : List Segment) (w : List ℕ) → w ≡ bytes_in ss → AllByRecursion IsSegment ss → IsMessage (entries_of ss) w
message_read ss w is all = let a = list_read (entries_of ss) (bytes_in ss) (spelled_all ss all) in rw is (record { sound = a.0; fields_are = a.1 })

module _ {A : Type 0} where
  fitting_append : (read : Content → Option A) (k : ℕ) (xs ys : List Entry) → fitting read k (xs ++ ys) ≡ fitting read k xs ++ fitting read k ys
  fitting_append read k xs ys = filter_map-append _ xs ys

  none_fit : (read : Content → Option A) (j k : ℕ) (es : List Entry) → AllByRecursion (λ (f : Entry). f.number ≡ j) es → eqb j k ≡ false → fitting read k es ≡ []
  none_fit read j k [] all apart = refl
  none_fit read j k (f ∷ es) all apart = let is : f.number ≡ j = all.0 in rw (is, apart) (none_fit read j k es all.1 apart)

  -- a field of a message is read from the segments of its number
  pub fitting_read : (read : Content → Option A) (k : ℕ) (ss : List Segment) → AllByRecursion IsSegment ss → fitting read k (entries_of ss) ≡ fitting read k (entries_at k ss)
  fitting_read read k [] all = refl
  fitting_read read k (s ∷ ss) all =
      fitting_append read k s.entries (entries_of ss) ∙ ap (λ x. fitting read k s.entries ++ x) (fitting_read read k ss all.1)
      ∙ by (eqb s.number k) refl
    where
      by : (c : Bool) → eqb s.number k ≡ c → fitting read k s.entries ++ fitting read k (entries_at k ss) ≡ fitting read k (cond c s.entries [] ++ entries_at k ss)
      by true e = sym (fitting_append read k s.entries (entries_at k ss))
      by false e = rw (none_fit read s.number k s.entries all.0.only e) refl

-- ---- kinds of segments

abbrev pub number_segment : ℕ → ℕ → Segment
number_segment k n = record { number = k; entries = number_entry k n ∷ []; bytes = number_field k n }

abbrev pub optional_entries : ℕ → Option ℕ → List Entry
optional_entries k None = []
optional_entries k (Some n) = number_entry k n ∷ []

abbrev pub optional_segment : ℕ → Option ℕ → Segment
optional_segment k o = record { number = k; entries = optional_entries k o; bytes = optional (number_field k) o }

abbrev pub message_entries : ℕ → List ℕ → List Entry
message_entries k [] = []
message_entries k (b ∷ bs) = bytes_entry k (b ∷ bs) ∷ []

abbrev pub message_segment : ℕ → List ℕ → Segment
message_segment k bs = record { number = k; entries = message_entries k bs; bytes = message_field k bs }

abbrev pub repeated_segment : ℕ → List (List ℕ) → Segment
repeated_segment k bss = record { number = k; entries = map (bytes_entry k) bss; bytes = flat_map (bytes_field k) bss }

module _ (k : ℕ) (is_number : is_field_number k ≡ true) (small : k < 2 ^ 29) where
  pub is_number_segment : (n : ℕ) → n < 2 ^ 64 → IsSegment (number_segment k n)
  is_number_segment n fits = record { spelled = one_field (number_entry k n) (number_field k n) (number_field_spelled k n is_number small fits); only = (refl, tt) }

  pub is_optional_segment : (o : Option ℕ) → AllByRecursion (λ n. n < 2 ^ 64) (option_to_list o) → IsSegment (optional_segment k o)
  is_optional_segment None fits = record { spelled = refl; only = tt }
  is_optional_segment (Some n) fits = record { spelled = one_field (number_entry k n) (number_field k n) (number_field_spelled k n is_number small fits.0); only = (refl, tt) }

  pub is_message_segment : (bs : List ℕ) → length bs < 2 ^ 64 → IsSegment (message_segment k bs)
  is_message_segment [] short = record { spelled = refl; only = tt }
  is_message_segment (b ∷ bs) short = record { spelled = one_field (bytes_entry k (b ∷ bs)) (bytes_field k (b ∷ bs)) (bytes_field_spelled k (b ∷ bs) is_number small short); only = (refl, tt) }

  repeated_spelled : (bss : List (List ℕ)) → AllByRecursion (λ (bs : List ℕ). length bs < 2 ^ 64) bss → Fields (map (bytes_entry k) bss) (flat_map (bytes_field k) bss)
  repeated_spelled [] short = refl
  repeated_spelled (bs ∷ bss) short =
      fields_join (bytes_entry k bs ∷ []) (map (bytes_entry k) bss) (bytes_field k bs) (flat_map (bytes_field k) bss)
      (one_field (bytes_entry k bs) (bytes_field k bs) (bytes_field_spelled k bs is_number small short.0)) (repeated_spelled bss short.1)

  repeated_only : (bss : List (List ℕ)) → AllByRecursion (λ (f : Entry). f.number ≡ k) (map (bytes_entry k) bss)
  repeated_only [] = tt
  repeated_only (bs ∷ bss) = (refl, repeated_only bss)

  pub is_repeated_segment : (bss : List (List ℕ)) → AllByRecursion (λ (bs : List ℕ). length bs < 2 ^ 64) bss → IsSegment (repeated_segment k bss)
  is_repeated_segment bss short = record { spelled = repeated_spelled bss short; only = repeated_only bss }

-- ---- what they are read as

same : (k : ℕ) → eqb k k ≡ true
same k = eq-eqb k k refl

pub optional_last : (k : ℕ) (o : Option ℕ) → last (optional_entries k o) k ≡ o
optional_last k None = refl
optional_last k (Some n) = rw (same k) refl

pub number_last : (k n : ℕ) → last (number_entry k n ∷ []) k ≡ Some n
number_last k n = rw (same k) refl

-- the payloads of an array or of a message
abbrev pub payloads_of : List ℕ → List (List ℕ)
payloads_of [] = []
payloads_of (b ∷ bs) = (b ∷ bs) ∷ []

pub message_each : (k : ℕ) (bs : List ℕ) → each (message_entries k bs) k ≡ payloads_of bs
message_each k [] = refl
message_each k (b ∷ bs) = rw (same k) refl

pub repeated_each : (k : ℕ) (bss : List (List ℕ)) → each (map (bytes_entry k) bss) k ≡ bss
repeated_each k [] = refl
repeated_each k (bs ∷ bss) = rw (same k) (ap (λ x. bs ∷ x) (repeated_each k bss))

no_fields : fields [] ≡ []
no_fields = (list_read [] [] refl).1

pub message_sub : (bs : List ℕ) → flat_map fields (payloads_of bs) ≡ fields bs
message_sub [] = sym no_fields
message_sub (b ∷ bs) = append-nil (fields (b ∷ bs))

message_nums : (k : ℕ) (bs : List ℕ) → nums (message_entries k bs) k ≡ flat_map numbers (payloads_of bs)
message_nums k [] = refl
message_nums k (b ∷ bs) = rw (same k) refl

-- an array stands in its segment, and its payloads are packed arrays
pub record IsPacked (es : List Entry) (k : ℕ) (ns : List ℕ) : Type 0 where
  pub nums_are : nums es k ≡ ns
  pub sound : AllByRecursion IsNone (map packed (each es k))

packed_is : (k : ℕ) (ns : List ℕ) → AllByRecursion (λ n. n < 2 ^ 64) ns → IsPacked (message_entries k (flat_map number ns)) k ns
packed_is k [] fit = record { nums_are = refl; sound = tt }
packed_is k (n ∷ ns) fit =
    let s = number_starts n in
    let e : flat_map number (n ∷ ns) ≡ s.0 ∷ (s.1 ++ flat_map number ns) = rw s.2 refl in
    let one : payloads_of (flat_map number (n ∷ ns)) ≡ flat_map number (n ∷ ns) ∷ [] = rw e refl in
    let sound : packed (flat_map number (n ∷ ns)) ≡ None = packed_read (n ∷ ns) fit in
    record {
      nums_are = message_nums k (flat_map number (n ∷ ns)) ∙ rw one (append-nil (numbers (flat_map number (n ∷ ns))) ∙ numbers_read (n ∷ ns) fit);
      sound = rw (message_each k (flat_map number (n ∷ ns)), one, sound) (refl, tt);
    }

-- ---- segments of a message

module _ (ss : List Segment) (all : AllByRecursion IsSegment ss) (k : ℕ) (es : List Entry) (here : entries_at k ss ≡ es) where
  pub fitting_at : {A : Type 0} (read : Content → Option A) → fitting read k (entries_of ss) ≡ fitting read k es
  fitting_at read = fitting_read read k ss all ∙ ap (λ (x : List Entry). fitting read k x) here

  pub last_at : last (entries_of ss) k ≡ last es k
  last_at = rw (fitting_at number_of) refl

  pub each_at : each (entries_of ss) k ≡ each es k
  each_at = fitting_at bytes_of

  pub nums_at : nums (entries_of ss) k ≡ nums es k
  nums_at = rw (fitting_at numbers_of) refl

pub packed_at : (ss : List Segment) → AllByRecursion IsSegment ss → (k : ℕ) (ns : List ℕ) → entries_at k ss ≡ message_entries k (flat_map number ns) → AllByRecursion (λ n. n < 2 ^ 64) ns
    → IsPacked (entries_of ss) k ns
packed_at ss all k ns here fit =
    let p = packed_is k ns fit in
    record {
      nums_are = nums_at ss all k (message_entries k (flat_map number ns)) here ∙ p.nums_are;
      sound = rw (each_at ss all k (message_entries k (flat_map number ns)) here) p.sound;
    }

-- parts that are written one after the other
pub five_parts : (a b c d e : List ℕ) → a ++ b ++ c ++ d ++ e ≡ a ++ (b ++ (c ++ (d ++ (e ++ []))))
five_parts a b c d e = simp (append_assoc, append-nil)

pub six_parts : (a b c d e f : List ℕ) → a ++ b ++ c ++ d ++ e ++ f ≡ a ++ (b ++ (c ++ (d ++ (e ++ (f ++ [])))))
six_parts a b c d e f = simp (append_assoc, append-nil)
