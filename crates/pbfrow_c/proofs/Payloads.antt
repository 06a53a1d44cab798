-- What is told of the payload of a blob.
use Rattle.std.proofs.Common.{◌≡◌, ℕ, Bool, true, false, List, [], ◌∷◌, Option, Some, None, option_map, IfSome, Ok, Err, if◌then◌else◌, unwrap_or, refl, sym, ap, subst, ◌∙◌}
use Rattle.pbf_wire.specs.Field.{Entry}
use Rattle.pbf_wire.specs.FieldList.{last_or}
use Rattle.pbf_wire.specs.Readings.{each, fields, is_there, last, last_bytes}
use Rattle.pbf_wire.proofs.ReadingLaws.{list_read}
use Rattle.pbf_frame.specs.declared.blob.BlobFault.TheVariants.{Compressed}
use Rattle.pbf_frame.specs.declared.blob.Compression.{Compression}
use Rattle.pbf_frame.specs.declared.blob.Compression.TheVariants.{Zlib, Lzma, Bzip2, Lz4, Zstd}
use Rattle.pbf_frame.specs.Blob.{IsBlobFault, Raw, compressed_in, raw_at}
use Rattle.pbfrow_c.specs.declared.blob.Payload.{Payload}
use Rattle.pbfrow_c.specs.declared.blob.Place.{Place}
use Rattle.pbfrow_c.specs.Blob.{LiesAt, Read, TellsPayload, field_of, number_of_compression, span}
use Rattle.pbfrow_c.proofs.Places.{IsWithin}

-- the bytes at a place
abbrev pub bytes_at : List ℕ → Option Place → Option (List ℕ)
bytes_at w place = option_map (λ p. span p.at p.length w) place

-- what is told of the bytes at a place
abbrev pub IsTold : Payload → Option Place → ℕ → ℕ → Type 0
IsTold p place raw_size compression = IfSome place (λ q. p ≡ record { at = q.at; length = q.length; raw_size = raw_size; compression = compression })

some_is : (x y : List ℕ) → Some x ≡ Some y → x ≡ y
some_is x y e = cc

lies : (frame bytes : List ℕ) (q : Place) (p : Payload) (n c : ℕ) → Some (span q.at q.length frame) ≡ Some bytes → IsWithin frame (Some q) → IsTold p (Some q) n c → LiesAt p bytes frame × (p.raw_size ≡ n) × (p.compression ≡ c)
lies frame bytes q p n c e within told =
    let P : Payload → Type 0 = λ x. LiesAt x bytes frame × (x.raw_size ≡ n) × (x.compression ≡ c) in
    subst P (sym told) (record { within = within; bytes_are = some_is _ bytes e }, refl, refl)

-- ---- a raw payload

pub raw_told : (b frame r : List ℕ) (place : Option Place) (p : Payload) → Raw b r → raw_at b ≡ Ok r → bytes_at frame place ≡ last_bytes (fields b) 1 → IsWithin frame place → IsTold p place 0 0 → TellsPayload (Read (raw_at b)) (fields b) frame p
raw_told b frame r place p h read found within told =
    let same : fields b ≡ h.0 = (list_read h.0 b h.1).1 in
    let here : bytes_at frame place ≡ Some r = found ∙ ap (λ (fs : List Entry). last_bytes fs 1) same ∙ h.3 in
    rw read (at_place place here within told)
  where
    at_place : (place : Option Place) → bytes_at frame place ≡ Some r → IsWithin frame place → IsTold p place 0 0 → LiesAt p r frame × (p.raw_size ≡ 0) × (p.compression ≡ 0)
    at_place (Some q) e inside is = lies frame r q p 0 0 e inside is
    at_place None e inside is = absurd cc

-- ---- a compressed one

-- the lowest of the fields that is there
abbrev pub is_chosen : Compression → Bool → Bool → Bool → Bool → Bool → Bool
is_chosen Zlib a b c d e = a
is_chosen Lzma a b c d e = b
is_chosen Bzip2 a b c d e = c
is_chosen Lz4 a b c d e = d
is_chosen Zstd a b c d e = e

chosen_there : (x : Compression) (a b c d e : Bool) → (if a then Some Zlib else if b then Some Lzma else if c then Some Bzip2 else if d then Some Lz4 else if e then Some Zstd else None) ≡ Some x → is_chosen x a b c d e ≡ true
chosen_there x true b c d e h = let same : Zlib ≡ x = cc in subst (λ (y : Compression). is_chosen y true b c d e ≡ true) same refl
chosen_there x false true c d e h = let same : Lzma ≡ x = cc in subst (λ (y : Compression). is_chosen y false true c d e ≡ true) same refl
chosen_there x false false true d e h = let same : Bzip2 ≡ x = cc in subst (λ (y : Compression). is_chosen y false false true d e ≡ true) same refl
chosen_there x false false false true e h = let same : Lz4 ≡ x = cc in subst (λ (y : Compression). is_chosen y false false false true e ≡ true) same refl
chosen_there x false false false false true h = let same : Zstd ≡ x = cc in subst (λ (y : Compression). is_chosen y false false false false true ≡ true) same refl
chosen_there x false false false false false h = absurd cc

field_there : (x : Compression) (fs : List Entry) → is_chosen x (is_there (each fs 3)) (is_there (each fs 4)) (is_there (each fs 5)) (is_there (each fs 6)) (is_there (each fs 7)) ≡ is_there (each fs (field_of x))
field_there Zlib fs = refl
field_there Lzma fs = refl
field_there Bzip2 fs = refl
field_there Lz4 fs = refl
field_there Zstd fs = refl

pub compressed_there : (x : Compression) (fs : List Entry) → compressed_in fs ≡ Some x → is_there (each fs (field_of x)) ≡ true
compressed_there x fs e = sym (field_there x fs) ∙ chosen_there x (is_there (each fs 3)) (is_there (each fs 4)) (is_there (each fs 5)) (is_there (each fs 6)) (is_there (each fs 7)) e

last_some : {A : Type 0} (x : A) (xs : List A) → last_or (Some x) xs ≡ None → ⊥
last_some x [] e = cc
last_some x (y ∷ xs) e = last_some y xs e

last_there : {A : Type 0} (xs : List A) → is_there xs ≡ true → last_or None xs ≡ None → ⊥
last_there [] there e = cc
last_there (x ∷ xs) there e = last_some x xs e

pub compressed_told : (b frame : List ℕ) (x : Compression) (place : Option Place) (p : Payload) → IsBlobFault (Compressed x) b → raw_at b ≡ Err (Compressed x) → bytes_at frame place ≡ last_bytes (fields b) (field_of x) → IsWithin frame place
    → IsTold p place (unwrap_or (last (fields b) 2) 0) (number_of_compression x) → TellsPayload (Read (raw_at b)) (fields b) frame p
compressed_told b frame x place p h read found within told =
    let same : fields b ≡ h.0 = (list_read h.0 b h.1).1 in
    let there : is_there (each (fields b) (field_of x)) ≡ true = ap (λ (fs : List Entry). is_there (each fs (field_of x))) same ∙ compressed_there x h.0 h.2 in
    rw read (at_place place found within told there)
  where
    at_place : (place : Option Place) → bytes_at frame place ≡ last_bytes (fields b) (field_of x) → IsWithin frame place → IsTold p place (unwrap_or (last (fields b) 2) 0) (number_of_compression x) → is_there (each (fields b) (field_of x)) ≡ true
        → (bytes : List ℕ) × (last_bytes (fields b) (field_of x) ≡ Some bytes) × LiesAt p bytes frame × (p.raw_size ≡ unwrap_or (last (fields b) 2) 0) × (p.compression ≡ number_of_compression x)
    at_place (Some q) e inside is some =
        let l = lies frame (span q.at q.length frame) q p (unwrap_or (last (fields b) 2) 0) (number_of_compression x) refl inside is in
        (span q.at q.length frame, sym e, l.0, l.1, l.2)
    at_place None e inside is some = absurd (last_there (each (fields b) (field_of x)) some (sym e))
