-- Pieces of the lines of commands, joined.
use Rattle.std.proofs.Common.{◌≡◌, ℕ, ℤ, ◌<◌, ◌≤◌, ◌/◌, ◌%◌, ◌==◌, ◌||◌, ◌⊎◌, nat_lt, true, List, [], ◌∷◌, ◌++◌, length, inl, inr, refl, append_assoc}
use Rattle.std.proofs.lemmas.Bool.{le-ltb, lt-ltb, ne_eqb}
use Rattle.std.specs.Prelude.{codes}
use Rattle.std.specs.Fmt.{decimal, signed_decimal}
use Rattle.std.specs.List.{flat_map}
use Rattle.osm_reading.proofs.FaultLines.{four, three}
use Rattle.osm_value.specs.Value.{Text}
use Rattle.osm_block.specs.declared.header.BBox.{BBox}
use Rattle.pbfrow_reading.specs.Checking.{totals_line}
use Rattle.osm_value.specs.Escape.{escaped, hex_digit}
use Rattle.pbfrow_reading.specs.Listing.{byte_text, frame_line}
use Rattle.pbf_frame.specs.declared.ranges.Range.{Range}
use Rattle.pbfrow_reading.specs.Ranging.{range_line}
use Rattle.pbfrow_reading.specs.Showing.{blob_line, box_line, number_line, text_line}
use Rattle.pbfrow_reading.specs.declared.check.Counts.{Counts}

six : (b p q r s t u : List ℕ) → (((((b ++ p) ++ q) ++ r) ++ s) ++ t) ++ u ≡ b ++ (((((p ++ q) ++ r) ++ s) ++ t) ++ u)
six b p q r s t u = simp append_assoc

seven : (b p q r s t u v : List ℕ) → ((((((b ++ p) ++ q) ++ r) ++ s) ++ t) ++ u) ++ v ≡ b ++ ((((((p ++ q) ++ r) ++ s) ++ t) ++ u) ++ v)
seven b p q r s t u v = simp append_assoc

pub range_parts : (before : List ℕ) (range : Range) → (((before ++ decimal range.from) ++ codes " ") ++ decimal range.to) ++ codes "\n" ≡ before ++ range_line range
range_parts before range = four before (decimal range.from) (codes " ") (decimal range.to) (codes "\n")

-- a byte of a type
is-escaped : (b : ℕ) → (b < 33) ⊎ ((33 ≤ b × 126 < b) ⊎ (33 ≤ b × b ≤ 126 × b ≡ 37)) → (nat_lt b 33 || nat_lt 126 b || b == 37) ≡ true
is-escaped b (inl p) = rw (lt-ltb b 33 p) refl
is-escaped b (inr (inl p)) = rw (le-ltb b 33 p.0, lt-ltb 126 b p.1) refl
is-escaped b (inr (inr p)) = rw p.2 refl

pub escaped_byte : (b high low : ℕ) → (b < 33) ⊎ ((33 ≤ b × 126 < b) ⊎ (33 ≤ b × b ≤ 126 × b ≡ 37)) → high ≡ hex_digit (b / 16) → low ≡ hex_digit (b % 16) → 37 ∷ high ∷ low ∷ [] ≡ byte_text b
escaped_byte b high low test h l = rw (is-escaped b test, h, l) refl

pub plain_byte : (b : ℕ) → 33 ≤ b → b ≤ 126 → (b ≡ 37 → ⊥) → b ∷ [] ≡ byte_text b
plain_byte b p q r = rw (le-ltb b 33 p, le-ltb 126 b q, ne_eqb b 37 r) refl

pub frame_parts : (before : List ℕ) (at : ℕ) (type blob : List ℕ) → (((((before ++ decimal at) ++ codes " ") ++ flat_map byte_text type) ++ codes " ") ++ decimal (length blob)) ++ codes "\n" ≡ before ++ frame_line at type blob
frame_parts before at type blob = six before (decimal at) (codes " ") (flat_map byte_text type) (codes " ") (decimal (length blob)) (codes "\n")

pub blob_parts : (before : List ℕ) (at : ℕ) (type : List ℕ) (len : ℕ)
    → ((((((before ++ codes "blob ") ++ decimal at) ++ codes " ") ++ flat_map byte_text type) ++ codes " ") ++ decimal len) ++ codes "\n" ≡ before ++ blob_line at type len
blob_parts before at type len = seven before (codes "blob ") (decimal at) (codes " ") (flat_map byte_text type) (codes " ") (decimal len) (codes "\n")

pub text_parts : (before label : List ℕ) (text : Text) → ((before ++ label) ++ escaped text) ++ codes "\n" ≡ before ++ text_line label text
text_parts before label text = three before label (escaped text) (codes "\n")

pub number_parts : (before label : List ℕ) (written number : ℤ) → written ≡ number → ((before ++ label) ++ signed_decimal written) ++ codes "\n" ≡ before ++ number_line label number
number_parts before label written number same = rw same (three before label (signed_decimal number) (codes "\n"))

pub eight : (b p q r s t u v w : List ℕ) → (((((((b ++ p) ++ q) ++ r) ++ s) ++ t) ++ u) ++ v) ++ w ≡ b ++ (((((((p ++ q) ++ r) ++ s) ++ t) ++ u) ++ v) ++ w)
eight b p q r s t u v w = simp append_assoc

nine : (b p q r s t u v w x : List ℕ) → ((((((((b ++ p) ++ q) ++ r) ++ s) ++ t) ++ u) ++ v) ++ w) ++ x ≡ b ++ ((((((((p ++ q) ++ r) ++ s) ++ t) ++ u) ++ v) ++ w) ++ x)
nine b p q r s t u v w x = simp append_assoc

pub box_parts : (before : List ℕ) (left right top bottom : ℤ) (b : BBox) → left ≡ b.left → right ≡ b.right → top ≡ b.top → bottom ≡ b.bottom
    → ((((((((before ++ codes "bbox ") ++ signed_decimal left) ++ codes " ") ++ signed_decimal right) ++ codes " ") ++ signed_decimal top) ++ codes " ") ++ signed_decimal bottom) ++ codes "\n" ≡ before ++ box_line b
box_parts before left right top bottom b e1 e2 e3 e4 = rw (e1, e2, e3, e4)
    (nine before (codes "bbox ") (signed_decimal b.left) (codes " ") (signed_decimal b.right) (codes " ") (signed_decimal b.top) (codes " ") (signed_decimal b.bottom) (codes "\n"))

totals : (b k l m n o p q r s t u : List ℕ) → (((((b ++ (k ++ l)) ++ (m ++ n)) ++ (o ++ p)) ++ (q ++ r)) ++ (s ++ t)) ++ u ≡ b ++ ((((((((((k ++ l) ++ m) ++ n) ++ o) ++ p) ++ q) ++ r) ++ s) ++ t) ++ u)
totals b k l m n o p q r s t u = simp append_assoc

pub totals_parts : (before : List ℕ) (c : Counts)
    → (((((before ++ (codes "blobs " ++ decimal c.blobs)) ++ (codes " nodes " ++ decimal c.nodes)) ++ (codes " ways " ++ decimal c.ways)) ++ (codes " relations " ++ decimal c.relations)) ++ (codes " faults " ++ decimal c.faults)) ++ codes "\n"
    ≡ before ++ totals_line c
totals_parts before c =
    totals before (codes "blobs ") (decimal c.blobs) (codes " nodes ") (decimal c.nodes) (codes " ways ") (decimal c.ways) (codes " relations ") (decimal c.relations) (codes " faults ") (decimal c.faults) (codes "\n")
