-- Pieces of a line, joined.
use Rattle.std.proofs.Common.{◌≡◌, ℕ, List, ◌++◌, ap, ◌∙◌, append_assoc}
use Rattle.std.specs.Prelude.{codes}
use Rattle.std.specs.Fmt.{decimal}
use Rattle.osm_reading.specs.Lines.{fault_text, fault_line}

pub three : (b x y z : List ℕ) → ((b ++ x) ++ y) ++ z ≡ b ++ ((x ++ y) ++ z)
three b x y z = simp append_assoc

pub four : (b x y z w : List ℕ) → (((b ++ x) ++ y) ++ z) ++ w ≡ b ++ (((x ++ y) ++ z) ++ w)
four b x y z w = simp append_assoc

pub five : (b p q r s t : List ℕ) → ((((b ++ p) ++ q) ++ r) ++ s) ++ t ≡ b ++ ((((p ++ q) ++ r) ++ s) ++ t)
five b p q r s t = simp append_assoc

pub fault_parts : (before : List ℕ) (number m : ℕ) (name n behind : List ℕ) → m ≡ number → n ≡ name
    → ((((before ++ codes "fault ") ++ decimal m) ++ codes " ") ++ n) ++ behind ≡ before ++ (fault_text number name ++ behind)
fault_parts before number m name n behind is named =
    ap (λ k. ((((before ++ codes "fault ") ++ decimal k) ++ codes " ") ++ n) ++ behind) is
    ∙ ap (λ (v : List ℕ). ((((before ++ codes "fault ") ++ decimal number) ++ codes " ") ++ v) ++ behind) named
    ∙ five before (codes "fault ") (decimal number) (codes " ") name behind

pub placed_parts : (before : List ℕ) (number : ℕ) (name : List ℕ) (off : ℕ)
    → ((before ++ (fault_text number name ++ codes " at ")) ++ decimal off) ++ codes "\n" ≡ before ++ fault_line number name off
placed_parts before number name off = three before (fault_text number name ++ codes " at ") (decimal off) (codes "\n")
