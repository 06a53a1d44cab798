-- From the runs of stores to the map that holds what they hold.
use Rattle.std.proofs.Common.{◌≡◌, ℕ, zero, suc, ◌+◌, ◌<◌, Bool, List, [], ◌∷◌, ◌++◌, length, take, get_or, Some, refl, sym, ◌∙◌, ap, inl, inr, arith, append_assoc, append-nil, add-one}
use Rattle.std.specs.FinMap.{get}
use Rattle.osm_rows.specs.Held.{Blob, HeldMap, IsApart}
use Rattle.osm_rows.specs.Keeping.{extents_of}
use Rattle.osm_rows.specs.declared.keeper.Extent.{Extent}
use Rattle.osm_import.proofs.MergeLemmas.{one_map}
use Rattle.osm_parts.specs.Parts.{IsInPart, AreParts, AreApart, extents_in}
use Rattle.osm_parts.specs.Reading.{AreEach, AreRead, joined_extents}
use Rattle.osm_parts.specs.Unions.{IsUnionOf, UnionIsWhole}
use Rattle.osm_parts.specs.declared.runs.Part.{Part}
use Rattle.osm_parts.proofs.PartsLemmas.{extents-join, whole-apart}
use Rattle.osm_parts.proofs.WholeLemmas.{whole-exists}
use Rattle.osm_parts.proofs.Orders.{in-at}

in-maps : (maps : List HeldMap) (asked : Bool) (parts : List Part) (ordered : List HeldMap) (off : ℕ) (blob : Blob) → AreEach maps asked parts ordered → IsInPart ordered off blob → IsInPart maps off blob
in-maps maps asked parts [] off blob each found = absurd found
in-maps maps asked [] (run ∷ ordered) off blob each found = absurd each
in-maps maps asked (part ∷ parts) (run ∷ ordered) off blob each found = elim found [
  | inl here ↦ in-at maps part.place each.0.store off blob each.0.at (each.0.within off blob here)
  | inr later ↦ in-maps maps asked parts ordered off blob each.1 later
]

-- what holds the blobs of the runs is a union of the maps
pub union-read : (maps : List HeldMap) (asked : Bool) (parts : List Part) (whole : HeldMap) (read : AreRead maps asked parts) → AreParts read.ordered whole → IsUnionOf maps whole
union-read maps asked parts whole read are = record {
  kept = λ off blob found. (let it = read.all off blob found in (it.0, are.kept off it.0 it.1, it.2));
  only = λ off blob found. in-maps maps asked parts read.ordered off blob read.each (are.only off blob found);
}

-- and there is one
pub whole-read : (maps : List HeldMap) (asked : Bool) (parts : List Part) (read : AreRead maps asked parts) → (whole : HeldMap) × AreParts read.ordered whole × IsUnionOf maps whole
whole-read maps asked parts read = let it = whole-exists read.ordered 0 read.follow in (it.0, it.1, union-read maps asked parts it.0 read it.1)

pub union-is_whole : UnionIsWhole
union-is_whole maps whole other are union =
    one_map whole other (λ off blob. (
      (λ found. (
          let it = union.kept off blob (are.only off blob found) in
          let also : get whole off ≡ Some it.0 = are.kept off it.0 (union.only off it.0 it.1) in
          it.1 ∙ sym also ∙ found
          )),
      (λ found. are.kept off blob (union.only off blob found)),
    ))

each-apart : (maps : List HeldMap) (asked : Bool) (parts : List Part) (ordered : List HeldMap) → AreEach maps asked parts ordered → AreApart ordered
each-apart maps asked parts [] each = tt
each-apart maps asked [] (run ∷ ordered) each = absurd each
each-apart maps asked (part ∷ parts) (run ∷ ordered) each = (each.0.apart, each-apart maps asked parts ordered each.1)

pub read-apart : (maps : List HeldMap) (asked : Bool) (parts : List Part) (whole : HeldMap) (read : AreRead maps asked parts) → AreParts read.ordered whole → IsApart whole
read-apart maps asked parts whole read are = whole-apart 0 read.ordered whole read.follow (each-apart maps asked parts read.ordered read.each) are

joined-is : (maps : List HeldMap) (asked : Bool) (parts : List Part) (ordered : List HeldMap) → AreEach maps asked parts ordered → joined_extents parts ≡ extents_in ordered
joined-is maps asked [] [] each = refl
joined-is maps asked [] (run ∷ ordered) each = absurd each
joined-is maps asked (part ∷ parts) [] each = absurd each
joined-is maps asked (part ∷ parts) (run ∷ ordered) each =
    ap (λ (es : List Extent). es ++ joined_extents parts) each.0.extents ∙ ap (λ (es : List Extent). extents_of run ++ es) (joined-is maps asked parts ordered each.1)

pub joined-whole : (maps : List HeldMap) (asked : Bool) (parts : List Part) (whole : HeldMap) (read : AreRead maps asked parts) → AreParts read.ordered whole → joined_extents parts ≡ extents_of whole
joined-whole maps asked parts whole read are = joined-is maps asked parts read.ordered read.each ∙ sym (extents-join read.ordered whole 0 read.follow are)

joined-suc : (parts : List Part) (i : ℕ) (part : Part) → i < length parts → part ≡ get_or parts i part → joined_extents (take (suc i) parts) ≡ joined_extents (take i parts) ++ part.extents.items
joined-suc [] i part low is = absurd (omega arith)
joined-suc (first ∷ parts) zero part low is = append-nil first.extents.items ∙ ap (λ (p : Part). p.extents.items) (sym is)
joined-suc (first ∷ parts) (suc i) part low is =
    ap (λ (es : List Extent). first.extents.items ++ es) (joined-suc parts i part (omega arith) is) ∙ sym (append_assoc first.extents.items (joined_extents (take i parts)) part.extents.items)

pub joined-more : (parts : List Part) (i : ℕ) (part : Part) → i < length parts → part ≡ get_or parts i part → joined_extents (take (i + 1) parts) ≡ joined_extents (take i parts) ++ part.extents.items
joined-more parts i part low is = ap (λ n. joined_extents (take n parts)) (add-one i) ∙ joined-suc parts i part low is
