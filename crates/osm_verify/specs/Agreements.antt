-- Whether what is held at a place of a file is what an import of the file puts there.
use Rattle.std.specs.Prelude.{◌≡◌, ℕ, Bool, true, false, ◌&&◌, nat_le, nat_lt, List, Some, None}
use Rattle.std.specs.FinMap.{get}
use Rattle.pbf_frame.specs.declared.kind.Kind.{Kind}
use Rattle.osm_rows.specs.Held.{Blob, HeldMap}
use Rattle.osm_rows.specs.Keeping.{extent_of}
use Rattle.osm_rows.specs.declared.keeper.Extent.{Extent}
use Rattle.osm_import.specs.Step.{IsEntry}
use Rattle.osm_verify.specs.declared.comparing.Depth.{Depth}
use Rattle.osm_verify.specs.declared.comparing.Depth.TheVariants.{Extents, Elements}
use Rattle.osm_verify.specs.declared.comparing.Agreement.{Agreement}
use Rattle.osm_verify.specs.declared.comparing.Agreement.TheVariants.{Same, Missing, Differs}

-- true where it holds, and false where it doesn't
abbrev pub Tells : Bool → Type 0 → Type 0
Tells true P = P
Tells false P = ¬ P

-- two blobs at one offset have the same end, digest, kind and count of elements; or are the same in all, elements too
abbrev pub AreAlike : Depth → ℕ → Blob → Blob → Type 0
AreAlike Extents off one other = extent_of (off, one) ≡ extent_of (off, other)
AreAlike Elements off one other = one ≡ other

-- the frame is good, and its offset is held with a blob that is like the frame's entry
pub record IsSame (depth : Depth) (held : HeldMap) (off : ℕ) (frame : List ℕ) : Type 0 where
  pub entry : Blob
  pub is_entry : IsEntry off frame entry
  pub blob : Blob
  pub found : get held off ≡ Some blob
  pub alike : AreAlike depth off blob entry

-- the frame is good, and its offset is not held
pub record IsMissing (held : HeldMap) (off : ℕ) (frame : List ℕ) : Type 0 where
  pub entry : Blob
  pub is_entry : IsEntry off frame entry
  pub unheld : get held off ≡ None

-- the frame is good, and its offset is held with a blob that isn't like the frame's entry
pub record IsOther (depth : Depth) (held : HeldMap) (off : ℕ) (frame : List ℕ) : Type 0 where
  pub entry : Blob
  pub is_entry : IsEntry off frame entry
  pub blob : Blob
  pub found : get held off ≡ Some blob
  pub apart : ¬ (AreAlike depth off blob entry)

-- what the comparison of a good frame with what is held at its offset says
abbrev pub IsAgreement : Depth → HeldMap → ℕ → List ℕ → Agreement → Type 0
IsAgreement depth held off frame Same = IsSame depth held off frame
IsAgreement depth held off frame Missing = IsMissing held off frame
IsAgreement depth held off frame Differs = IsOther depth held off frame

-- the extent is that of these bytes, which are the blob of such a kind and of so many elements
pub record IsExtentOf (extent : Extent) (fin : ℕ) (digest : List ℕ) (kind : Kind) (count : ℕ) : Type 0 where
  pub ends : extent.fin ≡ fin
  pub digested : extent.digest ≡ digest
  pub kind_is : extent.kind ≡ kind
  pub counted : extent.n ≡ count

-- the extent begins in from..to
abbrev pub begins : ℕ → ℕ → Extent → Bool
begins from to extent = nat_le from extent.off && nat_lt extent.off to
