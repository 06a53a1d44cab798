-- What it comes to that every frame of a file is held alike and nothing else is held.
use Rattle.std.specs.Prelude.{◌≡◌, ℕ, ◌+◌, List, [], ◌∷◌, length, filter}
use Rattle.pbf_frame.specs.declared.part.TheConstants.{MAX_OFFSET}
use Rattle.osm_rows.specs.Held.{HeldMap, IsApart}
use Rattle.osm_rows.specs.Keeping.{extents_of}
use Rattle.osm_import.specs.Merges.{IsImported, placed_from}
use Rattle.osm_verify.specs.declared.comparing.Depth.{Depth}
use Rattle.osm_verify.specs.declared.comparing.Depth.TheVariants.{Extents, Elements}
use Rattle.osm_verify.specs.Agreements.{IsSame, begins}

-- frames that stand one behind the other from this offset on are good, and each is held alike
abbrev pub AreSame : Depth → HeldMap → ℕ → List (List ℕ) → Type 0
AreSame depth held start [] = Unit {0}
AreSame depth held start (frame ∷ frames) = IsSame depth held start frame × AreSame depth held (start + length frame) frames

-- no held extent begins inside one of these frames, and none behind the last
abbrev pub AreAlone : HeldMap → ℕ → List (List ℕ) → Type 0
AreAlone held start [] = filter (begins start MAX_OFFSET) (extents_of held) ≡ []
AreAlone held start (frame ∷ frames) = (filter (begins (start + 1) (start + length frame)) (extents_of held) ≡ []) × AreAlone held (start + length frame) frames

-- the frames are held alike, and nothing else is held
pub record IsVerified (depth : Depth) (held : HeldMap) (frames : List (List ℕ)) : Type 0 where
  pub same : AreSame depth held 0 frames
  pub alone : AreAlone held 0 frames

-- what is held is what an import of these frames to a new store comes to; or its extents are those of any such import
abbrev pub IsExact : Depth → HeldMap → List (List ℕ) → Type 0
IsExact Elements held frames = IsImported (placed_from 0 frames) held
IsExact Extents held frames = (one : HeldMap) → IsImported (placed_from 0 frames) one → extents_of held ≡ extents_of one

-- Each map that is verified against the frames is exactly that of an import of them.
abbrev pub VerifiedIsExact : Type 0
VerifiedIsExact = (depth : Depth) (held : HeldMap) (frames : List (List ℕ)) → IsApart held → IsVerified depth held frames → IsExact depth held frames

-- a map that is exactly an import of the frames is the one that an import of them comes to
abbrev pub ExactIsOne : Type 0
ExactIsOne = (held one : HeldMap) (frames : List (List ℕ)) → IsExact Elements held frames → IsImported (placed_from 0 frames) one → held ≡ one
