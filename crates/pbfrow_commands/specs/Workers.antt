-- Workers that import a file by the ranges of a plan, and what they come to together.
use Rattle.std.specs.Prelude.{◌≡◌, ℕ, ◌+◌, ◌-◌, List, [], ◌∷◌, length, take, drop, Some, All, Contains}
use Rattle.std.specs.List.{AllZip}
use Rattle.std.specs.FinMap.{get, empty}
use Rattle.osm_rows.specs.Held.{Blob, HeldMap}
use Rattle.osm_reading.specs.Framings.{Known}
use Rattle.osm_import.specs.Files.{AreFrames, IsHeldOfFile, joined}
use Rattle.osm_import.specs.Merges.{AreUnited, IsImported, placed_from}
use Rattle.osm_parts.specs.Parts.{AreApart, AreParts, FollowFrom}
use Rattle.pbf_frame.specs.Cutting.{Tile}
use Rattle.pbf_frame.specs.declared.ranges.Range.{Range}
use Rattle.pbfrow_commands.specs.Importing.{AreHeld, HoldsRange, IsOfFrames}
use Rattle.pbfrow_reading.specs.Ranging.{Cuts}

-- the bytes of a file from one offset to another
abbrev pub bytes_between : ℕ → ℕ → List ℕ → List ℕ
bytes_between from to file = take (to - from) (drop from file)

-- behind the bytes that are dropped, the input goes on as the file does from the one offset to the other
pub record GivesRange (file : List ℕ) (from to dropped : ℕ) (input : Known) : Type 0 where
  pub bytes : List ℕ
  pub known : input ≡ Some bytes
  pub same : take (to - from) (drop dropped bytes) ≡ bytes_between from to file

-- A worker that was given a range of the file, and ended with status 0: its database holds the range and what it held before.
pub record HasFilled (file : List ℕ) (range : Range) (before after : HeldMap) : Type 0 where
  pub dropped : ℕ
  pub input : Known
  pub given : GivesRange file range.from range.to dropped input
  pub done : HoldsRange (λ held. held ≡ after) before dropped range.from range.to input

-- ---- one database

-- workers that filled it in turn, each with one of these ranges
abbrev pub HaveFilled : List ℕ → List Range → HeldMap → HeldMap → Type 0
HaveFilled file [] before after = after ≡ before
HaveFilled file (range ∷ ranges) before after = (next : HeldMap) × HasFilled file range before next × HaveFilled file ranges next after

-- a worker filled it with the range at some time, and what was held then is held now
pub record StaysFilled (file : List ℕ) (now : HeldMap) (range : Range) : Type 0 where
  pub before : HeldMap
  pub after : HeldMap
  pub filled : HasFilled file range before after
  pub kept : (off : ℕ) (blob : Blob) → get after off ≡ Some blob → get now off ≡ Some blob

-- The file is whole frames, one behind the other, and each is held at its offset; and where nothing but blobs of the file
-- was held before, what is held is what one import of the file to a new store comes to.
pub record HoldsWhole (file : List ℕ) (before after : HeldMap) : Type 0 where
  pub frames : List (List ℕ)
  pub whole : AreFrames frames
  pub are_joined : file ≡ joined frames
  pub all : AreHeld after 0 frames
  pub imported : IsHeldOfFile frames before → IsImported (placed_from 0 frames) after

-- ---- a database for each worker

-- A worker that filled one of its own, where nothing was held before but blobs of its range: none, or those that it had
-- stored when it was interrupted.
pub record HasFilledOwn (file : List ℕ) (range : Range) (after : HeldMap) : Type 0 where
  pub before : HeldMap
  pub filled : HasFilled file range before after
  pub own : (off : ℕ) (blob : Blob) → get before off ≡ Some blob → IsOfFrames range.from filled.done.frames off blob

-- The file is whole frames, one behind the other, and the maps are the parts of the one map that an import of the file to a
-- new store comes to, in the order of the file; and united, in any order and any of them more than once, they are that map.
pub record ArePartsOfFile (file : List ℕ) (maps : List HeldMap) : Type 0 where
  pub frames : List (List ℕ)
  pub whole : AreFrames frames
  pub are_joined : file ≡ joined frames
  pub one : HeldMap
  pub imported : IsImported (placed_from 0 frames) one
  pub parts : AreParts maps one
  pub follow : FollowFrom 0 maps
  pub apart : AreApart maps
  pub united : (order : List HeldMap) (after : HeldMap) → All (Contains maps) order → All (Contains order) maps → AreUnited order empty after → after ≡ one

-- ---- the laws

-- the ranges that a file is cut into by `ranges` tile it
abbrev pub PlanTiles : Type 0
PlanTiles = (count : ℕ) (file : List ℕ) (plan : List Range) → Cuts count file plan → Tile 0 plan (length file)

-- A file gives a worker its range: its bytes from its first one on, or from a place on behind that, where what stands before
-- the range is dropped; and the bytes of the range alone.
abbrev pub FileGives : Type 0
FileGives = (file : List ℕ) (from to place dropped : ℕ) → place + dropped ≡ from → GivesRange file from to dropped (Some (drop place file))

-- The bytes of a range alone give a worker the range.
abbrev pub PieceGives : Type 0
PieceGives = (file : List ℕ) (from to : ℕ) → GivesRange file from to 0 (Some (bytes_between from to file))

-- bytes are whole frames, one behind the other, in one way
abbrev pub FramesAreOne : Type 0
FramesAreOne = (frames other : List (List ℕ)) → AreFrames frames → AreFrames other → joined frames ≡ joined other → frames ≡ other

-- Workers have filled one database, in any order and any of them more than once, each with a range of a plan that tiles the
-- file, and none was left out.
abbrev pub OneDatabaseHoldsAll : Type 0
OneDatabaseHoldsAll = (file : List ℕ) (plan ranges : List Range) (before after : HeldMap) → Tile 0 plan (length file) → All (Contains ranges) plan → All (Contains plan) ranges
    → HaveFilled file ranges before after → HoldsWhole file before after

-- The same whatever else was done to the database meanwhile, such as by workers that were interrupted: all that it takes is
-- that what was held stays.
abbrev pub FilledRangesStay : Type 0
FilledRangesStay = (file : List ℕ) (plan : List Range) (now : HeldMap) → Tile 0 plan (length file) → All (StaysFilled file now) plan → HoldsWhole file now now

-- workers have filled a database each, with the ranges of a plan that tiles the file
abbrev pub DatabasesAreParts : Type 0
DatabasesAreParts = (file : List ℕ) (plan : List Range) (maps : List HeldMap) → Tile 0 plan (length file) → AllZip (HasFilledOwn file) plan maps → ArePartsOfFile file maps
