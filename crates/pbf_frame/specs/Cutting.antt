-- A file that is cut into ranges of whole frames.
use Rattle.std.specs.Prelude.{◌≡◌, ℕ, ◌-◌, ◌*◌, ◌<◌, ◌≤◌, List, [], ◌∷◌, length, All, Contains}
use Rattle.pbf_frame.specs.declared.ranges.Range.{Range}

-- the ends of frames that stand one behind the other, the first from this offset on
abbrev pub AreEnds : ℕ → List ℕ → Type 0
AreEnds from [] = Unit {0}
AreEnds from (end ∷ ends) = (from < end) × AreEnds end ends

-- the last of them, or where there is none the offset
abbrev pub last_end : ℕ → List ℕ → ℕ
last_end from [] = from
last_end from (end ∷ ends) = last_end end ends

-- each range has bytes and begins where the one before it ends, from one offset to the other
abbrev pub Tile : ℕ → List Range → ℕ → Type 0
Tile from [] to = from ≡ to
Tile from (range ∷ ranges) to = (range.from ≡ from) × (range.from < range.to) × Tile range.to ranges to

-- the end of a frame inside a range is less than this part of the size behind its beginning
abbrev pub IsEven : List ℕ → ℕ → ℕ → Range → Type 0
IsEven ends count size range = All (λ end. range.from < end → end < range.to → (end - range.from) * count < size) ends

-- The ranges tile the file that has these ends of frames, and each ends with a frame. There are no more than were wanted,
-- and each is shorter than its share of the file, but for its last frame.
pub record AreRanges (ends : List ℕ) (count : ℕ) (ranges : List Range) : Type 0 where
  pub tiled : Tile 0 ranges (last_end 0 ends)
  pub framed : All (λ range. Contains ends range.to) ranges
  pub few : length ranges ≤ count
  pub even : All (IsEven ends count (last_end 0 ends)) ranges
