-- Rows of successive blobs of one store.
use Rattle.std.specs.Prelude.{◌≡◌, ◌≢◌, ◌⊎◌, ℕ, ◌+◌, ◌*◌, ◌<◌, ◌≤◌, List, [], ◌∷◌, ◌++◌, map, length, Some, slice_get}
use Rattle.osm_rows.specs.declared.keeper.Extent.{Extent}
use Rattle.osm_parts.specs.declared.pieces.Piece.{Piece}
use Rattle.osm_parts.specs.declared.runs.Part.{Part}

-- where the first of these extents begins, 0 where there is none
abbrev pub first_offset : List Extent → ℕ
first_offset [] = 0
first_offset (extent ∷ extents) = extent.off

-- all of them are of this place
abbrev pub AreAt : ℕ → List Piece → Type 0
AreAt place [] = Unit {0}
AreAt place (piece ∷ pieces) = (piece.place ≡ place) × AreAt place pieces

-- the part is that of these pieces, the first and those behind it
pub record IsRunOf (part : Part) (first : Piece) (behind : List Piece) : Type 0 where
  pub place : first.place ≡ part.place
  pub places : AreAt part.place behind
  pub history : part.history ≡ first.history
  pub extents : part.extents.items ≡ first.extent ∷ map (λ (piece : Piece). piece.extent) behind

-- the parts are those of the pieces, cut into runs
abbrev pub AreCut : List Part → List Piece → Type 0
AreCut [] pieces = pieces ≡ []
AreCut (part ∷ parts) pieces = (first : Piece) × (behind : List Piece) × (rest : List Piece) × IsRunOf part first behind × AreCut parts rest × (pieces ≡ first ∷ (behind ++ rest))

-- the piece goes to the last part, if that is of its place, or makes one of its own
abbrev pub IsPut : Piece → List Part → List Part → Type 0
IsPut piece old new = (front : List Part) × (part : Part) × (new ≡ front ++ part ∷ []) ×
    (((front ≡ old) × IsRunOf part piece [])
    ⊎ ((last : Part) × (old ≡ front ++ last ∷ []) × (last.place ≡ piece.place) × (part.place ≡ last.place) × (part.history ≡ last.history) × (part.extents.items ≡ last.extents.items ++ piece.extent ∷ [])))

-- one of them is of this place
abbrev pub HasPlace : ℕ → List Part → Type 0
HasPlace place parts = (index : ℕ) × (part : Part) × (slice_get parts index ≡ Some part) × (part.place ≡ place)

-- the run at this index lies between two of another store, of which the later one comes next
pub record ReturnsAt (parts : List Part) (index : ℕ) : Type 0 where
  pub early : ℕ
  pub first : Part
  pub between : Part
  pub last : Part
  pub first_at : slice_get parts early ≡ Some first
  pub between_at : slice_get parts index ≡ Some between
  pub last_at : slice_get parts (index + 1) ≡ Some last
  pub before : early < index
  pub same : first.place ≡ last.place
  pub other : between.place ≢ last.place

-- such a run begins at the offset
abbrev pub IsBetween : List Part → ℕ → Type 0
IsBetween parts off = (index : ℕ) × (returns : ReturnsAt parts index) × (off ≡ first_offset returns.between.extents.items)

-- there is none such
abbrev pub NoneReturns : List Part → Type 0
NoneReturns parts = (index : ℕ) → ¬ (ReturnsAt parts index)

-- They are at most twice as many as the stores, or no run lies between two of another store. (More are never without such
-- a run; that isn't proved.)
abbrev pub AreFew : ℕ → List Part → Type 0
AreFew count parts = (length parts ≤ 2 * count) ⊎ NoneReturns parts
