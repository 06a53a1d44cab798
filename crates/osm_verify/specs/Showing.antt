-- Stores whose tables have the rows of a file's frames among them, whatever rows these were.
use Rattle.std.specs.Prelude.{◌≡◌, ◌⊎◌, ℕ, ◌+◌, false, All, List, [], ◌∷◌, length}
use Rattle.sqlite.specs.Tree.{Trees}
use Rattle.osm_rows.specs.Held.{Blob}
use Rattle.osm_rows.specs.Keeping.{IsRange}
use Rattle.osm_rows.specs.declared.keeper.Extent.{Extent}
use Rattle.osm_rows.specs.declared.keeper.BlobReader.{Ghosts as ReaderOf}
use Rattle.osm_rows.specs.declared.schema.layout.Layout.{Layout}
use Rattle.osm_reading.specs.Framings.{Known}
use Rattle.osm_import.specs.Files.{IsFile, IsFrameAt}
use Rattle.osm_parts.specs.declared.runs.Part.{Part}
use Rattle.osm_verify.specs.Judging.{ShowsPart}

-- the extent is one of these
abbrev pub IsAmong : Extent → List Extent → Type 0
IsAmong extent [] = ⊥
IsAmong extent (first ∷ extents) = (first ≡ extent) ⊎ IsAmong extent extents

-- it is an extent of one of the stores
abbrev pub IsOfOne : Extent → List (List Extent) → Type 0
IsOfOne extent [] = ⊥
IsOfOne extent (own ∷ others) = IsAmong extent own ⊎ IsOfOne extent others

-- each store that lies there has the tables of a store, if it has given what was written
abbrev pub HasTablesThere : {K : Type 0} → ReaderOf K → (K → Type 0) → (K → Type 0) → Type 0
HasTablesThere {K} reader has_tables lies = (store : K) → lies store → reader.is_honest store → has_tables store

-- so has each store that lies at any place
abbrev pub HaveTables : {K : Type 0} → ReaderOf K → (K → Type 0) → (ℕ → K → Type 0) → Type 0
HaveTables reader has_tables lies = (place : ℕ) → HasTablesThere reader has_tables (lies place)

-- the rows of a store are those of the good frames of the file that these extents name, and no others, as `ShowsPart` says it
abbrev pub ShowsExtents : {K : Type 0} → (Trees → ℕ → Blob → Type 0) → Layout → (K → Trees) → Known → K → List Extent → Type 0
ShowsExtents has_rows layout trees known store extents = ShowsPart (has_rows (trees store)) layout (trees store) known extents

-- a store that lies there shows these extents
pub record IsShownAt {K : Type 0} (lies : K → Type 0) (shows : K → List Extent → Type 0) (extents : List Extent) : Type 0 where
  pub store : K
  pub there : lies store
  pub shown : shows store extents

-- at each place from this one on, a store that lies there shows its extents
abbrev pub AreShownFrom : {K : Type 0} → (ℕ → K → Type 0) → (K → List Extent → Type 0) → ℕ → List (List Extent) → Type 0
AreShownFrom lies shows place [] = Unit {0}
AreShownFrom lies shows place (own ∷ others) = IsShownAt (lies place) shows own × AreShownFrom lies shows (place + 1) others

-- The file is a row of frames. At each of so many places a store that lies there shows its extents; each of them is that of a
-- frame of the file, and each frame of the file has one.
pub record ShowTogether {K : Type 0} (lies : ℕ → K → Type 0) (shows : K → List Extent → Type 0) (count : ℕ) (file : List ℕ) : Type 0 where
  pub frames : List (List ℕ)
  pub is_file : IsFile file frames
  pub extents : List (List Extent)
  pub many : length extents ≡ count
  pub each : AreShownFrom lies shows 0 extents
  pub only : (extent : Extent) → IsOfOne extent extents → (frame : List ℕ) × IsFrameAt frames extent.off frame × (extent.fin ≡ extent.off + length frame)
  pub all : (off : ℕ) (frame : List ℕ) → IsFrameAt frames off frame → (extent : Extent) × IsOfOne extent extents × (extent.off ≡ off)

-- ---- what was read of the stores

-- what was read at this place, of a store that shows its extents
pub record IsShownPart {K : Type 0} (lies : K → Type 0) (shows : K → List Extent → Type 0) (place : ℕ) (part : Part) : Type 0 where
  pub placed : part.place ≡ place
  pub plain : part.history ≡ false
  pub ranges : All IsRange part.extents.items
  pub at : IsShownAt lies shows part.extents.items

-- what was read at the places from this one on
abbrev pub AreShownParts : {K : Type 0} → (ℕ → K → Type 0) → (K → List Extent → Type 0) → ℕ → List Part → Type 0
AreShownParts lies shows place [] = Unit {0}
AreShownParts lies shows place (part ∷ parts) = IsShownPart (lies place) shows place part × AreShownParts lies shows (place + 1) parts
