-- What is found at each blob that a store holds, which ought to be one of a file.
use Rattle.std.specs.Prelude.{◌≡◌, ℕ, ◌+◌, List, [], ◌∷◌, length, Option, Some, None, IfSome}
use Rattle.std.specs.List.{cons_option}
use Rattle.sqlite.specs.Tree.{Trees}
use Rattle.osm_value.specs.declared.element.Element.{Element}
use Rattle.osm_rows.specs.Audit.{AreCountable, ShowsCounts, counts_of}
use Rattle.osm_rows.specs.Held.{Blob, HeldMap, IsApart}
use Rattle.osm_rows.specs.Keeping.{AscendApart, extents_of}
use Rattle.osm_rows.specs.declared.keeper.Extent.{Extent}
use Rattle.osm_rows.specs.declared.schema.layout.Layout.{Layout}
use Rattle.osm_reading.specs.Framings.{Known}
use Rattle.osm_import.specs.Step.{IsEntry}
use Rattle.osm_verify.specs.Agreements.{IsSame}
use Rattle.osm_verify.specs.Audits.{IsEntryOf}
use Rattle.osm_verify.specs.declared.comparing.Depth.{Depth}
use Rattle.osm_verify.specs.declared.comparing.Agreement.{Agreement}
use Rattle.osm_verify.specs.declared.comparing.Agreement.TheVariants.{Same, Missing}
use Rattle.osm_verify.specs.declared.comparing.Agreement.TheVariants as agreement
use Rattle.osm_verify.specs.InFile.{IsIn, StandsIn}
use Rattle.osm_verify.specs.declared.part_audit.Audit.{Audit}
use Rattle.osm_verify.specs.declared.part_audit.Finding.{Finding}
use Rattle.osm_verify.specs.declared.part_audit.Finding.TheVariants.{Differs, Extra}

-- the bytes are a good frame at this offset, and what is held there isn't like its entry
pub record IsUnlike (depth : Depth) (held : HeldMap) (off : ℕ) (bytes : List ℕ) : Type 0 where
  pub entry : Blob
  pub is_entry : IsEntry off bytes entry
  pub unlike : ¬ (IsSame depth held off bytes)

-- the bytes are no good frame at this offset
abbrev pub IsNoEntry : ℕ → List ℕ → Type 0
IsNoEntry off bytes = (entry : Blob) → ¬ (IsEntry off bytes entry)

-- in the file no good frame reaches from the offset of the extent to its end
abbrev pub IsStray : List ℕ → Extent → Type 0
IsStray file extent = (bytes : List ℕ) → StandsIn file extent.off bytes → extent.fin ≡ extent.off + length bytes → IsNoEntry extent.off bytes

-- what is found of a blob that is held at this offset and compares so with a good frame there
abbrev pub finding_of : ℕ → Agreement → Option Finding
finding_of off Same = None
finding_of off Missing = Some (Differs off)
finding_of off agreement.Differs = Some (Differs off)

-- what is found of a blob that is held at an offset, of which the file has these bytes there
abbrev pub IsFound : Depth → HeldMap → ℕ → List ℕ → Option Finding → Type 0
IsFound depth held off bytes None = IsSame depth held off bytes
IsFound depth held off bytes (Some (Differs at)) = (at ≡ off) × IsUnlike depth held off bytes
IsFound depth held off bytes (Some (Extra at)) = (at ≡ off) × IsNoEntry off bytes

-- What is found at an extent: nothing, where a good frame of the file stands at its offset and what is held there is like
-- the frame's entry; that it isn't like the entry of the good frame from there to its end; or that there is none.
abbrev pub IsJudged : Depth → HeldMap → Known → Extent → Option Finding → Type 0
IsJudged depth held known extent None = (frame : List ℕ) × IsIn known extent.off frame × IsSame depth held extent.off frame
IsJudged depth held known extent (Some (Differs off)) =
    (off ≡ extent.off) × ((frame : List ℕ) × IsIn known extent.off frame × (extent.fin ≡ extent.off + length frame) × IsUnlike depth held extent.off frame)
IsJudged depth held known extent (Some (Extra off)) = (off ≡ extent.off) × IfSome known (λ file. IsStray file extent)

-- what is found at each of the extents, in order
abbrev pub AreJudged : Depth → HeldMap → Known → List Extent → List Finding → Type 0
AreJudged depth held known [] findings = findings ≡ []
AreJudged depth held known (extent ∷ extents) findings =
    (found : Option Finding) × (rest : List Finding) × IsJudged depth held known extent found × AreJudged depth held known extents rest × (findings ≡ cons_option found rest)

-- The map's blobs stand apart, these are its extents, and this is found at them.
pub record IsAuditOf (depth : Depth) (held : HeldMap) (known : Known) (audit : Audit) : Type 0 where
  pub apart : IsApart held
  pub extents : audit.extents.items ≡ extents_of held
  pub found : AreJudged depth held known (extents_of held) audit.findings.items

-- ---- whatever rows the tables have

-- from the offset of each extent to its end a good frame of the file stands, of a blob with these elements, of which this is so
-- there
abbrev pub AreEntriesIn : (ℕ → Blob → Type 0) → Known → List Extent → List (List Element) → Type 0
AreEntriesIn P known [] [] = Unit {0}
AreEntriesIn P known [] (elements ∷ blobs) = ⊥
AreEntriesIn P known (extent ∷ extents) [] = ⊥
AreEntriesIn P known (extent ∷ extents) (elements ∷ blobs) =
    ((frame : List ℕ) × IsIn known extent.off frame × IsEntryOf (P extent.off) extent.off frame elements × (extent.fin ≡ extent.off + length frame)) × AreEntriesIn P known extents blobs

-- The extents are those of good frames of the file, of blobs with these elements. Where SQL can count their rows, the rows at
-- the offset of each are those of its blob, as is said of rows at an offset, and the tables have no others.
pub record ShowsPart (has_rows : ℕ → Blob → Type 0) (layout : Layout) (db : Trees) (known : Known) (extents : List Extent) : Type 0 where
  pub apart : AscendApart extents
  pub blobs : List (List Element)
  pub are : AreEntriesIn (λ off blob. Unit {0}) known extents blobs
  pub shown : AreCountable (counts_of blobs) → AreEntriesIn has_rows known extents blobs × ShowsCounts layout db (counts_of blobs)
