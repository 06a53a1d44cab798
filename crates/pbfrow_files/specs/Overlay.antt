-- What an overlay makes of a file.
use Rattle.std.specs.Prelude.{◌≡◌, ◌⊎◌, ℕ, ◌+◌, ◌<◌, ◌≤◌, List, length, slice_index}
use Rattle.std.specs.List.{fold}
use Rattle.std.specs.IoError.{error_kind}
use Rattle.std.specs.declared.io.Error.{Error}
use Rattle.std.specs.declared.io.ErrorKind.TheVariants.{InvalidInput, OutOfMemory, ReadOnlyFilesystem}
use Rattle.pbfrow_files.specs.declared.overlay.Overlay.{Overlay}
use Rattle.pbfrow_files.specs.Change.{changed, AreInFile}

-- the file after every change that was kept
abbrev pub shown : List ℕ → Overlay → List ℕ
shown file it = fold changed file it.changes.items

-- the length of the file below
abbrev pub base_len : Overlay → ℕ
base_len it = it.base_len

-- how much is kept
abbrev pub kept : Overlay → ℕ
kept it = it.kept

-- What a read at this offset may answer: some bytes of the file below, which has zeros past its end, with every change laid
-- over them, whatever that file has elsewhere.
pub record IsSeenAt (it : Overlay) (at : ℕ) (bytes : List ℕ) : Type 0 where
  pub own : List ℕ
  pub own_len : length own ≡ length bytes
  pub past : (i : ℕ) → i < length own → base_len it ≤ at + i → slice_index own i ≡ 0
  pub laid : (file : List ℕ) → AreInFile file at own → AreInFile (shown file it) at bytes

-- the error of a change: memory was refused, or it is past every offset, or there is no room for it
abbrev pub Refuses : Error → Type 0 → Type 0 → Type 0
Refuses error is_past is_full = (error_kind error ≡ OutOfMemory) ⊎ (((error_kind error ≡ InvalidInput) × is_past) ⊎ ((error_kind error ≡ ReadOnlyFilesystem) × is_full))
