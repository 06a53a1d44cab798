-- The size of a page that the files of a store name.
use Rattle.std.proofs.Common.{◌≡◌, ℕ, ◌%◌, ◌≤◌, false, ◌∙◌, inl, inr, arith, eqb}
use Rattle.std.proofs.lemmas.Bool.{cases_Bool, cases_eq}
use Rattle.std.proofs.Math.Logic.{∥∥₁_elim}
use native.Mathlib.Nat.{ℕ_set}
use Rattle.sqlite_disk.specs.declared.Disk.{Ghosts}
use Rattle.sqlite_wal.specs.Format.{be32}
use Rattle.sqlite_wal.specs.PageSize.{IsPageSize, size_in_file}
use Rattle.sqlite_wal.specs.Recovery.{Image, IsIgnored}
use Rattle.sqlite_pages.specs.PageMap.{PageMap}
use Rattle.sqlite_pool.specs.File.{IsSoundFile}
use Rattle.sqlite_pool.specs.Stored.{Recovers, reserved, stored_size, is_summed}
use Rattle.sqlite_pool.proofs.ProbeLemmas.{size_by_log, size_by_file}
use Rattle.sqlite_pool.proofs.ResealLemmas.{adopts_of}
use Rattle.sqlite_pool.proofs.StateLemmas.{size_is_allowed}
use Rattle.sqlite_store.specs.declared.store.FileStore.{FileStore}
use Rattle.sqlite_store.specs.FileStore.{state, view}
use Rattle.osm_openings.specs.Presumed.{NamesSize}

unsummed : (size : ℕ) → is_summed size ≡ false → stored_size size ≡ size
unsummed size none = elim (cases_Bool (eqb (size % 16) 8)) [ inl ends ↦ absurd (let e = rw ends at none in cc) | inr plain ↦ rw plain (omega arith) ]

-- a size that files name is that of the pages that they recover to
one_size : (size : ℕ) (image : Image) (pages : PageMap) (named : ℕ) → IsPageSize (stored_size size) → Recovers size image pages → IsSoundFile size pages
    → (¬ IsIgnored image.log → named ≡ be32 image.log 8) → (IsIgnored image.log → named ≡ size_in_file image.db) → named ≡ stored_size size
one_size size image pages named allowed found sound by_log by_file =
    elim (cases_eq named (stored_size size)) [ inl same ↦ same | inr other ↦ absurd (never other) ]
  where
    large : 504 ≤ size
    large = let few : reserved size ≤ 8 = grind arith in omega (arith, allowed.0)

    never : ¬ (¬ (named ≡ stored_size size))
    never other =
        let adopted = adopts_of size image pages found in
        let read = λ (seen : ¬ IsIgnored image.log). other (by_log seen ∙ size_by_log size image pages adopted seen) in
        read (λ ignored. other (by_file ignored ∙ size_by_file size image pages adopted large sound ignored))

-- what a crash leaves of a store whose pages have no sums names the size of its pages
pub names_size : {D : Type 0} {g : Ghosts D} (it : FileStore D g) → (view it).has_sums ≡ false → (image : Image) → (state it).may_leave image → (size : ℕ) → NamesSize image size
    → size ≡ (state it).page_size
names_size it plain image may size names =
    ∥∥₁_elim it.safe (ℕ_set _ _) (λ all.
    let found = all image may in
    ∥∥₁_elim (size_is_allowed it.pool) (ℕ_set _ _) (λ allowed.
    ∥∥₁_elim found.2 (ℕ_set _ _) (λ ours. one_size _ image found.0 size allowed found.1 ours.file.sound names.by_log names.by_file ∙ unsummed (state it).page_size plain)))
