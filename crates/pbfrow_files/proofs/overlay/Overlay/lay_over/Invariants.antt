use Rattle.std.proofs.Common.{List, ℕ, take}
use Rattle.std.specs.List.{fold}
use Rattle.pbfrow_files.specs.Change.{changed, AreInFile}
use Rattle.pbfrow_files.proofs.overlay.Overlay.lay_over.Given as goal

abbrev pub invariant-loop-change : goal.invariant-loop-change
invariant-loop-change l =
    (file : List ℕ) → AreInFile file l.at l.initial.buf → AreInFile (fold changed file (take l.change-index l.change-items)) l.at l.buf
