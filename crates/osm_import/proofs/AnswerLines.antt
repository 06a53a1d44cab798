-- Pieces of the line of an answer, joined.
use Rattle.std.proofs.Common.{◌≡◌, ℕ, Bool, true, cond, List, [], ◌++◌, ap, sym, append_assoc}
use Rattle.std.specs.Prelude.{codes}
use Rattle.std.specs.Fmt.{decimal}
use Rattle.osm_import.specs.Lines.{answer_line, stored_line, held_line, told_line}
use Rattle.osm_import.specs.declared.answer.Answer.{Answer}
use Rattle.osm_reading.proofs.FaultLines.{four}

pub held_parts : (before : List ℕ) (off : ℕ) → (before ++ decimal off) ++ codes " held\n" ≡ before ++ held_line off
held_parts before off = append_assoc before (decimal off) (codes " held\n")

pub stored_parts : (before : List ℕ) (off count : ℕ) → (((before ++ decimal off) ++ codes " stored ") ++ decimal count) ++ codes "\n" ≡ before ++ stored_line off count
stored_parts before off count = four before (decimal off) (codes " stored ") (decimal count) (codes "\n")

-- an answer that is told has its line
pub told_here : (tells : Answer → Bool) (off : ℕ) (answer : Answer) → tells answer ≡ true → answer_line off answer ≡ told_line tells off answer
told_here tells off answer told = ap (λ (b : Bool). cond b (answer_line off answer) []) (sym told)
