-- What was written to a sink, where its bytes are known.
use Rattle.std.specs.Prelude.{◌≡◌, ℕ, List, ◌++◌, length, Option, Bool, true, false, ◌&&◌, not, ◌==◌, Result, Ok, Err}
use Rattle.std.specs.Borrow.{Bor, MutBor}
use Rattle.std.specs.Fn.{Shared}
use Rattle.std.specs.Io.KnownBytes.{Appends}

-- the write failed, or it took nothing of a piece that isn't empty
abbrev pub stopped : {E : Type 0} → Result ℕ E → List ℕ → Bool
stopped (Err e) piece = true
stopped (Ok n) piece = n == 0 && not (length piece == 0)

-- known bytes grow by a front of the text
abbrev pub AppendsFront : Option (List ℕ) → Option (List ℕ) → List ℕ → Type 0
AppendsFront old new text = (front rest : List ℕ) × (front ++ rest ≡ text) × Appends old new front

-- since the start the text was written, or a front of it where the sink has failed
abbrev pub Wrote : Option (List ℕ) → List ℕ → Option (List ℕ) → Bool → Type 0
Wrote start text now false = Appends start now text
Wrote start text now true = AppendsFront start now text

-- whatever was written before, the text follows it: what a call does to a sink's bytes and its failure
abbrev pub Writes : Option (List ℕ) → Bool → Option (List ℕ) → Bool → List ℕ → Type 0
Writes old had_failed new has_failed text = (start : Option (List ℕ)) (before : List ℕ) → Wrote start before old had_failed → Wrote start (before ++ text) new has_failed

-- each call with a sink and an item writes the item's text
abbrev pub WritesEach : {F S T : Type 0} → (S → Option (List ℕ)) → (S → Bool) → Shared F (MutBor S × (Bor T × Unit {0})) (Unit {0} × (MutBor S × Unit {0})) → F → (T → List ℕ) → Type 0
WritesEach {F} {S} {T} written has_failed g f text =
    (s t : MutBor S) (x : Bor T) → g.post f (s, (x, tt)) (tt, (t, tt)) → Writes (written s.now) (has_failed s.now) (written t.now) (has_failed t.now) (text x.now)
