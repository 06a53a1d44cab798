-- The numbers of an array, as a closure gives them of its items.
use Rattle.std.specs.Prelude.{◌≡◌, ℤ, List, Option, Some, None}
use Rattle.std.specs.Borrow.{Bor}
use Rattle.std.specs.Fn.{Shared}
use Rattle.std.specs.List.{AllByRecursion}
use Rattle.osm_value.specs.Ranges.{IsWide}

abbrev pub IsWideOrNone : Option ℤ → Type 0
IsWideOrNone None = Unit {0}
IsWideOrNone (Some z) = IsWide z

-- each call for one of these items has an answer that Q relates to the item
abbrev pub AnswerEach : {F T R : Type 0} → Shared F (Bor T × Unit {0}) R → F → (T → R → Type 0) → List T → Type 0
AnswerEach {F} {T} {R} g f Q items = AllByRecursion (λ (v : T). (x : Bor T) (r : R) → x.now ≡ v → g.post f (x, tt) r → Q x.now r) items
