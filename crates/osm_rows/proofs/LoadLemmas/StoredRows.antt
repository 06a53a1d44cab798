-- A loop that reads rows, each with the block of one stored element.
use Rattle.std.proofs.Common.{Result, Ok, Err, IsOkAnd, MatchResult, ◌≡◌, ℕ, ◌≤◌, List, length, map, take, Option, Some, None, Bool, true, false, true≢false, is_some, not, sym, ap, ◌∙◌, arith}
use Rattle.std.proofs.lemmas.List.{take_all, length-map}

-- what was found is no element, and is this one
pub not_none : {X : Type 0} (found : Option X) (x : X) (test : Bool) → found ≡ Some x → is_some found ≡ not test → test ≡ true → ⊥
not_none found x test is says none =
    let here : is_some found ≡ true = ap is_some is in
    let gone : not test ≡ false = ap not none in
    absurd (true≢false (sym here ∙ says ∙ gone))

pub some_is : {X : Type 0} (x y : X) → ◌≡◌ {A = Option X} (Some x) (Some y) → x ≡ y
some_is x y e = cc

pub some_or_none : {X : Type 0} (found : Option X) (x : X) → found ≡ Some x → found ≡ None → ⊥
some_or_none found x is none = let both : ◌≡◌ {A = Option _} None (Some x) = sym none ∙ is in absurd (cc)

pub all_taken : {X R : Type 0} (row : X → R) (held : List X) (rows : List R) (at : ℕ) → rows ≡ map row held → length rows ≤ at → take at held ≡ held
all_taken row held rows at is past = take_all at held (omega (arith, ap length is, length-map held row))

-- what is always given has what is said of it, and there is no fault
pub given_as : {X E : Type 0} {P : X → Type 0} (Q : X → Type 0) (F : E → Type 0) (result : Result X E) → IsOkAnd result P → ((x : X) → P x → Q x) → MatchResult result Q F
given_as Q F (Ok x) given more = more x given
given_as Q F (Err e) given more = absurd given
