-- The order of numbers as values of a row.
use Rattle.std.proofs.Common.{◌≡◌, ℕ, pos, ◌<◌, Less, Equal, ◌∙◌, arith}
use Rattle.std.proofs.lemmas.Bool.Decides.{nat_tests}
use Rattle.sqlite.specs.declared.types.Value.TheVariants.{Int}
use Rattle.sqlite_value.specs.Order.{value_cmp}
use Rattle.sqlite_value.proofs.OrderLemmas.{value_cmp-Int}

pub numbers_below : (m n : ℕ) → m < n → value_cmp (Int (pos m)) (Int (pos n)) ≡ Less
numbers_below m n low = value_cmp-Int (pos m) (pos n) ∙ grind (arith, nat_tests)

pub numbers_tied : (m n : ℕ) → m ≡ n → value_cmp (Int (pos m)) (Int (pos n)) ≡ Equal
numbers_tied m n e = value_cmp-Int (pos m) (pos n) ∙ grind (arith, nat_tests)
