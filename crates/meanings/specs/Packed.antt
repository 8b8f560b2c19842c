-- Numbers as rows of bits.
use Rattle.std.specs.Prelude.{ℕ, zero, suc, ◌+◌, ◌/◌, ◌%◌, ◌^◌, Bool, cond, ◌==◌}

-- whether bit j of a number is set
abbrev pub bit : ℕ → ℕ → Bool
bit n j = n / 2 ^ j % 2 == 1

-- the number whose bit j, for each j below m, is set where the test passes at j
unfoldable pub packed : (ℕ → Bool) → ℕ → ℕ
packed p zero = 0
packed p (suc m) = packed p m + cond (p m) (2 ^ m) 0
