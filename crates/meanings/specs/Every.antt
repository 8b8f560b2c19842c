-- Tests at every number of n bits.
use Rattle.std.specs.Prelude.{ℕ, zero, suc, ◌^◌, Bool, true, ◌&&◌}
use Rattle.bits.specs.declared.Bits.{Bits}
use Rattle.bits.specs.Fits.{lowest}

-- whether a test passes at each number below m
unfoldable pub upto : (ℕ → Bool) → ℕ → Bool
upto p zero = true
upto p (suc m) = p m && upto p m

-- whether a test passes at each number of n bits
abbrev pub every : (n : ℕ) → (Bits n → Bool) → Bool
every n p = upto (λ i. p (lowest n i)) (2 ^ n)
