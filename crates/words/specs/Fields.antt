-- The fields of a 32-bit word.
use Rattle.std.specs.Prelude.{ℕ, ◌/◌, ◌^◌, Bool, ◌==◌}
use Rattle.bits.specs.Fits.{lowest}
use Rattle.bits.specs.declared.Bits.{Bits}

-- the n bits of a word from bit `low` up
abbrev pub field : (low n : ℕ) → ℕ → Bits n
field low n w = lowest n (w / 2 ^ low)

-- whether a bit is set
abbrev pub flag : ℕ → ℕ → Bool
flag at w = (field at 1 w).value == 1

-- whether the n bits from bit `low` up are 0
abbrev pub clear : (low n : ℕ) → ℕ → Bool
clear low n w = (field low n w).value == 0

-- the top four bits
abbrev pub kind : ℕ → ℕ
kind w = (field 28 4 w).value
