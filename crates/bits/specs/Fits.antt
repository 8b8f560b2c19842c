-- Numbers of n bits.
use Rattle.std.specs.Prelude.{ℕ, ◌%◌, ◌^◌, Some, None, Option}
use Rattle.std.proofs.Math.Decide.{dec_lt}
use Rattle.std.proofs.lemmas.Nat.{mod_below, pow_pos}
use Rattle.bits.specs.declared.Bits.{Bits}

-- a number as one of n bits, if n bits hold it
abbrev pub fitted : (n : ℕ) → ℕ → Option (Bits n)
fitted n v = elim (dec_lt v (2 ^ n)) [ yes h ↦ Some (record { value = v; fits = h }) | no _ ↦ None ]

-- the lowest n bits of a number
abbrev pub lowest : (n : ℕ) → ℕ → Bits n
lowest n v = record { value = v % 2 ^ n; fits = mod_below v (2 ^ n) (pow_pos n) }
