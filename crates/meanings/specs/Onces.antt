-- Once: a number below 65,536, written once.
use Rattle.std.specs.Prelude.{ℕ, Bool, true, false, cond, not, Some, None, Option, ◌==◌, nat_lt}
use Rattle.bits.specs.declared.Bits.{Bits}
use Rattle.bits.specs.Fits.{fitted, lowest}
use Rattle.lattice.specs.Meaning.{Meaning}

pub data Slate : Type 0 where
  empty : Slate
  written : Bits 16 → Slate

-- what was perhaps written
abbrev pub slate : Option (Bits 16) → Slate
slate None = empty
slate (Some n) = written n

-- two different numbers clash
abbrev pub differ : Slate → Slate → Bool
differ (written a) (written b) = not (a.value == b.value)
differ empty b = false
differ (written a) empty = false

-- what was written first
abbrev pub kept : Slate → Slate → Slate
kept empty b = b
kept (written a) b = written a

abbrev pub agrees : Slate → Slate → Bool
agrees empty b = true
agrees (written a) empty = false
agrees (written a) (written b) = a.value == b.value

-- 1 and the number, or 0 and 0
abbrev pub once_word : Slate → ℕ → Bits 32
once_word empty i = lowest 32 0
once_word (written a) i = cond (i == 0) (lowest 32 1) (cond (i == 1) (lowest 32 a.value) (lowest 32 0))

abbrev pub once_meaning : Meaning
once_meaning = record {
  Value = Slate;
  bottom = empty;
  admits = λ c. nat_lt c.value 65536;
  value = λ c. slate (fitted 16 c.value);
  clash = differ;
  join = kept;
  below = agrees;
  label = lowest 8 3;
  width = 2;
  word = once_word;
}
