-- Versions: a count from 0 to 32,767 for each of eight slots.
use Rattle.std.specs.Prelude.{ℕ, ◌/◌, ◌%◌, Bool, true, false, cond, ◌==◌, nat_le, nat_lt}
use Rattle.bits.specs.declared.Bits.{Bits}
use Rattle.bits.specs.Fits.{lowest}
use Rattle.lattice.specs.Meaning.{Meaning}
use Rattle.meanings.specs.Every.{every}

abbrev pub Counts : Type 0
Counts = Bits 3 → Bits 15

-- one slot's count, the others being 0
abbrev pub single : ℕ → Bits 15 → Counts
single slot count = λ s. cond (s.value == slot) count (lowest 15 0)

abbrev pub larger : {n : ℕ} → Bits n → Bits n → Bits n
larger a b = cond (nat_lt a.value b.value) b a

-- the larger count, slot by slot
abbrev pub latest : Counts → Counts → Counts
latest a b = λ s. larger (a s) (b s)

-- no slot has more than the second has
abbrev pub behind : Counts → Counts → Bool
behind a b = every 3 (λ s. nat_le (a s).value (b s).value)

abbrev pub versions_word : Counts → ℕ → Bits 32
versions_word a i = cond (nat_lt i 8) (lowest 32 (a (lowest 3 i)).value) (lowest 32 0)

-- a code is a slot and eight times a count
abbrev pub versions_meaning : Meaning
versions_meaning = record {
  Value = Counts;
  bottom = λ s. lowest 15 0;
  admits = λ c. true;
  value = λ c. single (c.value % 8) (lowest 15 (c.value / 8));
  clash = λ a b. false;
  join = latest;
  below = behind;
  label = lowest 8 4;
  width = 8;
  word = versions_word;
}
