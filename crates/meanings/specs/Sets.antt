-- Set: a set of the numbers below 256.
use Rattle.std.specs.Prelude.{ℕ, ◌+◌, ◌*◌, Bool, false, cond, not, ◌||◌, ◌==◌, nat_lt}
use Rattle.bits.specs.declared.Bits.{Bits}
use Rattle.bits.specs.Fits.{lowest}
use Rattle.lattice.specs.Meaning.{Meaning}
use Rattle.meanings.specs.Every.{every}
use Rattle.meanings.specs.Packed.{packed}

-- which numbers below 256 are in it
abbrev pub NumberSet : Type 0
NumberSet = Bits 8 → Bool

-- the set of one number, which is empty if the number is 256 or more
abbrev pub only : ℕ → NumberSet
only n = λ e. (e.value == n)

abbrev pub union : NumberSet → NumberSet → NumberSet
union a b = λ e. a e || b e

abbrev pub within : NumberSet → NumberSet → Bool
within a b = every 8 (λ e. not (a e) || b e)

-- bit j of word i is set where 32 i + j is in the set
abbrev pub set_word : NumberSet → ℕ → Bits 32
set_word a i = cond (nat_lt i 8) (lowest 32 (packed (λ j. a (lowest 8 (32 * i + j))) 32)) (lowest 32 0)

abbrev pub set_meaning : Meaning
set_meaning = record {
  Value = NumberSet;
  bottom = λ e. false;
  admits = λ c. nat_lt c.value 256;
  value = λ c. only c.value;
  clash = λ a b. false;
  join = union;
  below = within;
  label = lowest 8 1;
  width = 8;
  word = set_word;
}
