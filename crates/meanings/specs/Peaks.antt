-- Peak: the highest reading of a thermometer, in tenths of a degree from -400 to 1,200.
use Rattle.std.specs.Prelude.{ℕ, ◌<◌, false, cond, ℤ, pos, negsuc, ◌+ℤ◌, ◌-ℤ◌, ◌≤ℤ◌, ◌==◌, int_le, int_lt, nat_lt, unsigned_abs}
use Rattle.std.proofs.Math.Decide.{dec_lt}
use Rattle.std.proofs.Common.{arith}
use Rattle.std.proofs.lemmas.Int.{ints}
use Rattle.bits.specs.declared.Bits.{Bits}
use Rattle.bits.specs.Fits.{lowest}
use Rattle.lattice.specs.Meaning.{Meaning}

pub record Reading : Type 0 where
  pub tenths : ℤ
  pub low : negsuc 399 ≤ℤ tenths
  pub high : tenths ≤ℤ pos 1200

-- the reading of n - 400 tenths
abbrev pub reading : (n : ℕ) → n < 1601 → Reading
reading n h = record { tenths = pos n -ℤ pos 400; low = omega (arith, ints); high = omega (arith, ints) }

-- the lowest reading, -400 tenths
abbrev pub coldest : Reading
coldest = record { tenths = negsuc 399; low = omega (arith, ints); high = omega (arith, ints) }

-- a code's reading, and of a code above 1,600 the lowest one
abbrev pub reading_of : ℕ → Reading
reading_of n = elim (dec_lt n 1601) [ yes h ↦ reading n h | no _ ↦ coldest ]

abbrev pub higher : Reading → Reading → Reading
higher a b = cond (int_lt a.tenths b.tenths) b a

-- the one word is the reading plus 400
abbrev pub peak_word : Reading → ℕ → Bits 32
peak_word a i = cond (i == 0) (lowest 32 (unsigned_abs (a.tenths +ℤ pos 400))) (lowest 32 0)

abbrev pub peak_meaning : Meaning
peak_meaning = record {
  Value = Reading;
  bottom = coldest;
  admits = λ c. nat_lt c.value 1601;
  value = λ c. reading_of c.value;
  clash = λ a b. false;
  join = higher;
  below = λ a b. int_le a.tenths b.tenths;
  label = lowest 8 2;
  width = 1;
  word = peak_word;
}
