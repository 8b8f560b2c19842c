-- Both: a value of one lattice beside a value of another.
use Rattle.std.specs.Prelude.{ℕ, ◌+◌, ◌-◌, ◌*◌, ◌/◌, ◌%◌, Bool, cond, ◌&&◌, ◌||◌, ◌==◌, nat_lt}
use Rattle.bits.specs.declared.Bits.{Bits}
use Rattle.bits.specs.Fits.{lowest}
use Rattle.lattice.specs.Meaning.{Meaning}
use Rattle.lattice.specs.Widths.{wide}

-- an even code goes to the first lattice, an odd one to the second
abbrev pub even : Bits 18 → Bool
even c = c.value % 2 == 0

-- c / 2 of an even code, (c - 1) / 2 of an odd one
abbrev pub half : Bits 18 → Bits 18
half c = lowest 18 (c.value / 2)

module _ (K L : Meaning) where
  abbrev pub both_clash : K.Value × L.Value → K.Value × L.Value → Bool
  both_clash a b = K.clash a.0 b.0 || L.clash a.1 b.1

  -- where a side clashes, both sides stay
  abbrev pub both_join : K.Value × L.Value → K.Value × L.Value → K.Value × L.Value
  both_join a b = cond (both_clash a b) a (K.join a.0 b.0, L.join a.1 b.1)

  -- the words of the first, then those of the second
  abbrev pub both_word : K.Value × L.Value → ℕ → Bits 32
  both_word a i = cond (nat_lt i (wide K.width L.width)) (cond (nat_lt i K.width) (K.word a.0 i) (L.word a.1 (i - K.width))) (lowest 32 0)

  abbrev pub both_meaning : Meaning
  both_meaning = record {
    Value = K.Value × L.Value;
    bottom = (K.bottom, L.bottom);
    admits = λ c. cond (even c) (K.admits (half c)) (L.admits (half c));
    value = λ c. cond (even c) (K.value (half c), L.bottom) (K.bottom, L.value (half c));
    clash = both_clash;
    join = both_join;
    below = λ a b. K.below a.0 b.0 && L.below a.1 b.1;
    label = lowest 8 (5 * K.label.value + 3 * L.label.value + 64);
    width = wide K.width L.width;
    word = both_word;
  }
