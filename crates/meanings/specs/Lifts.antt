-- Lift: the values of a lattice, and "nothing yet" below them all.
use Rattle.std.specs.Prelude.{ℕ, ◌+◌, ◌-◌, Bool, true, false, cond, ◌==◌, nat_lt}
use Rattle.bits.specs.declared.Bits.{Bits}
use Rattle.bits.specs.Fits.{lowest}
use Rattle.lattice.specs.Meaning.{Meaning}
use Rattle.lattice.specs.Widths.{wide}

pub data Lifted (X : Type 0) : Type 0 where
  nothing_yet : Lifted X
  told : X → Lifted X

module _ (M : Meaning) where
  abbrev pub lift_clash : Lifted M.Value → Lifted M.Value → Bool
  lift_clash (told a) (told b) = M.clash a b
  lift_clash (told a) nothing_yet = false
  lift_clash nothing_yet b = false

  abbrev pub lift_join : Lifted M.Value → Lifted M.Value → Lifted M.Value
  lift_join nothing_yet b = b
  lift_join (told a) nothing_yet = told a
  lift_join (told a) (told b) = told (M.join a b)

  abbrev pub lift_below : Lifted M.Value → Lifted M.Value → Bool
  lift_below nothing_yet b = true
  lift_below (told a) nothing_yet = false
  lift_below (told a) (told b) = M.below a b

  -- whether there is a value
  abbrev pub flag : Lifted M.Value → Bits 32
  flag nothing_yet = lowest 32 0
  flag (told a) = lowest 32 1

  -- the value, or bottom in its place
  abbrev pub content : Lifted M.Value → M.Value
  content nothing_yet = M.bottom
  content (told a) = a

  -- the flag, then the words of the value or of bottom
  abbrev pub lift_word : Lifted M.Value → ℕ → Bits 32
  lift_word a i = cond (nat_lt i (wide 1 M.width)) (cond (i == 0) (flag a) (M.word (content a) (i - 1))) (lowest 32 0)

  abbrev pub lift_meaning : Meaning
  lift_meaning = record {
    Value = Lifted M.Value;
    bottom = nothing_yet;
    admits = M.admits;
    value = λ c. cond (M.admits c) (told (M.value c)) nothing_yet;
    clash = lift_clash;
    join = lift_join;
    below = lift_below;
    label = lowest 8 (M.label.value + 32);
    width = wide 1 M.width;
    word = lift_word;
  }
