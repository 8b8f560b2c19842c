-- The worked cases, as rows of one table.
use Rattle.std.specs.Prelude.{◌≡◌, ℕ, Bool, true, false, List, [], ◌∷◌, ℤ, pos, negsuc}
use Rattle.bits.specs.Fits.{lowest}
use Rattle.meanings.specs.Sets.{only}
use Rattle.meanings.specs.Onces.{empty, written}
use Rattle.meanings.specs.Peaks.{peak_meaning}
use Rattle.meanings.specs.Versions.{single}
use Rattle.cases.specs.Stacks.{Stack, set, peak, once, versions, lift, both, meaning_of}

-- the value of a code
abbrev pub value_of : (s : Stack) → ℕ → (meaning_of s).Value
value_of s n = (meaning_of s).value (lowest 18 n)

pub data Row : Type 0 where
  -- whether a stack admits a code
  admits : Stack → ℕ → Bool → Row
  -- the value of a code
  means : (s : Stack) → ℕ → (meaning_of s).Value → Row
  -- the tenths of a degree that a code is over Peak
  reads : ℕ → ℤ → Row
  -- two codes do not clash, and join to the value of a third
  joins : Stack → ℕ → ℕ → ℕ → Row
  -- two codes clash
  clashes : Stack → ℕ → ℕ → Row
  -- a stack's label and width
  tells : Stack → ℕ → ℕ → Row
  -- a code's value has, at an index, a word
  word : Stack → ℕ → ℕ → ℕ → Row

-- what a row says
abbrev pub Stands : Row → Type 0
Stands (admits s n b) = (meaning_of s).admits (lowest 18 n) ≡ b
Stands (means s n v) = value_of s n ≡ v
Stands (reads n z) = (peak_meaning.value (lowest 18 n)).tenths ≡ z
Stands (joins s m n k) = ((meaning_of s).clash (value_of s m) (value_of s n) ≡ false) × ((meaning_of s).join (value_of s m) (value_of s n) ≡ value_of s k)
Stands (clashes s m n) = (meaning_of s).clash (value_of s m) (value_of s n) ≡ true
Stands (tells s l w) = ((meaning_of s).label.value ≡ l) × ((meaning_of s).width ≡ w)
Stands (word s n i w) = ((meaning_of s).word (value_of s n) i).value ≡ w

-- Set beside Once
abbrev pub set_once : Stack
set_once = both set once

-- eight times Versions, side by side: 64 words
abbrev pub full : Stack
full = let two = both versions versions in let four = both two two in both four four

abbrev pub table : List Row
table =
    admits set 255 true
    ∷ admits set 256 false
    ∷ means set 255 (only 255)
    ∷ word set 40 1 256
    ∷ word set 40 8 0
    ∷ reads 0 (negsuc 399)
    ∷ reads 399 (negsuc 0)
    ∷ reads 400 (pos 0)
    ∷ reads 1600 (pos 1200)
    ∷ admits peak 1600 true
    ∷ admits peak 1601 false
    ∷ reads 1601 (negsuc 399)
    ∷ joins peak 399 400 400
    ∷ word peak 399 0 399
    ∷ admits once 65535 true
    ∷ admits once 65536 false
    ∷ joins once 7 7 7
    ∷ clashes once 7 8
    ∷ word once 7 0 1
    ∷ word once 7 1 7
    ∷ admits versions 262143 true
    ∷ means versions 19 (single 3 (lowest 15 2))
    ∷ joins versions 19 11 19
    ∷ word versions 19 3 2
    ∷ means set_once 14 (only 7, empty)
    ∷ means set_once 15 ((meaning_of set).bottom, written (lowest 16 7))
    ∷ clashes set_once 15 17
    ∷ tells set 1 8
    ∷ tells peak 2 1
    ∷ tells once 3 2
    ∷ tells versions 4 8
    ∷ tells set_once 78 10
    ∷ tells (lift peak) 34 2
    ∷ word (lift peak) 0 0 1
    ∷ word (lift peak) 1601 0 0
    ∷ tells (lift (lift peak)) 66 3
    -- wider than 64
    ∷ tells full 64 64
    ∷ tells (lift full) 96 65
    ∷ tells (lift (lift full)) 128 65
    ∷ tells (both (lift full) (lift full)) 64 65
    ∷ word full 191 63 2
    ∷ word (lift full) 191 64 2
    ∷ word (lift full) 191 65 0
    ∷ []
