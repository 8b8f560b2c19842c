-- Set keeps the laws.
use Rattle.std.proofs.Common.{◌≡◌, ℕ, ◌+◌, ◌*◌, ◌/◌, ◌%◌, ◌<◌, Bool, true, false, not, ◌||◌, ltb, sym, refl, ap, ◌∙◌, mod-eq_of_lt, arith}
use mathlib.Core.Bool.{or_self, or_comm, or_assoc}
use Rattle.std.proofs.lemmas.Bool.{ltb-false, le-ltb, lt-ltb, ne_eqb, cond-true, cond-false}
use Rattle.bits.specs.declared.Bits.{Bits}
use Rattle.bits.specs.Fits.{lowest}
use Rattle.bits.proofs.Same.{same_bits}
use Rattle.lattice.specs.Meaning.{Laws}
use Rattle.meanings.specs.Packed.{bit, packed}
use Rattle.meanings.specs.Sets.{NumberSet, set_word, set_meaning}
use Rattle.meanings.proofs.Joining.{Joining, pointwise, laws_of}
use Rattle.meanings.proofs.Packing.{packed_below, bit_packed}

pub implied : (x y : Bool) → (not x || y) ≡ true → (x || y) ≡ y
implied true y e = sym e
implied false y e = refl

pub implies : (x y : Bool) → (x || y) ≡ y → (not x || y) ≡ true
implies true y e = sym e
implies false y e = refl

-- whether a number is in a set
membership : Joining Bool false ◌||◌ (λ x y. not x || y)
membership = record { self = or_self; comm = or_comm; assoc = or_assoc; unit = λ x. refl; below_is = implied; is_below = implies }

pub word_in : (a : NumberSet) (i : ℕ) → i < 8 → (set_word a i).value ≡ packed (λ j. a (lowest 8 (32 * i + j))) 32
word_in a i h =
    let p : ℕ → Bool = λ j. a (lowest 8 (32 * i + j)) in
    ap (λ (w : Bits 32). w.value) (cond-true {A = Bits 32} (ltb i 8) (lowest 32 (packed p 32)) (lowest 32 0) (lt-ltb i 8 h)) ∙ mod-eq_of_lt (packed_below p 32)

-- a number is bit (n mod 32) of word (n / 32)
module _ (a : NumberSet) (e : Bits 8) where
  pub number_place : lowest 8 (32 * (e.value / 32) + e.value % 32) ≡ e
  number_place = same_bits (lowest 8 (32 * (e.value / 32) + e.value % 32)) e (omega (arith, e.fits))

  pub number_in : bit (set_word a (e.value / 32)).value (e.value % 32) ≡ a e
  number_in =
      let p : ℕ → Bool = λ j. a (lowest 8 (32 * (e.value / 32) + j)) in
      ap (λ (w : ℕ). bit w (e.value % 32)) (word_in a (e.value / 32) (omega (arith, e.fits)))
      ∙ bit_packed p 32 (e.value % 32) (omega arith)
      ∙ ap a number_place

pub set_laws : Laws set_meaning
set_laws = laws_of set_meaning (λ a b. refl) (pointwise membership)
    (λ c n i e. ne_eqb e.value c.value (λ s. let big = ltb-false c.value 256 n in absurd (omega (arith, e.fits))) i)
    (λ a i h. ap (λ (w : Bits 32). w.value) (cond-false {A = Bits 32} (ltb i 8) (lowest 32 (packed (λ j. a (lowest 8 (32 * i + j))) 32)) (lowest 32 0) (le-ltb i 8 h)))
    (λ w a b f i e. (sym (number_in a e) ∙ ap (λ (v : Bits 32). bit v.value (e.value % 32)) (f (e.value / 32) (omega (arith, e.fits))) ∙ number_in b e) i)
