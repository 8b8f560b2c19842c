-- Eight words as a set of numbers.
use Rattle.std.proofs.Common.{◌≡◌, ℕ, ◌+◌, ◌*◌, ◌/◌, ◌%◌, ◌^◌, ◌<◌, ◌≤◌, Bool, true, not, ◌||◌, eqb, ltb, List, length, get_or, set, replicate, sym, ap, ◌∙◌, ⊎_elim, mod-eq_of_lt, arith, get_or-set_other, get_or-set_same}
use Rattle.std.proofs.lemmas.List.{get_or_past}
use lib.Bits.{bit_or}
use Rattle.std.proofs.lemmas.Nat.{or_lt}
use Rattle.std.proofs.lemmas.Bool.{cases_eq, cases_lt, eq-eqb, ne_eqb, eqb-true, cond-false, le-ltb}
use Rattle.bits.specs.declared.Bits.{Bits}
use Rattle.bits.specs.Fits.{lowest}
use Rattle.meanings.specs.Packed.{bit, packed}
use Rattle.meanings.specs.Sets.{NumberSet, only, union, within, set_word}
use Rattle.meanings.proofs.Everywhere.{every_each, every_from}
use Rattle.meanings.proofs.Packing.{bit_bit_or, bit_power, bit_zero, bits_same, packed_bits, packed_same}
use Rattle.meanings.proofs.SetLaws.{word_in, implied, implies}
use Rattle.meanings.proofs.Slotwise.{blank}

-- the numbers that words hold
abbrev pub held : List ℕ → NumberSet
held ws = λ e. bit (get_or ws (e.value / 32) 0) (e.value % 32)

-- one bit in one word is one number
pub one_number : (n : ℕ) → n < 256 → held (set (replicate 8 0) (n / 32) (2 ^ (n % 32))) ≡ only n
one_number n small = λ i e. at e i
  where
    at : (e : Bits 8) → held (set (replicate 8 0) (n / 32) (2 ^ (n % 32))) e ≡ eqb e.value n
    at e = ⊎_elim
        (λ s. ap (λ (k : ℕ). bit (get_or (set (replicate 8 0) (n / 32) (2 ^ (n % 32))) k 0) (e.value % 32)) s
        ∙ ap (λ (w : ℕ). bit w (e.value % 32)) (get_or-set_same (replicate 8 0) (n / 32) (2 ^ (n % 32)) 0 (omega arith))
        ∙ bit_power (n % 32) (e.value % 32)
        ∙ ⊎_elim (λ r. eq-eqb (e.value % 32) (n % 32) r ∙ sym (eq-eqb e.value n (omega arith)))
        (λ r. ne_eqb (e.value % 32) (n % 32) r ∙ sym (ne_eqb e.value n (λ q. r (ap (λ (k : ℕ). k % 32) q))))
        (cases_eq (e.value % 32) (n % 32)))
        (λ s. ap (λ (w : ℕ). bit w (e.value % 32)) (get_or-set_other (replicate 8 0) (n / 32) (e.value / 32) (2 ^ (n % 32)) 0 s ∙ blank 0 8 (e.value / 32))
        ∙ bit_zero (e.value % 32)
        ∙ sym (ne_eqb e.value n (λ q. s (ap (λ (k : ℕ). k / 32) q))))
        (cases_eq (e.value / 32) (n / 32))

-- words taken together, one by one, are sets taken together
pub held_merged : (a b ws : List ℕ) → ((k : ℕ) → k < 8 → get_or ws k 0 ≡ bit_or (get_or a k 0) (get_or b k 0)) → held ws ≡ union (held a) (held b)
held_merged a b ws m = λ t e. (ap (λ (w : ℕ). bit w (e.value % 32)) (m (e.value / 32) (omega (arith, e.fits))) ∙ bit_bit_or (get_or a (e.value / 32) 0) (get_or b (e.value / 32) 0) (e.value % 32)) t

-- a test of two words, and of their bits
abbrev pub inside : ℕ → ℕ → Bool
inside x y = eqb (bit_or x y) y

pub held_within : (a b : List ℕ) → ((k : ℕ) → k < 8 → inside (get_or a k 0) (get_or b k 0) ≡ true) → within (held a) (held b) ≡ true
held_within a b f = every_from (λ e. not (held a e) || held b e) (λ e.
    let x = get_or a (e.value / 32) 0 in
    let y = get_or b (e.value / 32) 0 in
    let same = eqb-true (bit_or x y) y (f (e.value / 32) (omega (arith, e.fits))) in
    implies (held a e) (held b e) (sym (bit_bit_or x y (e.value % 32)) ∙ ap (λ (w : ℕ). bit w (e.value % 32)) same))

-- the bits of word k
module _ (ws : List ℕ) (k : ℕ) (small : k < 8) where
  abbrev number_at : (j : ℕ) → j < 32 → Bits 8
  number_at j h = record { value = 32 * k + j; fits = omega arith }

  held_at : (j : ℕ) (h : j < 32) → held ws (number_at j h) ≡ bit (get_or ws k 0) j
  held_at j h =
      let row : (32 * k + j) / 32 ≡ k = omega arith in
      let col : (32 * k + j) % 32 ≡ j = omega arith in
      λ i. bit (get_or ws (row i) 0) (col i)

pub within_held : (a b : List ℕ) (k : ℕ) → k < 8 → get_or a k 0 < 2 ^ 32 → get_or b k 0 < 2 ^ 32 → within (held a) (held b) ≡ true → inside (get_or a k 0) (get_or b k 0) ≡ true
within_held a b k small p q e =
    let x = get_or a k 0 in
    let y = get_or b k 0 in
    eq-eqb (bit_or x y) y (bits_same 32 (bit_or x y) y (or_lt 32 x y p q) q (λ j h.
    bit_bit_or x y j
    ∙ sym (λ i. held_at a k small j h i || held_at b k small j h i)
    ∙ implied (held a (number_at a k small j h)) (held b (number_at b k small j h)) (every_each (λ n. not (held a n) || held b n) e (number_at a k small j h))
    ∙ held_at b k small j h))

-- a word is made of its numbers
pub word_held : (ws : List ℕ) (i : ℕ) → length ws ≡ 8 → get_or ws i 0 < 2 ^ 32 → get_or ws i 0 ≡ (set_word (held ws) i).value
word_held ws i eight fits = ⊎_elim inner outer (cases_lt i 8)
  where
    inner : i < 8 → get_or ws i 0 ≡ (set_word (held ws) i).value
    inner h =
        let bits : (j : ℕ) → j < 32 → bit (get_or ws i 0) j ≡ held ws (lowest 8 (32 * i + j)) = λ j l.
        let row : i ≡ (32 * i + j) % 2 ^ 8 / 32 = omega arith in
        let col : j ≡ (32 * i + j) % 2 ^ 8 % 32 = omega arith in
        λ t. bit (get_or ws (row t) 0) (col t) in
        sym (mod-eq_of_lt fits)
        ∙ sym (packed_bits (get_or ws i 0) 32)
        ∙ packed_same (bit (get_or ws i 0)) (λ j. held ws (lowest 8 (32 * i + j))) 32 bits
        ∙ sym (word_in (held ws) i h)

    outer : 8 ≤ i → get_or ws i 0 ≡ (set_word (held ws) i).value
    outer h = get_or_past ws i 0 (omega arith) ∙ sym (ap (λ (w : Bits 32). w.value) (cond-false {A = Bits 32} (ltb i 8) (lowest 32 (packed (λ j. held ws (lowest 8 (32 * i + j))) 32)) (lowest 32 0) (le-ltb i 8 h)))
