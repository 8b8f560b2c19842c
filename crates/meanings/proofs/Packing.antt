-- A number and its bits.
use Rattle.std.proofs.Common.{◌≡◌, ℕ, zero, suc, ◌+◌, ◌-◌, ◌*◌, ◌/◌, ◌%◌, ◌^◌, ◌<◌, Bool, true, false, cond, ◌||◌, eqb, sym, refl, ap, ◌∙◌, subst, ⊎_elim, mod-eq_of_lt, pow-suc, arith}
use native.Mathlib.Nat.{mul-add-mod_self_right, div-eq_of_lt}
use lib.Bits.{bit_or}
use Rattle.std.proofs.lemmas.Nat.{pow-add, pow_pos, pow_below, mod-pow-add, field_of, shr_high, mod_below, or_shr, or_mod}
use Rattle.std.proofs.lemmas.Bool.{cases_lt, cases_order, eq-eqb, ne_eqb}
use Rattle.meanings.specs.Packed.{bit, packed}

module _ (p : ℕ → Bool) where
  pub packed_below : (m : ℕ) → packed p m < 2 ^ m
  unfolding packed
  packed_below zero = omega arith
  packed_below (suc m) = more (p m) (packed p m) (packed_below m)
    where
      more : (b : Bool) (x : ℕ) → x < 2 ^ m → x + cond b (2 ^ m) 0 < 2 ^ suc m
      more true x h = omega (arith, pow-suc 2 m)
      more false x h = omega (arith, pow-suc 2 m)

-- a bit j is told by the number modulo 2 ^ (1 + j)
bit_of_low : (n j : ℕ) → bit n j ≡ eqb (n % 2 ^ (1 + j) / 2 ^ j) 1
bit_of_low n j = ap (λ (k : ℕ). eqb k 1) (sym (field_of n 1 j))

-- a bit above does not show in those below
module _ (m x : ℕ) where
  low_kept : (j : ℕ) → j < m → (x + 2 ^ m) % 2 ^ (1 + j) ≡ x % 2 ^ (1 + j)
  low_kept j h =
      let k = 1 + j in
      let split : 2 ^ m ≡ 2 ^ (m - k) * 2 ^ k = ap (λ (e : ℕ). 2 ^ e) (omega arith) ∙ pow-add 2 (m - k) k in
      ap (λ (y : ℕ). y % 2 ^ k) (omega (arith, split)) ∙ mul-add-mod_self_right (2 ^ (m - k)) (2 ^ k) x

  bit_kept : (b : Bool) (j : ℕ) → j < m → bit (x + cond b (2 ^ m) 0) j ≡ bit x j
  bit_kept true j h = bit_of_low (x + 2 ^ m) j ∙ ap (λ (k : ℕ). eqb (k / 2 ^ j) 1) (low_kept j h) ∙ sym (bit_of_low x j)
  bit_kept false j h = ap (λ (k : ℕ). bit k j) (omega arith)

  bit_top : (b : Bool) → x < 2 ^ m → bit (x + cond b (2 ^ m) 0) m ≡ b
  bit_top true h = ap (λ (k : ℕ). eqb (k % 2) 1) (ap (λ (y : ℕ). y / 2 ^ m) (omega arith) ∙ shr_high 1 m x h)
  bit_top false h = ap (λ (k : ℕ). eqb (k % 2) 1) (ap (λ (y : ℕ). y / 2 ^ m) (omega arith) ∙ shr_high 0 m x h)

module _ (p : ℕ → Bool) where
  -- the bits of a packed number are those that were packed
  pub bit_packed : (m j : ℕ) → j < m → bit (packed p m) j ≡ p j
  unfolding packed
  bit_packed zero j h = absurd (omega arith)
  bit_packed (suc m) j h =
      ⊎_elim (λ l. bit_kept m (packed p m) (p m) j l ∙ bit_packed m j l)
      (λ g. let same : m ≡ j = omega arith in subst (λ (k : ℕ). bit (packed p m + cond (p m) (2 ^ m) 0) k ≡ p k) same (bit_top m (packed p m) (p m) (packed_below p m)))
      (cases_lt j m)

-- the top bit of a number's lowest m + 1
top_bit : (r m : ℕ) → r < 2 → cond (eqb r 1) (2 ^ m) 0 ≡ r * 2 ^ m
top_bit zero m h = omega arith
top_bit (suc zero) m h = omega arith
top_bit (suc (suc r)) m h = absurd (omega arith)

-- packing the bits of a number gives it back
pub packed_bits : (n m : ℕ) → packed (bit n) m ≡ n % 2 ^ m
unfolding packed
packed_bits n zero = omega arith
packed_bits n (suc m) =
    let lower = packed_bits n m in
    let top = top_bit (n / 2 ^ m % 2) m (mod_below (n / 2 ^ m) 2 (omega arith)) in
    let whole = mod-pow-add n 1 m in
    let power : 2 ^ suc m ≡ 2 ^ (1 + m) = ap (λ (e : ℕ). 2 ^ e) (omega arith) in
    (λ i. lower i + top i) ∙ omega arith ∙ sym whole ∙ ap (λ (k : ℕ). n % k) (sym power)

pub packed_same : (p q : ℕ → Bool) (m : ℕ) → ((j : ℕ) → j < m → p j ≡ q j) → packed p m ≡ packed q m
unfolding packed
packed_same p q zero f = refl
packed_same p q (suc m) f = λ i. packed_same p q m (λ j h. f j (omega arith)) i + cond (f m (omega arith) i) (2 ^ m) 0

-- numbers of m bits with the same bits are the same
pub bits_same : (m x y : ℕ) → x < 2 ^ m → y < 2 ^ m → ((j : ℕ) → j < m → bit x j ≡ bit y j) → x ≡ y
bits_same m x y p q f = sym (mod-eq_of_lt p) ∙ sym (packed_bits x m) ∙ packed_same (bit x) (bit y) m f ∙ packed_bits y m ∙ mod-eq_of_lt q

-- a bit of two numbers taken together
or_of_bits : (r s : ℕ) → r < 2 → s < 2 → eqb (bit_or r s) 1 ≡ (eqb r 1 || eqb s 1)
or_of_bits zero zero p q = refl
or_of_bits zero (suc zero) p q = refl
or_of_bits (suc zero) zero p q = refl
or_of_bits (suc zero) (suc zero) p q = refl
or_of_bits zero (suc (suc s)) p q = absurd (omega arith)
or_of_bits (suc zero) (suc (suc s)) p q = absurd (omega arith)
or_of_bits (suc (suc r)) s p q = absurd (omega arith)

pub bit_bit_or : (x y j : ℕ) → bit (bit_or x y) j ≡ (bit x j || bit y j)
bit_bit_or x y j =
    ap (λ (k : ℕ). eqb (k % 2) 1) (or_shr x y j)
    ∙ ap (λ (k : ℕ). eqb k 1) (or_mod (x / 2 ^ j) (y / 2 ^ j) 1)
    ∙ or_of_bits (x / 2 ^ j % 2) (y / 2 ^ j % 2) (mod_below (x / 2 ^ j) 2 (omega arith)) (mod_below (y / 2 ^ j) 2 (omega arith))

-- a bit past a number's last is not set
bit_past : (x j : ℕ) → x < 2 ^ j → bit x j ≡ false
bit_past x j h = ap (λ (k : ℕ). eqb (k % 2) 1) (div-eq_of_lt h)

pub bit_zero : (j : ℕ) → bit 0 j ≡ false
bit_zero j = bit_past 0 j (pow_pos j)

-- a power of two has one bit
pub bit_power : (k j : ℕ) → bit (2 ^ k) j ≡ eqb j k
bit_power k j = ⊎_elim at (⊎_elim under above) (cases_order j k)
  where
    alone : (m : ℕ) → bit (2 ^ k) m ≡ bit (0 + 2 ^ k) m
    alone m = ap (λ (x : ℕ). bit x m) (omega arith)

    at : j ≡ k → bit (2 ^ k) j ≡ eqb j k
    at e = ap (λ (m : ℕ). bit (2 ^ k) m) e ∙ alone k ∙ bit_top k 0 true (pow_pos k) ∙ sym (eq-eqb j k e)

    under : j < k → bit (2 ^ k) j ≡ eqb j k
    under h = alone j ∙ bit_kept k 0 true j h ∙ bit_zero j ∙ sym (ne_eqb j k (λ e. absurd (omega arith)))

    above : k < j → bit (2 ^ k) j ≡ eqb j k
    above h = bit_past (2 ^ k) j (pow_below k j h) ∙ sym (ne_eqb j k (λ e. absurd (omega arith)))
