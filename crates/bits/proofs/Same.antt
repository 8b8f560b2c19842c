-- A number of n bits is known by its value.
use Rattle.std.proofs.Common.{◌≡◌, ℕ, suc, ◌-◌, ◌*◌, ◌%◌, ◌^◌, ◌<◌, ◌≤◌, Some, None, Option, nat_lt, leb, sym, refl, ap, ◌∙◌, mod-eq_of_lt, arith, pow_mono}
use mathlib.Core.HLevel.{is_prop→PathP}
use native.Mathlib.Bridge.{le_prop}
use native.Mathlib.Decide.{dec_lt}
use lib.Bits.{bit_and}
use Rattle.std.proofs.lemmas.Nat.{and_mask, one_shl}
use Rattle.std.proofs.lemmas.Bool.{lt-ltb, le-leb}
use Rattle.bits.specs.declared.Bits.{Bits}
use Rattle.bits.specs.Fits.{fitted}

pub same_bits : {n : ℕ} (a b : Bits n) → a.value ≡ b.value → a ≡ b
same_bits {n} a b e = λ i. record { value = e i; fits = is_prop→PathP (λ j. e j < 2 ^ n) (λ j. le_prop {n = suc (e j)} {m = 2 ^ n}) a.fits b.fits i }

module _ {n : ℕ} where
  fitted_by : (v : ℕ) (h : v < 2 ^ n) (d : Dec (v < 2 ^ n)) → ◌≡◌ {A = Option (Bits n)} (elim d [ yes k ↦ Some (record { value = v; fits = k }) | no _ ↦ None ]) (Some (record { value = v; fits = h }))
  fitted_by v h (yes k) = ap Some (same_bits (record { value = v; fits = k }) (record { value = v; fits = h }) refl)
  fitted_by v h (no k) = absurd (k h)

  -- what fits is itself
  pub fitted_here : (v : ℕ) (h : v < 2 ^ n) → fitted n v ≡ Some (record { value = v; fits = h })
  fitted_here v h = fitted_by v h (dec_lt v (2 ^ n))

  pub fitted_value : (b : Bits n) → fitted n b.value ≡ Some b
  fitted_value b = fitted_here b.value b.fits

  large_by : (v : ℕ) → 2 ^ n ≤ v → (d : Dec (v < 2 ^ n)) → ◌≡◌ {A = Option (Bits n)} (elim d [ yes k ↦ Some (record { value = v; fits = k }) | no _ ↦ None ]) None
  large_by v h (yes k) = absurd (omega arith)
  large_by v h (no k) = refl

  pub fitted_large : (v : ℕ) → 2 ^ n ≤ v → fitted n v ≡ None
  fitted_large v h = large_by v h (dec_lt v (2 ^ n))

  some_by : (v : ℕ) (b : Bits n) (d : Dec (v < 2 ^ n)) → ◌≡◌ {A = Option (Bits n)} (elim d [ yes k ↦ Some (record { value = v; fits = k }) | no _ ↦ None ]) (Some b) → v ≡ b.value
  some_by v b (yes k) e = cc
  some_by v b (no k) e = cc

  -- a number of n bits came from its value
  pub fitted_from : (v : ℕ) (b : Bits n) → fitted n v ≡ Some b → v ≡ b.value
  fitted_from v b e = some_by v b (dec_lt v (2 ^ n)) e

-- a number of 32 bits fits into 32 bits and more
pub under_wide : (n v : ℕ) → 32 ≤ n → v < 2 ^ 32 → v < 2 ^ n
under_wide n v wide small = omega (arith, pow_mono {i = 32} {j = n} wide)

pub held_wide : (v n : ℕ) → 32 ≤ n → v < 2 ^ 32 → leb 32 n ≡ nat_lt v (2 ^ n)
held_wide v n wide small = le-leb 32 n wide ∙ sym (lt-ltb v (2 ^ n) (under_wide n v wide small))

-- a mask keeps the lowest n bits, and where n is 32 or more they are all
module _ (n v : ℕ) where
  pub by_mask : n < 32 → bit_and v ((1 * 2 ^ n) % 2 ^ 32 - 1) ≡ v % 2 ^ n
  by_mask h = ap (λ (m : ℕ). bit_and v (m - 1)) (one_shl n 32 h) ∙ and_mask v n

  pub all_wide : 32 ≤ n → v < 2 ^ 32 → v % 2 ^ n ≡ v
  all_wide wide small = mod-eq_of_lt (under_wide n v wide small)
