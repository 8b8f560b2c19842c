-- A test passes at every number of n bits exactly when it passes at each.
use Rattle.std.proofs.Common.{◌≡◌, ℕ, zero, suc, ◌^◌, ◌<◌, Bool, true, false, refl, subst, ⊎_elim, mod-eq_of_lt, arith}
use Rattle.std.proofs.lemmas.Bool.{and_parts, and_from, cases_lt, cases_Bool, both_ways}
use Rattle.bits.specs.declared.Bits.{Bits}
use Rattle.bits.specs.Fits.{lowest}
use Rattle.bits.proofs.Same.{same_bits}
use Rattle.meanings.specs.Every.{upto, every}

module _ (p : ℕ → Bool) where
  upto_each : (m : ℕ) → upto p m ≡ true → (i : ℕ) → i < m → p i ≡ true
  unfolding upto
  upto_each zero e i h = absurd (omega arith)
  upto_each (suc m) e i h =
      let both = and_parts (p m) (upto p m) e in
      ⊎_elim (λ l. upto_each m both.1 i l) (λ g. let same : m ≡ i = omega arith in subst (λ (k : ℕ). p k ≡ true) same both.0) (cases_lt i m)

  upto_from : (m : ℕ) → ((i : ℕ) → i < m → p i ≡ true) → upto p m ≡ true
  unfolding upto
  upto_from zero f = refl
  upto_from (suc m) f = and_from (p m) (upto p m) (f m (omega arith)) (upto_from m (λ i h. f i (omega arith)))

-- a number of n bits is its own lowest n bits
pub lowest_value : {n : ℕ} (b : Bits n) → lowest n b.value ≡ b
lowest_value {n} b = same_bits (lowest n b.value) b (mod-eq_of_lt b.fits)

module _ {n : ℕ} (p : Bits n → Bool) where
  pub every_each : every n p ≡ true → (b : Bits n) → p b ≡ true
  every_each e b = subst (λ c. p c ≡ true) (lowest_value b) (upto_each (λ i. p (lowest n i)) (2 ^ n) e b.value b.fits)

  pub every_from : ((b : Bits n) → p b ≡ true) → every n p ≡ true
  every_from f = upto_from (λ i. p (lowest n i)) (2 ^ n) (λ i h. f (lowest n i))

  -- it fails where it fails at one
  pub every_fails : (b : Bits n) → p b ≡ false → every n p ≡ false
  every_fails b e = ⊎_elim (λ t. absurd (both_ways (p b) e (every_each t b))) (λ f. f) (cases_Bool (every n p))
