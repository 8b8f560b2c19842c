-- Versions keeps the laws.
use Rattle.std.proofs.Common.{◌≡◌, ℕ, ◌^◌, ◌<◌, max, true, ltb, leb, sym, refl, ap, ◌∙◌, mod-eq_of_lt, arith}
use Rattle.std.proofs.lemmas.Nat.{pow_pos}
use Rattle.std.proofs.lemmas.Bool.{leb-true, le-leb, le-ltb, lt-ltb, cond-true, cond-false, cond_both, ltb-true, ltb-false, both_ways}
use Rattle.bits.specs.declared.Bits.{Bits}
use Rattle.bits.specs.Fits.{lowest}
use Rattle.bits.proofs.Same.{same_bits}
use Rattle.lattice.specs.Meaning.{Laws}
use Rattle.meanings.specs.Versions.{Counts, larger, versions_word, versions_meaning}
use Rattle.meanings.proofs.Everywhere.{lowest_value}
use Rattle.meanings.proofs.Joining.{Joining, pointwise, laws_of}

module _ {n : ℕ} where
  pub larger_value : (a b : Bits n) → (larger a b).value ≡ max a.value b.value
  larger_value a b = cond_both {A = Bits n} (ltb a.value b.value) b a (λ r. r.value ≡ max a.value b.value)
      (λ e. omega (arith, ltb-true a.value b.value e)) (λ e. omega (arith, ltb-false a.value b.value e))

  -- a count
  counting : Joining (Bits n) (lowest n 0) larger (λ a b. leb a.value b.value)
  counting = record {
    self = λ a. same_bits (larger a a) a (larger_value a a ∙ omega arith);
    comm = λ a b. same_bits (larger a b) (larger b a) (larger_value a b ∙ omega arith ∙ sym (larger_value b a));
    assoc = λ a b c. same_bits (larger (larger a b) c) (larger a (larger b c))
        (larger_value (larger a b) c ∙ ap (λ (x : ℕ). max x c.value) (larger_value a b) ∙ omega arith
        ∙ ap (λ (x : ℕ). max a.value x) (sym (larger_value b c)) ∙ sym (larger_value a (larger b c)));
    unit = λ a. same_bits (larger (lowest n 0) a) a (larger_value (lowest n 0) a ∙ ap (λ (x : ℕ). max x a.value) (mod-eq_of_lt (pow_pos n)) ∙ omega arith);
    below_is = λ a b e. same_bits (larger a b) b (larger_value a b ∙ omega (arith, leb-true a.value b.value e));
    is_below = λ a b e. le-leb a.value b.value (let v = ap (λ (x : Bits n). x.value) e in let m = larger_value a b in omega arith);
  }

-- word s is the count of slot s
module _ (a : Counts) where
  pub count_word : (s : Bits 3) → (versions_word a s.value).value ≡ (a s).value
  count_word s =
      let c = a (lowest 3 s.value) in
      let small : c.value < 2 ^ 32 = omega (arith, c.fits) in
      ap (λ (w : Bits 32). w.value) (cond-true {A = Bits 32} (ltb s.value 8) (lowest 32 c.value) (lowest 32 0) (lt-ltb s.value 8 s.fits))
      ∙ mod-eq_of_lt small
      ∙ ap (λ (t : Bits 3). (a t).value) (lowest_value s)

pub versions_laws : Laws versions_meaning
versions_laws = laws_of versions_meaning (λ a b. refl) (pointwise counting)
    (λ c n. absurd (both_ways true n refl))
    (λ a i h. ap (λ (w : Bits 32). w.value) (cond-false {A = Bits 32} (ltb i 8) (lowest 32 (a (lowest 3 i)).value) (lowest 32 0) (le-ltb i 8 h)))
    (λ w a b f i s. same_bits (a s) (b s) (sym (count_word a s) ∙ ap (λ (v : Bits 32). v.value) (f s.value s.fits) ∙ count_word b s) i)
