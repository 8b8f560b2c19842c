-- Peak keeps the laws.
use Rattle.std.proofs.Common.{◌≡◌, ℕ, ◌%◌, ◌^◌, ◌<◌, ◌≤◌, true, eqb, ℤ, pos, negsuc, ◌+ℤ◌, ◌-ℤ◌, nat_abs, ◌≤ℤ◌, sym, refl, ap, ◌∙◌, mod-eq_of_lt, arith}
use mathlib.Core.HLevel.{is_prop→PathP}
use native.Mathlib.Decide.{dec_lt}
use lib.Dec.{T_prop}
use lib.Signed.{le_z, lt_z}
use Rattle.std.specs.Int.{int_max}
use Rattle.std.proofs.lemmas.Int.{ints, clamps}
use Rattle.std.proofs.lemmas.Bool.{ltb-false, ne_eqb, cond-false, cond_both}
use Rattle.bits.specs.declared.Bits.{Bits}
use Rattle.bits.specs.Fits.{lowest}
use Rattle.lattice.specs.Meaning.{Laws}
use Rattle.meanings.specs.Peaks.{Reading, reading, reading_of, coldest, higher, peak_word, peak_meaning}
use Rattle.meanings.proofs.Joining.{Joining, laws_of}

-- a reading is known by its tenths
pub same_reading : (a b : Reading) → a.tenths ≡ b.tenths → a ≡ b
same_reading a b e = λ i. record {
  tenths = e i;
  low = is_prop→PathP (λ j. negsuc 399 ≤ℤ e j) (λ j x y k. record { le = T_prop (le_z (negsuc 399) (e j)) x.le y.le k }) a.low b.low i;
  high = is_prop→PathP (λ j. e j ≤ℤ pos 1200) (λ j x y k. record { le = T_prop (le_z (e j) (pos 1200)) x.le y.le k }) a.high b.high i;
}

pub higher_tenths : (a b : Reading) → (higher a b).tenths ≡ int_max a.tenths b.tenths
higher_tenths a b = cond_both {A = Reading} (lt_z a.tenths b.tenths) b a (λ r. r.tenths ≡ int_max a.tenths b.tenths)
    (λ e. grind (arith, ints, e)) (λ e. grind (arith, ints, e))

at_most : (x y : ℤ) → le_z x y ≡ true → x ≤ℤ y
at_most x y e = grind (arith, ints)

at_most_test : (x y : ℤ) → x ≤ℤ y → le_z x y ≡ true
at_most_test x y e = grind (arith, ints)

heights : Joining Reading coldest higher (λ a b. le_z a.tenths b.tenths)
heights = record {
  self = λ a. same_reading (higher a a) a (higher_tenths a a ∙ omega (arith, ints, clamps));
  comm = λ a b. same_reading (higher a b) (higher b a) (higher_tenths a b ∙ omega (arith, ints, clamps) ∙ sym (higher_tenths b a));
  assoc = λ a b c. same_reading (higher (higher a b) c) (higher a (higher b c))
      (higher_tenths (higher a b) c ∙ ap (λ x. int_max x c.tenths) (higher_tenths a b) ∙ omega (arith, ints, clamps)
      ∙ ap (λ x. int_max a.tenths x) (sym (higher_tenths b c)) ∙ sym (higher_tenths a (higher b c)));
  unit = λ a. same_reading (higher coldest a) a (higher_tenths coldest a ∙ (let l = a.low in omega (arith, ints, clamps)));
  below_is = λ a b e. same_reading (higher a b) b (higher_tenths a b ∙ (let m = at_most a.tenths b.tenths e in omega (arith, ints, clamps)));
  is_below = λ a b e. at_most_test a.tenths b.tenths (let v = ap (λ (x : Reading). x.tenths) e in let m = higher_tenths a b in let w = sym m ∙ v in omega (arith, ints, clamps));
}

-- an admitted code's reading
pub reading_tenths : (n : ℕ) → n < 1601 → (reading_of n).tenths ≡ pos n -ℤ pos 400
reading_tenths n h = by (dec_lt n 1601)
  where
    by : (d : Dec (n < 1601)) → Reading.tenths (elim d [ yes k ↦ reading n k | no _ ↦ coldest ]) ≡ pos n -ℤ pos 400
    by (yes k) = refl
    by (no k) = absurd (k h)

-- a code above 1,600 gives the lowest reading
pub reading_other : (n : ℕ) → 1601 ≤ n → reading_of n ≡ coldest
reading_other n h = by (dec_lt n 1601)
  where
    by : (d : Dec (n < 1601)) → ◌≡◌ {A = Reading} (elim d [ yes k ↦ reading n k | no _ ↦ coldest ]) coldest
    by (yes k) = absurd (omega arith)
    by (no k) = refl

small_natural : (z : ℤ) → pos 0 ≤ℤ z → z ≤ℤ pos 1600 → pos (nat_abs z % 2 ^ 32) ≡ z
small_natural (pos n) l h = let small : n < 2 ^ 32 = omega (arith, ints) in ap pos (mod-eq_of_lt small)
small_natural (negsuc n) l h = absurd l.le

-- the word is the reading plus 400
pub peak_tenths : (a : Reading) → pos (peak_word a 0).value ≡ a.tenths +ℤ pos 400
peak_tenths a = let l = a.low in let h = a.high in small_natural (a.tenths +ℤ pos 400) (omega (arith, ints)) (omega (arith, ints))

pub peak_laws : Laws peak_meaning
peak_laws = laws_of peak_meaning (λ a b. refl) heights
    (λ c n. reading_other c.value (ltb-false c.value 1601 n))
    (λ a i h. ap (λ (w : Bits 32). w.value) (cond-false {A = Bits 32} (eqb i 0) (lowest 32 (nat_abs (a.tenths +ℤ pos 400))) (lowest 32 0) (ne_eqb i 0 (λ e. absurd (omega arith)))))
    (λ w a b f. same_reading a b (let v = ap (λ (x : Bits 32). pos x.value) (f 0 (omega arith)) in let p = peak_tenths a in let q = peak_tenths b in let r = sym p ∙ v ∙ q in omega (arith, ints)))
