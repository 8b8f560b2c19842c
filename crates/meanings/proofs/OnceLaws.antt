-- Once keeps the laws.
use Rattle.std.proofs.Common.{◌≡◌, ℕ, ◌%◌, ◌^◌, ◌<◌, ◌≤◌, true, false, not, ◌||◌, eqb, sym, refl, ap, arith}
use mathlib.Core.Bool.{or-false}
use Rattle.std.proofs.lemmas.Bool.{ltb-false, eq-eqb, eqb-true, not-false, not_from_true, both_ways}
use Rattle.std.proofs.lemmas.Bool.Decides.{nat_tests}
use Rattle.bits.specs.declared.Bits.{Bits}
use Rattle.bits.proofs.Same.{same_bits, fitted_large}
use Rattle.lattice.specs.Meaning.{Laws}
use Rattle.meanings.specs.Onces.{Slate, empty, written, slate, differ, kept, agrees, once_word, once_meaning}

same_written : (a b : Bits 16) → eqb a.value b.value ≡ true → written a ≡ written b
same_written a b e = ap written (same_bits a b (eqb-true a.value b.value e))

differ_self : (a : Slate) → differ a a ≡ false
differ_self empty = refl
differ_self (written a) = not_from_true (eqb a.value a.value) (eq-eqb a.value a.value refl)

kept_self : (a : Slate) → kept a a ≡ a
kept_self empty = refl
kept_self (written a) = refl

eqb_sym : (m n : ℕ) → eqb m n ≡ eqb n m
eqb_sym m n = grind (arith, nat_tests)

differ_sym : (a b : Slate) → differ a b ≡ differ b a
differ_sym empty empty = refl
differ_sym empty (written b) = refl
differ_sym (written a) empty = refl
differ_sym (written a) (written b) = ap not (eqb_sym a.value b.value)

kept_comm : (a b : Slate) → differ a b ≡ false → kept a b ≡ kept b a
kept_comm empty empty n = refl
kept_comm empty (written b) n = refl
kept_comm (written a) empty n = refl
kept_comm (written a) (written b) n = same_written a b (not-false (eqb a.value b.value) n)

kept_clash : (a b : Slate) → differ a b ≡ true → kept a b ≡ a
kept_clash empty b e = absurd (both_ways false refl e)
kept_clash (written a) b e = refl

three : (l m n : ℕ) → (not (eqb l m) || not (eqb l n)) ≡ (not (eqb m n) || not (eqb l m))
three l m n = grind (arith, nat_tests)

differ_assoc : (a b c : Slate) → (differ a b || differ (kept a b) c) ≡ (differ b c || differ a (kept b c))
differ_assoc empty b c = sym (or-false (differ b c))
differ_assoc (written a) empty c = refl
differ_assoc (written a) (written b) empty = or-false (differ (written a) (written b))
differ_assoc (written a) (written b) (written c) = three a.value b.value c.value

kept_assoc : (a b c : Slate) → kept (kept a b) c ≡ kept a (kept b c)
kept_assoc empty b c = refl
kept_assoc (written a) b c = refl

kept_empty : (a : Slate) → kept a empty ≡ a
kept_empty empty = refl
kept_empty (written a) = refl

agrees_is : (a b : Slate) → agrees a b ≡ true → (differ a b ≡ false) × (kept a b ≡ b)
agrees_is empty b e = (refl, refl)
agrees_is (written a) empty e = absurd (both_ways false refl e)
agrees_is (written a) (written b) e = (not_from_true (eqb a.value b.value) e, same_written a b e)

is_agreed : (a b : Slate) → differ a b ≡ false → kept a b ≡ b → agrees a b ≡ true
is_agreed empty b n e = refl
is_agreed (written a) empty n e = absurd (let w : (once_word (written a) 0).value ≡ 0 = ap (λ s. (once_word s 0).value) e in omega arith)
is_agreed (written a) (written b) n e = not-false (eqb a.value b.value) n

other_words : (a : Slate) (i : ℕ) → 2 ≤ i → (once_word a i).value ≡ 0
other_words empty i h = refl
other_words (written a) i h = grind (arith, nat_tests)

words_apart : (a b : Slate) → ((i : ℕ) → i < 2 → once_word a i ≡ once_word b i) → a ≡ b
words_apart empty empty f = refl
words_apart empty (written b) f = absurd (let w : ◌≡◌ {A = ℕ} 0 1 = ap (λ (v : Bits 32). v.value) (f 0 (omega arith)) in omega arith)
words_apart (written a) empty f = absurd (let w : ◌≡◌ {A = ℕ} 1 0 = ap (λ (v : Bits 32). v.value) (f 0 (omega arith)) in omega arith)
words_apart (written a) (written b) f =
    let v : a.value % 2 ^ 32 ≡ b.value % 2 ^ 32 = ap (λ (v : Bits 32). v.value) (f 1 (omega arith)) in
    ap written (same_bits a b (omega (arith, a.fits, b.fits)))

pub once_laws : Laws once_meaning
once_laws = record {
  value_other = λ c n. ap slate (fitted_large c.value (ltb-false c.value 65536 n));
  join_clash = kept_clash;
  word_past = other_words;
  clash_self = differ_self;
  join_self = kept_self;
  clash_sym = differ_sym;
  join_comm = kept_comm;
  clash_assoc = differ_assoc;
  join_assoc = λ a b c n m. kept_assoc a b c;
  clash_bottom = λ a. refl;
  join_bottom = λ a. refl;
  bottom_join = kept_empty;
  below_is = agrees_is;
  is_below = is_agreed;
  words_same = λ w. words_apart;
}
