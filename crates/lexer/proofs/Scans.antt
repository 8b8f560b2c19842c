-- How far the digits of a number and the bytes of a field go.
use Rattle.std.proofs.Common.{◌≡◌, ℕ, zero, suc, ◌-◌, ◌^◌, ◌<◌, ◌≤◌, Bool, true, false, not, eqb, leb, ◌⊎◌, List, [], ◌∷◌, ◌++◌, length, get_or, take, refl, ap, ◌∙◌, inl, inr, one-add, arith}
use Rattle.std.specs.Str.Parse.{AllDigits, digits_value}
use Rattle.std.specs.Char.{is_ascii_digit, digit_value as digit_value_of}
use Rattle.std.specs.List.{prefix_len, AllByRecursion}
use Rattle.std.proofs.lemmas.List.{length-take-le}
use Rattle.std.proofs.lemmas.Str.Parse.{IsNumeralModel, numerals_by_value, tells_digits, digit_from_value, digit_at, digits_value_short}
use Rattle.std.proofs.lemmas.Bool.{cond-true, cond-false, and_from, and_parts, leb-true, le-leb, or_from, ne_eqb}
use Rattle.std.proofs.lemmas.Str.{digit_value_digit}
use Rattle.lexer.specs.Tokens.{in_field}

pub own : IsNumeralModel (AllDigits 10) (digits_value 10)
own = numerals_by_value (AllDigits 10) tells_digits

-- a byte that writes a digit
pub digit_is : (c : ℕ) → digit_value_of c < 10 → is_ascii_digit c ≡ true
digit_is c small = let d = digit_from_value c small in and_from (leb 48 c) (leb c 57) (le-leb 48 c d.0) (le-leb c 57 d.1)

pub digit_of : (c : ℕ) → is_ascii_digit c ≡ true → digit_value_of c < 10
digit_of c e =
    let parts = and_parts (leb 48 c) (leb c 57) e in
    let low = leb-true 48 c parts.0 in
    let high = leb-true c 57 parts.1 in
    omega (arith, digit_value_digit c (low, high))

-- so many bytes at the front pass a test, and what stands behind them does not
pub leading_all : (p : ℕ → Bool) (xs rest : List ℕ) → AllByRecursion (λ c. p c ≡ true) xs → p (get_or rest 0 0) ≡ false → prefix_len p (xs ++ rest) ≡ length xs
leading_all p [] [] all stop = refl
leading_all p [] (c ∷ cs) all stop = cond-false (p c) _ _ stop
leading_all p (x ∷ xs) rest all stop = cond-true (p x) _ _ all.0 ∙ omega (arith, leading_all p xs rest all.1 stop)

pub digits_leading : (bs : List ℕ) → AllDigits 10 (take (prefix_len is_ascii_digit bs) bs)
digits_leading [] = tt
digits_leading (c ∷ cs) = go (is_ascii_digit c) refl (digits_leading cs)
  where
    go : (b : Bool) → is_ascii_digit c ≡ b → AllDigits 10 (take (prefix_len is_ascii_digit cs) cs) → AllDigits 10 (take (prefix_len is_ascii_digit (c ∷ cs)) (c ∷ cs))
    go true e more = rw (e, one-add) (digit_of c e, more)
    go false e more = rw e tt

-- a digit among nine: its value, and the bound on the number before it
pub digit_value : (ds : List ℕ) (i : ℕ) → AllDigits 10 ds → i < length ds → (48 ≤ get_or ds i 0) × (get_or ds i 0 ≤ 57) × (digit_value_of (get_or ds i 0) ≡ get_or ds i 0 - 48)
digit_value ds i d lt = let range = digit_at ds i d lt in (range.0, range.1, omega (arith, digit_value_digit (get_or ds i 0) range))

digits_take : (ds : List ℕ) (i : ℕ) → AllDigits 10 ds → AllDigits 10 (take i ds)
digits_take ds zero d = tt
digits_take [] (suc i) d = tt
digits_take (c ∷ ds) (suc i) d = (d.0, digits_take ds i d.1)

pub value_bound : (ds : List ℕ) (i : ℕ) → AllDigits 10 ds → length ds ≤ 9 → i < length ds → digits_value 10 (take i ds) < 10 ^ 8
value_bound ds i d few lt = digits_value_short own (take i ds) 8 (digits_take ds i d) (omega (arith, length-take-le i ds (omega arith)))

-- a byte that ends a field
pub space_ends : (c : ℕ) → (c ≡ 32) ⊎ (c ≡ 10) → in_field c ≡ false
space_ends c (inl e) = ap in_field e
space_ends c (inr e) = ap in_field e

pub no_space : (c : ℕ) → (c ≡ 32 → ⊥) → (c ≡ 10 → ⊥) → in_field c ≡ true
no_space c a b = ap not (or_from (eqb c 32) (eqb c 10) (ne_eqb c 32 a) (ne_eqb c 10 b))
