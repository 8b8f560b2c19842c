-- A number is read exactly where it is printed.
use Rattle.std.proofs.Common.{◌≡◌, ℕ, ◌+◌, ◌^◌, ◌<◌, ◌≤◌, Bool, true, false, cond, not, ◌||◌, eqb, leb, ◌⊎◌, List, [], ◌∷◌, ◌++◌, length, get_or, take, drop, Some, None, decimal, Option, sym, refl, ap, ◌∙◌, inl, inr, ⊎_elim, arith}
use Rattle.std.specs.Str.Parse.{AllDigits, digits_value}
use Rattle.std.specs.Char.{is_ascii_digit}
use Rattle.std.specs.List.{prefix_len, AllByRecursion}
use Rattle.std.proofs.lemmas.List.Sums.{prefix_len-le-length}
use Rattle.std.proofs.lemmas.Str.Parse.{digits_value_short}
use Rattle.std.proofs.lemmas.Fmt.{digits_decimal, digits_value-decimal, decimal_nonempty, first_decimal, length-decimal-le, decimal-digits_value, decimal_digit}
use Rattle.std.proofs.lemmas.List.{take_at, drop-drop, take-append-drop, length-take-le}
use Rattle.std.proofs.lemmas.Bool.{cond-true, and_parts, leb-true, or_cases, eqb-true, eqb-false, not-true, cases_lt}
use Rattle.std.proofs.lemmas.Bool.Decides.{nat_tests}
use Rattle.bits.proofs.Options.{some_same}
use Rattle.lexer.specs.Numbers.{digits_at, formed, number_by, number_at}
use Rattle.lexer.proofs.Scans.{own, digit_is, digits_leading, leading_all}

formed_right : (n z : ℕ) → 1 ≤ n → n ≤ 9 → (n ≡ 1) ⊎ (z ≡ 48 → ⊥) → formed n z ≡ true
formed_right n z l h (inl e) = grind (arith, nat_tests)
formed_right n z l h (inr f) = grind (arith, nat_tests)

digits_pass : (ds : List ℕ) → AllDigits 10 ds → AllByRecursion (λ c. is_ascii_digit c ≡ true) ds
digits_pass [] d = tt
digits_pass (c ∷ ds) d = (digit_is c d.0, digits_pass ds d.1)

-- a number of nine digits at most, as it is printed
module _ (v : ℕ) (small : v < 10 ^ 9) where
  pub decimal_digits : AllDigits 10 (decimal v)
  decimal_digits = digits_decimal own v (omega arith)

  decimal_worth : digits_value 10 (decimal v) ≡ v
  decimal_worth = digits_value-decimal own v (omega arith)

  pub decimal_long : (0 < length (decimal v)) × (length (decimal v) ≤ 9)
  decimal_long = (decimal_nonempty v (omega arith), length-decimal-le 9 v (omega arith) small (omega arith))

  no_zero : (length (decimal v) ≡ 1) ⊎ (get_or (decimal v) 0 0 ≡ 48 → ⊥)
  no_zero = ⊎_elim (λ z. inl (ap (λ (n : ℕ). length (decimal n)) z ∙ ap length (decimal_digit 0 (omega arith)))) (λ some. inr (λ e. omega (arith, first_decimal v some (omega arith)))) (zero_or v)
    where
      zero_or : (n : ℕ) → (n ≡ 0) ⊎ (0 < n)
      zero_or n = ⊎_elim (λ lt. inr lt) (λ le. inl (omega arith)) (cases_lt 0 n)

  pub number_printed : (text : List ℕ) (at : ℕ) (rest : List ℕ) → drop at text ≡ decimal v ++ rest → is_ascii_digit (get_or rest 0 0) ≡ false → number_at text at ≡ Some (v, at + length (decimal v))
  number_printed text at rest e stop =
      let n : prefix_len is_ascii_digit (drop at text) ≡ length (decimal v) = ap (prefix_len is_ascii_digit) e ∙ leading_all is_ascii_digit (decimal v) rest (digits_pass (decimal v) decimal_digits) stop in
      let part : digits_at text at ≡ decimal v = (λ i. take (n i) (e i)) ∙ take_at (decimal v) rest (length (decimal v)) refl in
      let right : formed (length (decimal v)) (get_or (decimal v) 0 0) ≡ true = formed_right (length (decimal v)) (get_or (decimal v) 0 0) decimal_long.0 decimal_long.1 no_zero in
      ap (number_by at) part ∙ cond-true (formed (length (decimal v)) (get_or (decimal v) 0 0)) _ _ right ∙ ap (λ (x : ℕ). Some (x, at + length (decimal v))) decimal_worth

pub number_read : (text : List ℕ) (at v next : ℕ) → number_at text at ≡ Some (v, next) → (drop at text ≡ decimal v ++ drop next text) × (next ≡ at + length (decimal v)) × (v < 10 ^ 9)
number_read text at v next e = go (formed (length ds) (get_or ds 0 0)) refl e
  where
    ds : List ℕ
    ds = digits_at text at

    lone : (n z : ℕ) → (eqb n 1 || not (eqb z 48)) ≡ true → z ≡ 48 → n ≡ 1
    lone n z h e = ⊎_elim (λ one. eqb-true n 1 one) (λ other. absurd (eqb-false z 48 (not-true _ other) e)) (or_cases (eqb n 1) (not (eqb z 48)) h)

    go : (b : Bool) → formed (length ds) (get_or ds 0 0) ≡ b → cond {A = Option (ℕ × ℕ)} b (Some (digits_value 10 ds, at + length ds)) None ≡ Some (v, next) → (drop at text ≡ decimal v ++ drop next text) × (next ≡ at + length (decimal v)) × (v < 10 ^ 9)
    go false f e = cc
    go true f e =
        let bs = drop at text in
        let parts = and_parts (leb 1 (length ds)) _ f in
        let others = and_parts (leb (length ds) 9) _ parts.1 in
        let some = leb-true 1 (length ds) parts.0 in
        let few = leb-true (length ds) 9 others.0 in
        let worth : digits_value 10 ds ≡ v = ap (λ (p : ℕ × ℕ). p.0) (some_same e) in
        let there : at + length ds ≡ next = ap (λ (p : ℕ × ℕ). p.1) (some_same e) in
        let n = prefix_len is_ascii_digit bs in
        let long : length ds ≡ n = length-take-le n bs (prefix_len-le-length is_ascii_digit bs) in
        let bound : digits_value 10 ds < 10 ^ 9 = digits_value_short own ds 9 (digits_leading bs) few in
        let whole : decimal v ≡ ds = ap decimal (sym worth) ∙ decimal-digits_value own ds (digits_leading bs) some (lone (length ds) (get_or ds 0 0) others.1) (omega arith) in (
          sym (take-append-drop n bs) ∙ (λ i. sym whole i ++ (drop-drop n at text ∙ ap (λ (k : ℕ). drop k text) (ap (λ (k : ℕ). at + k) (sym long) ∙ there)) i),
          sym there ∙ ap (λ (k : ℕ). at + k) (sym (ap length whole)),
          omega arith,
        )
