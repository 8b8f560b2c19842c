-- What a closure finds, and makes, at each of the slots of a row.
use Rattle.std.proofs.Common.{◌≡◌, ℕ, zero, suc, ◌+◌, ◌<◌, ◌≤◌, Bool, true, false, List, length, get_or, replicate, sym, refl, ap, ◌∙◌, subst, ⊎_elim, arith}
use Rattle.std.proofs.lemmas.Bool.{cases_eq}
use Rattle.std.proofs.lemmas.List.FromFn.{get_or-range_with_len, length-range_with_len}
use Rattle.std.specs.Bool.{MatchBool}
use Rattle.std.specs.List.{AllWithin, HoldsAt, range_with_len}
use Rattle.std.specs.Array.{IsFromFnResult, IsFromFnResultFrom}
use Rattle.std.specs.Fn.{Called}
use denote.Param.Members.{Mut}

-- what `all` finds of the numbers below n, given as `cases_from_all` gives it
module _ (Yes No : ℕ → Type 0) (n : ℕ) (b : Bool) (passes : ((k : ℕ) → k < n → Yes k) → b ≡ true) (fails : (k : ℕ) → k < n → No k → b ≡ false) where
  pub all_is : (r : Bool) → MatchBool r (AllWithin Yes (range_with_len 0 n) 0 (length (range_with_len 0 n))) ((k : ℕ) × (k < length (range_with_len 0 n)) × HoldsAt No (range_with_len 0 n) k) → r ≡ b
  all_is true m = sym (passes (λ k small. subst Yes (get_or-range_with_len 0 n k 0 small ∙ omega arith) (m k 0 (omega arith) (omega (arith, length-range_with_len 0 n)))))
  all_is false m =
      let small : m.0 < n = omega (arith, length-range_with_len 0 n, m.1) in
      sym (fails m.0 small (subst No (get_or-range_with_len 0 n m.0 0 small ∙ omega arith) (m.2 0)))

-- a row made by calls of a pure function at 0, 1, 2, ..
module _ {F X : Type 0} (g : Mut F (ℕ × Unit {0}) X) (f : F) (h : ℕ → X) (bound : ℕ) (pure : (i : ℕ) (x : X) (q : F) → i < bound → Called g f (i, tt) x q → (q ≡ f) × (x ≡ h i)) (row : List X) (d : X) where
  row_from : (n i : ℕ) → i + n ≡ bound → IsFromFnResultFrom g f row i n → (k : ℕ) → i ≤ k → k < bound → get_or row k d ≡ h k
  row_from zero i e made k low high = absurd (omega arith)
  row_from (suc n) i e made k low high =
      let same = pure i made.1 made.0 (omega arith) made.3 in
      let rest = subst (λ p. IsFromFnResultFrom g p row (i + 1) n) same.0 made.4 in
      ⊎_elim (λ s. ap (λ (j : ℕ). get_or row j d) s ∙ made.2.1 d ∙ same.1 ∙ ap h (sym s)) (λ o. row_from n (i + 1) (omega arith) rest k (omega arith) high) (cases_eq k i)

  pub made : IsFromFnResult g f row bound → (k : ℕ) → k < bound → get_or row k d ≡ h k
  made m k small = row_from bound 0 (omega arith) m.each k (omega arith) small

-- a row of blanks is blank everywhere
pub blank : {X : Type 0} (d : X) (n k : ℕ) → get_or (replicate n d) k d ≡ d
blank d zero k = refl
blank d (suc n) zero = refl
blank d (suc n) (suc k) = blank d n k
