-- The first number that passes a test, and whether some number below another does.
use Rattle.std.proofs.Common.{◌≡◌, ℕ, zero, suc, ◌+◌, ◌<◌, ◌≤◌, Bool, true, false, cond, ◌||◌, ◌⊎◌, Some, None, sym, refl, ap, ◌∙◌, inl, inr, arith}
use Rattle.std.proofs.lemmas.Bool.{both_ways, cases_eq, or_cases, or_left, or_right, or_from}
use Rattle.rulebook.specs.Rules.{some_below}
use Rattle.rulebook.specs.Judgement.{first_from}

-- q passes the test, and none from p on does before it
pub record First (test : ℕ → Bool) (p q : ℕ) : Type 0 where
  pub from : p ≤ q
  pub passes : test q ≡ true
  pub earlier : (r : ℕ) → p ≤ r → r < q → test r ≡ false

module _ (test : ℕ → Bool) where
  pub first_some : (n p q : ℕ) → first_from test n p ≡ Some q → First test p q
  unfolding first_from
  first_some zero p q e = cc
  first_some (suc n) p q e = go (test p) refl e (first_some n (suc p) q)
    where
      go : (b : Bool) → test p ≡ b → cond b (Some p) (first_from test n (suc p)) ≡ Some q → (first_from test n (suc p) ≡ Some q → First test (suc p) q) → First test p q
      go true t e next = let s : p ≡ q = cc in record { from = omega arith; passes = ap test (sym s) ∙ t; earlier = λ r l m. absurd (omega arith) }
      go false t e next =
          let f = next e in
          record {
            from = omega (arith, f.from);
            passes = f.passes;
            earlier = λ r l m. elim (cases_eq p r) [ inl s ↦ ap test (sym s) ∙ t | inr s ↦ f.earlier r (omega arith) m ];
          }

  pub first_none : (n p : ℕ) → first_from test n p ≡ None → (r : ℕ) → p ≤ r → r < p + n → test r ≡ false
  unfolding first_from
  first_none zero p e r l m = absurd (omega arith)
  first_none (suc n) p e r l m = go (test p) refl e (cases_eq p r) (λ f. first_none n (suc p) f r)
    where
      go : (b : Bool) → test p ≡ b → cond b (Some p) (first_from test n (suc p)) ≡ None → (p ≡ r) ⊎ (p ≡ r → ⊥) → (first_from test n (suc p) ≡ None → suc p ≤ r → r < suc p + n → test r ≡ false) → test r ≡ false
      go true t e s next = cc
      go false t e (inl s) next = ap test (sym s) ∙ t
      go false t e (inr s) next = next e (omega arith) (omega arith)

  pub first_here : (n p q : ℕ) → q < p + n → First test p q → first_from test n p ≡ Some q
  unfolding first_from
  first_here zero p q l f = absurd (omega (arith, f.from))
  first_here (suc n) p q l f = go (test p) refl (cases_eq p q) (first_here n (suc p) q)
    where
      go : (b : Bool) → test p ≡ b → (p ≡ q) ⊎ (p ≡ q → ⊥) → (q < suc p + n → First test (suc p) q → first_from test n (suc p) ≡ Some q) → cond b (Some p) (first_from test n (suc p)) ≡ Some q
      go true t (inl s) next = ap Some s
      go true t (inr s) next = absurd (both_ways (test p) (f.earlier p (omega arith) (omega (arith, f.from))) t)
      go false t (inl s) next = absurd (both_ways (test p) t (ap test s ∙ f.passes))
      go false t (inr s) next = next (omega arith) (record { from = omega (arith, f.from); passes = f.passes; earlier = λ r u v. f.earlier r (omega arith) v })

  pub first_nowhere : (n p : ℕ) → ((r : ℕ) → p ≤ r → r < p + n → test r ≡ false) → first_from test n p ≡ None
  unfolding first_from
  first_nowhere zero p f = refl
  first_nowhere (suc n) p f = ap (λ b. cond b (Some p) (first_from test n (suc p))) (f p (omega arith) (omega arith)) ∙ first_nowhere n (suc p) (λ r l m. f r (omega arith) (omega arith))

  pub some_at : (n q : ℕ) → q < n → test q ≡ true → some_below test n ≡ true
  unfolding some_below
  some_at zero q l t = absurd (omega arith)
  some_at (suc n) q l t = go (cases_eq q n) (some_at n q)
    where
      go : (q ≡ n) ⊎ (q ≡ n → ⊥) → (q < n → test q ≡ true → some_below test n ≡ true) → (test n || some_below test n) ≡ true
      go (inl s) next = or_left (test n) (some_below test n) (ap test (sym s) ∙ t)
      go (inr s) next = or_right (test n) (some_below test n) (next (omega arith) t)

  pub none_at : (n : ℕ) → ((q : ℕ) → q < n → test q ≡ false) → some_below test n ≡ false
  unfolding some_below
  none_at zero f = refl
  none_at (suc n) f = or_from (test n) (some_below test n) (f n (omega arith)) (none_at n (λ q l. f q (omega arith)))

  pub at_some : (n : ℕ) → some_below test n ≡ true → (q : ℕ) × (q < n) × (test q ≡ true)
  unfolding some_below
  at_some zero e = absurd (both_ways false refl e)
  at_some (suc n) e = go (or_cases (test n) (some_below test n) e) (at_some n)
    where
      go : (test n ≡ true) ⊎ (some_below test n ≡ true) → (some_below test n ≡ true → (q : ℕ) × (q < n) × (test q ≡ true)) → (q : ℕ) × (q < suc n) × (test q ≡ true)
      go (inl t) next = (n, omega arith, t)
      go (inr s) next = let h = next s in (h.0, omega (arith, h.1), h.2)
