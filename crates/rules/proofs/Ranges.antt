-- What a search through a range of numbers comes to, where the closure computes a test.
use Rattle.std.proofs.Common.{◌≡◌, ℕ, ◌+◌, ◌-◌, ◌<◌, ◌≤◌, Bool, true, false, Some, None, Option, MatchBool, MatchOption, IfSome, IsSomeAnd, IsTrue, sym, ap, ◌∙◌, subst, arith}
use Rattle.std.specs.Fn.{Called, CalledAt}
use Rattle.std.specs.Option.{option_map}
use Rattle.std.specs.Range.{range_inclusive_start, range_inclusive_end, range_inclusive_exhausted}
use Rattle.std.specs.declared.ops.Range.{Range}
use Rattle.std.specs.Iterator.Runs.{Run, ItemsCountUp, ItemsCountDown, IsIdenticalRun, NoItemPasses, EndsAtFirstPassing, AllItemsGive, AnyItemGives, CallKeepsClosure}
use Rattle.std.proofs.iter.runs.Sources.{nat_range_steps_back, nat_range_inclusive_steps, inclusive_listed, range_runs_back}
use denote.Param.Members.{Mut}
use denote.Ref.{Bor}

plain : (o : Option ℕ) (n : ℕ) → option_map (λ y. y) o ≡ Some n → o ≡ Some n
plain None n e = e
plain (Some x) n e = e

-- `find` over `0..=n`
module _ {F : Type 0} {g : Mut F (Bor ℕ × Unit {0}) Bool} {f : F} (test : ℕ → Bool) (n : ℕ) (u : Run nat_range_inclusive_steps) (start : range_inclusive_start u.from ≡ 0) (end : range_inclusive_end u.from ≡ n) (fresh : range_inclusive_exhausted u.from ≡ false) (keeps : CallKeepsClosure g f) (tells : (x : ℕ) (b : Bool) (q : F) → CalledAt g f x b q → b ≡ test x) where
  up : ItemsCountUp u (range_inclusive_start u.from) (range_inclusive_end u.from + 1)
  up = let all = inclusive_listed u u.seen in subst (λ (a : ℕ). ItemsCountUp u a (range_inclusive_end u.from + 1)) all.2 (subst (λ (b : ℕ). ItemsCountUp u all.0 b) all.3 (all.4 fresh).0)

  here : (k : ℕ) → k < u.len → u.at k ≡ Some k
  here k l = let is : range_inclusive_start u.from + k ≡ k = omega (arith, start) in plain (u.at k) k (up.3 k l ∙ ap Some is)

  pub first_up : (o : Option ℕ) → MatchOption o (IsTrue u.whole × NoItemPasses u g f) (EndsAtFirstPassing u g f) → MatchOption o ((p : ℕ) → p < n + 1 → test p ≡ false) (λ p. (test p ≡ true) × ((q : ℕ) → q < p → test q ≡ false))
  first_up None h = λ p l. sym (tells p false f (subst (λ o. IfSome o (λ x. CalledAt g f x false f)) (here p (omega (arith, up.1 h.0, start, end))) (h.1 keeps p)))
  first_up (Some x) h =
      let at = here h.0 (omega (arith, h.1)) in
      let same : h.0 ≡ x = cc (h.2) in
      let gave = h.3 keeps in
      (sym (tells x true f gave.0), λ q l. sym (tells q false f (subst (λ o. IsSomeAnd o (λ y. CalledAt g f y false f)) (here q (omega (arith, h.1, same))) (gave.1 q (omega (arith, same))))))

-- `any` over `(a..b).rev()`
module _ {F S : Type 0} {steps : S → Option ℕ → S → Type 0} {g : Mut F (ℕ × Unit {0}) Bool} {f : F} (test : ℕ → Bool) (a b : ℕ) (u : Run steps) (q : Run nat_range_steps_back) (from : q.from ≡ record { start = a; end = b }) (same : IsIdenticalRun u q) (keeps : CallKeepsClosure g f) (tells : (x : ℕ) (r : Bool) (t : F) → Called g f (x, tt) r t → r ≡ test x) where
  down : ItemsCountDown q a b
  down = subst (λ (r : Range ℕ). ItemsCountDown q r.start r.end) from (range_runs_back q q.seen)

  there : (k : ℕ) → k < u.len → u.at k ≡ Some (b - 1 - k)
  there k l = sym (same.0.2 k) ∙ plain (q.at k) (b - 1 - k) (down.3 k (omega (arith, same.0.0)))

  pub any_down : (r : Bool) → MatchBool r (AnyItemGives u g f true) (IsTrue u.whole × AllItemsGive u g f false) → MatchBool r ((p : ℕ) × (p < b) × (test p ≡ true)) ((p : ℕ) → a ≤ p → p < b → test p ≡ false)
  any_down true h =
      let i = h keeps in
      (b - 1 - i.0, omega (arith, down.0, i.1, same.0.0), sym (tells (b - 1 - i.0) true f (subst (λ o. IsSomeAnd o (λ x. Called g f (x, tt) true f)) (there i.0 i.1) i.2)))
  any_down false h = λ p l m.
      let k : ℕ = b - 1 - p in
      let is : b - 1 - k ≡ p = omega arith in
      sym (tells p false f (subst (λ o. IfSome o (λ x. Called g f (x, tt) false f)) (there k (omega (arith, down.1 (same.1 ∙ h.0), same.0.0)) ∙ ap Some is) (h.1 keeps k)))
