-- The least value above some codes, one code after the other. Rests on the laws alone.
use Rattle.std.proofs.Common.{◌≡◌, ℕ, ◌+◌, ◌<◌, true, false, List, length, get_or, take, sym, ◌∙◌, subst, arith}
use Rattle.std.proofs.lemmas.List.{take-take, get_or-take, length-take-le}
use Rattle.std.specs.List.{AllByRecursion}
use Rattle.std.proofs.ByRecursion.{All-weaker, All-more, All-take, All-get_or}
use Rattle.std.proofs.lemmas.Bool.{both_ways}
use Rattle.bits.specs.declared.Bits.{Bits}
use Rattle.lattice.specs.Meaning.{Meaning, Laws}
use Rattle.lattice.specs.Order.{Above, Least}
use Rattle.lattice.proofs.Order.{below_grows, below_both, join_above, join_least}

module _ (M : Meaning) (l : Laws M) where
  module _ (cs : List (Bits 18)) (i : ℕ) (c : Bits 18) (within : i < length cs) (read : c ≡ get_or cs i c) (x : M.Value) (least : Least M (take i cs) x) where
    -- a code more
    pub least_more : M.clash x (M.value c) ≡ false → Least M (take (i + 1) cs) (M.join x (M.value c))
    least_more n =
        let j = M.join x (M.value c) in
        let at : M.below (M.value (get_or cs i c)) j ≡ true = rw (sym read) (join_above M l x (M.value c) n).1 in
        record {
          above = All-more (λ d. M.below (M.value d) j ≡ true) cs i c within (All-weaker (λ d. M.below (M.value d) x ≡ true) (λ d. M.below (M.value d) j ≡ true) (λ d p. below_grows M l (M.value d) x (M.value c) p n) (take i cs) least.above) at;
          under = λ u a. let P : Bits 18 → Type 0 = λ d. M.below (M.value d) u ≡ true in
              let before : Above M (take i cs) u = subst (AllByRecursion P) (take-take i (i + 1) cs (omega arith)) (All-take P i (take (i + 1) cs) a) in
              let here : P (get_or (take (i + 1) cs) i c) = All-get_or P (take (i + 1) cs) i c (omega (arith, length-take-le (i + 1) cs (omega arith))) a in
              let this : P c = subst P (get_or-take (i + 1) cs i c (omega arith) ∙ sym read) here in
              join_least M l x (M.value c) u (least.under u before) this;
        }

    -- where the next code's value clashes, no value is above all of them
    pub none_above : M.clash x (M.value c) ≡ true → (u : M.Value) → Above M cs u → ⊥
    none_above p u a =
        let at = All-get_or (λ d. M.below (M.value d) u ≡ true) cs i c within a in
        let q : M.below (M.value c) u ≡ true = rw read at in
        both_ways (M.clash x (M.value c)) (below_both M l x (M.value c) u (least.under u (All-take (λ d. M.below (M.value d) u ≡ true) i cs a)) q) p
