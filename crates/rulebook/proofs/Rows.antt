-- Instructions by their cases, and the words that begin a list.
use Rattle.std.proofs.Common.{◌≡◌, ℕ, zero, suc, ◌+◌, ◌-◌, ◌<◌, ◌≤◌, Bool, true, false, ◌&&◌, leb, MatchBool, ◌⊎◌, List, [], ◌∷◌, length, get_or, drop, is_some, Some, Option, sym, refl, ap, ◌∙◌, inl, inr, arith}
use Rattle.std.specs.List.{list_all, enumerate_from}
use Rattle.std.proofs.lemmas.Bool.{both_ways, cases_lt, and_parts, le-leb, lt-leb, leb-true, leb-false}
use Rattle.std.proofs.lemmas.List.{drop-drop}
use Rattle.std.proofs.lemmas.List.Sums.{AllPass-from_list_all}
use Rattle.bits.specs.declared.Bits.{Bits}
use Rattle.lattice.specs.Meaning.{Meaning}
use Rattle.words.specs.declared.instruction.CellOperand.{CellOperand}
use Rattle.words.specs.declared.instruction.CodeOperand.{CodeOperand}
use Rattle.words.specs.declared.instruction.Instruction.{Instruction}
use Rattle.words.specs.declared.instruction.Instruction.TheVariants.{End, Get, Trig}
use Rattle.rulebook.proofs.Firsts.{some_at, none_at}
use Rattle.rulebook.specs.Programs.{code_at, no_trigger, counted_by}
use Rattle.rulebook.specs.Rules.{is_counted, is_end, pairs_clash, clashes_with_all, trigger_value}

-- a count has four bits
pub counted_few : (o : Option Instruction) → counted_by o ≤ 15
counted_few (Some (Get c n)) = omega (arith, n.fits)
counted_few _ = omega arith

-- only a GET counts
pub counted_get : (o : Option Instruction) → 0 < counted_by o → (c : CellOperand) × (n : Bits 4) × (o ≡ Some (Get c n))
counted_get (Some (Get c n)) h = (c, n, refl)
counted_get _ h = absurd (omega arith)

pub end_is : (o : Option Instruction) → is_end o ≡ true → o ≡ Some End
end_is (Some End) e = refl
end_is _ e = absurd (both_ways false refl e)

-- an instruction is a word of code, and a word of code is an instruction or a TRIG
pub plain : (o : Option Instruction) (i : Instruction) → no_trigger o ≡ Some i → o ≡ Some i
plain (Some (Trig v)) i e = cc
plain o i e = e

pub plain_or : (i : Instruction) → (is_some (no_trigger (Some i)) ≡ true) ⊎ ((v : CodeOperand) × (i ≡ Trig v))
plain_or (Trig v) = inr (v, refl)
plain_or _ = inl refl

-- an instruction that is a GET, or counts nothing
pub counts_or : (i : Instruction) → ((c : CellOperand) × (n : Bits 4) × (i ≡ Get c n)) ⊎ (counted_by (Some i) ≡ 0)
counts_or (Get c n) = inl (c, n, refl)
counts_or _ = inr refl

module _ (M : Meaning) where
  pub pairs_at : (ws : List ℕ) (j k : ℕ) → j < k → k < length ws → pairs_clash M ws ≡ true → M.clash (trigger_value M (get_or ws j 0)) (trigger_value M (get_or ws k 0)) ≡ true
  pairs_at [] j k h l e = absurd (omega arith)
  pairs_at (w ∷ ws) zero zero h l e = absurd (omega arith)
  pairs_at (w ∷ ws) zero (suc k) h l e = AllPass-from_list_all (λ u. M.clash (trigger_value M w) (trigger_value M u)) ws (and_parts (clashes_with_all M (trigger_value M w) ws) (pairs_clash M ws) e).0 k 0 (omega arith)
  pairs_at (w ∷ ws) (suc j) zero h l e = absurd (omega arith)
  pairs_at (w ∷ ws) (suc j) (suc k) h l e = pairs_at ws j k (omega arith) (omega arith) (and_parts (clashes_with_all M (trigger_value M w) ws) (pairs_clash M ws) e).1

  -- a row gone through with its index, each trigger beside those behind it
  pub pairs_in : (row ws : List ℕ) (i : ℕ) → drop i row ≡ ws → list_all (λ p. clashes_with_all M (trigger_value M p.1) (drop (p.0 + 1) row)) (enumerate_from i ws) ≡ pairs_clash M ws
  pairs_in row [] i e = refl
  pairs_in row (w ∷ ws) i e =
      let next : drop (i + 1) row ≡ ws = sym (drop-drop 1 i row) ∙ ap (drop 1) e in
      ap (λ us. clashes_with_all M (trigger_value M w) us && list_all (λ p. clashes_with_all M (trigger_value M p.1) (drop (p.0 + 1) row)) (enumerate_from (i + 1) ws)) next ∙ ap (λ b. clashes_with_all M (trigger_value M w) ws && b) (pairs_in row ws (i + 1) next)

-- whether some GET counts a word, from those that stand near enough
module _ (ws : List ℕ) (p a : ℕ) (near : a ≤ p - 15) where
  pub within : (b : Bool) → MatchBool b ((q : ℕ) × (q < p) × (leb (p - q) (counted_by (code_at ws q)) ≡ true)) ((q : ℕ) → a ≤ q → q < p → leb (p - q) (counted_by (code_at ws q)) ≡ false) → b ≡ is_counted ws p
  within true h = sym (some_at (λ q. leb p (q + counted_by (code_at ws q))) p h.0 h.1 (le-leb p (h.0 + counted_by (code_at ws h.0)) (omega (arith, h.1, leb-true (p - h.0) (counted_by (code_at ws h.0)) h.2))))
  within false h = sym (none_at (λ q. leb p (q + counted_by (code_at ws q))) p (λ q l. lt-leb p (q + counted_by (code_at ws q)) (elim (cases_lt (q + 15) p) [
    | inl far ↦ omega (arith, counted_few (code_at ws q))
    | inr few ↦ omega (arith, leb-false (p - q) (counted_by (code_at ws q)) (h q (omega arith) l))
  ])))
