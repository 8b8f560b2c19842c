-- A row of codes, read one by one.
use Rattle.std.proofs.Common.{◌≡◌, ℕ, zero, suc, ◌+◌, ◌-◌, ◌<◌, ◌≤◌, true, false, List, [], ◌∷◌, ◌++◌, map, Some, None, Option, sym, refl, ap, ◌∙◌, arith}
use Rattle.std.specs.Option.{option_map}
use Rattle.std.proofs.lemmas.List.{append_assoc, append-nil}
use Rattle.std.proofs.lemmas.Bool.{cond-true, cond-false}
use Rattle.words.specs.declared.instruction.CodeOperand.{CodeOperand}
use Rattle.lexer.specs.Fields.{Field, stands, code_field}
use Rattle.lines.specs.Forms.{ahead, before, firstly, row_at, trigger, row_words, stored}

-- words in front of those of a row
abbrev pub joined : Option (List ℕ) → Option (List ℕ) → Option (List ℕ)
joined None ys = None
joined (Some xs) None = None
joined (Some xs) (Some ys) = Some (xs ++ ys)

abbrev pub leading : Option (List ℕ) → Field (List ℕ) → Field (List ℕ)
leading xs None = None
leading xs (Some q) = Some (joined xs q.0, q.1)

abbrev pub rest : ℕ → List ℕ → ℕ → Field (List ℕ)
rest n line at = row_words (row_at n line at)

ahead_words : (v : CodeOperand) (xs : Option (List CodeOperand)) (ws : List ℕ) → joined (Some ws) (option_map (map trigger) (ahead (Some v) xs)) ≡ joined (Some (ws ++ (trigger v ∷ []))) (option_map (map trigger) xs)
ahead_words v None ws = refl
ahead_words v (Some xs) ws = ap Some (sym (append_assoc ws (trigger v ∷ []) (map trigger xs)))

-- one code more
before_words : (words : Option (List ℕ)) (v : Option CodeOperand) (o : Field (List CodeOperand)) → leading words (row_words (before v o)) ≡ leading (stored words v) (row_words o)
before_words words v None = refl
before_words None v (Some q) = refl
before_words (Some ws) None (Some q) = refl
before_words (Some ws) (Some v) (Some q) = ap (λ (x : Option (List ℕ)). Some (x, q.1)) (ahead_words v q.0 ws)

pub row_next : (n : ℕ) (line : List ℕ) (at : ℕ) → stands line at 32 ≡ true → row_at (suc n) line at ≡ firstly (code_field line at) (row_at n line)
unfolding row_at
row_next n line at e = cond-true (stands line at 32) _ _ e

pub row_none : (line : List ℕ) (at : ℕ) → row_at 0 line at ≡ Some (Some [], at)
unfolding row_at
row_none line at = refl

pub row_ends : (n : ℕ) (line : List ℕ) (at : ℕ) → stands line at 32 ≡ false → row_at n line at ≡ Some (Some [], at)
unfolding row_at
row_ends zero line at e = refl
row_ends (suc n) line at e = cond-false (stands line at 32) _ _ e

-- the words of i codes before a place, and those of the codes that may follow, are those of a whole row
module _ (i : ℕ) (line : List ℕ) (at : ℕ) (words : Option (List ℕ)) {whole : Field (List ℕ)} (inv : leading words (rest (8 - i) line at) ≡ whole) where
  goes_on : (n : ℕ) → 8 - i ≡ suc n → stands line at 32 ≡ true → leading words (row_words (firstly (code_field line at) (row_at n line))) ≡ whole
  goes_on n left e =
      ap (λ (o : Field (List CodeOperand)). leading words (row_words o)) (sym (row_next n line at e))
      ∙ ap (λ (k : ℕ). leading words (rest k line at)) (sym left)
      ∙ inv

  pub row_turn : (v : Option CodeOperand) (next : ℕ) → i < 8 → stands line at 32 ≡ true → Some (v, next) ≡ code_field line at → leading (stored words v) (rest (8 - (i + 1)) line next) ≡ whole
  row_turn v next lt e code =
      sym (before_words words v (row_at (8 - (i + 1)) line next))
      ∙ ap (λ (o : Field CodeOperand). leading words (row_words (firstly o (row_at (8 - (i + 1)) line)))) code
      ∙ goes_on (8 - (i + 1)) (omega arith) e

  pub row_broken : i < 8 → stands line at 32 ≡ true → None ≡ code_field line at → None ≡ whole
  row_broken lt e code =
      ap (λ (o : Field CodeOperand). leading words (row_words (firstly o (row_at (7 - i) line)))) code
      ∙ goes_on (7 - i) (omega arith) e

  all_read : row_at (8 - i) line at ≡ Some (Some [], at) → Some (words, at) ≡ whole
  all_read e = sym (ap (λ (o : Field (List CodeOperand)). leading words (row_words o)) e ∙ ap (λ (x : Option (List ℕ)). Some (x, at)) (nothing_more words)) ∙ inv
    where
      nothing_more : (xs : Option (List ℕ)) → joined xs (Some []) ≡ xs
      nothing_more None = refl
      nothing_more (Some xs) = ap Some (append-nil xs)

  pub row_full : 8 ≤ i → Some (words, at) ≡ whole
  row_full full = let z : 8 - i ≡ 0 = omega arith in all_read (ap (λ (k : ℕ). row_at k line at) z ∙ row_none line at)

  pub row_over : stands line at 32 ≡ false → Some (words, at) ≡ whole
  row_over e = all_read (row_ends (8 - i) line at e)
