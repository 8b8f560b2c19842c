-- What the fields of a GET line give.
use Rattle.std.proofs.Common.{◌≡◌, ℕ, Bool, true, false, cond, List, ◌∷◌, map, Some, None, Option, refl, ap}
use Rattle.std.proofs.lemmas.List.{length-map}
use Rattle.std.specs.Option.{option_map}
use Rattle.bits.specs.Fits.{lowest}
use Rattle.words.specs.Instructions.{instruction_word}
use Rattle.words.specs.declared.instruction.CellOperand.{CellOperand}
use Rattle.words.specs.declared.instruction.CodeOperand.{CodeOperand}
use Rattle.words.specs.declared.instruction.Instruction.TheVariants.{Get as GetWord}
use Rattle.lexer.specs.Fields.{Field, both, beside, then_by, then, ends, cell_field}
use Rattle.lines.specs.Forms.{closed, lastly, row, row_words, trigger}
use Rattle.lines.specs.Lines.{inside, get_line, statement_words, statement_by}
use Rattle.lines.specs.Rows.{trigger_field, get_told}
use Rattle.lines.specs.declared.Keyword.TheVariants.{Get}

module _ (line : List ℕ) where
  fit : (cell : Option CellOperand) (vs : Option (List CodeOperand)) → option_map get_told (both cell (option_map (map trigger) vs)) ≡ option_map statement_words (option_map (λ p. get_line p.0 p.1) (both cell vs))
  fit None vs = refl
  fit (Some c) None = refl
  fit (Some c) (Some vs) = ap (λ (n : ℕ). Some (instruction_word (GetWord c (lowest 4 n)) ∷ map trigger vs)) (length-map vs trigger)

  ended : (cell : Option CellOperand) (vs : Option (List CodeOperand)) (b : Bool) → inside get_told (cond b (Some (both cell (option_map (map trigger) vs))) None) ≡ inside statement_words (inside (λ p. get_line p.0 p.1) (cond b (Some (both cell vs)) None))
  ended cell vs true = ap Some (fit cell vs)
  ended cell vs false = refl

  behind : (cell : Option CellOperand) (q : Field (List CodeOperand)) → inside get_told (closed line (beside cell (row_words q))) ≡ inside statement_words (inside (λ p. get_line p.0 p.1) (closed line (beside cell q)))
  behind cell None = refl
  behind cell (Some q) = ended cell q.0 (ends line q.1)

  fields : (o : Field CellOperand) → inside get_told (closed line (then_by trigger_field line o)) ≡ inside statement_words (inside (λ p. get_line p.0 p.1) (closed line (then_by row line o)))
  fields None = refl
  fields (Some p) = behind p.0 (row line p.1)

pub get_words : (line : List ℕ) (at : ℕ) → inside get_told (lastly (then cell_field trigger_field) line at) ≡ inside statement_words (statement_by Get line at)
get_words line at = fields line (cell_field line at)
