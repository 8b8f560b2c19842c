-- The row of a GET line, as it is read.
use Rattle.std.specs.Prelude.{ℕ, List, ◌∷◌, length, take, Some, None, Option}
use Rattle.std.specs.Option.{option_map}
use Rattle.bits.specs.Fits.{lowest}
use Rattle.words.specs.Instructions.{instruction_word}
use Rattle.words.specs.declared.instruction.CellOperand.{CellOperand}
use Rattle.words.specs.declared.instruction.Instruction.TheVariants.{Get}
use Rattle.lexer.specs.Fields.{Field}
use Rattle.lines.specs.Forms.{row, row_words}
use Rattle.lines.specs.declared.triggers.Triggers.{Triggers}

-- the words that count
abbrev pub words_of : Triggers → List ℕ
words_of t = take t.count t.words

abbrev pub words_in : Option Triggers → Option (List ℕ)
words_in o = option_map words_of o

-- the words of a row that was answered, with the place after it
abbrev pub row_told : Option (Option Triggers) → ℕ → Field (List ℕ)
row_told None next = None
row_told (Some o) next = Some (words_in o, next)

-- a row, by the words of its triggers
abbrev pub trigger_field : List ℕ → ℕ → Field (List ℕ)
trigger_field line at = row_words (row line at)

-- the words of a GET, by those of its triggers
abbrev pub get_told : CellOperand × List ℕ → List ℕ
get_told p = instruction_word (Get p.0 (lowest 4 (length p.1))) ∷ p.1
