-- What a line says: nothing where it breaks the grammar, and no value where a number is too large for its field.
use Rattle.std.specs.Prelude.{ℕ, Bool, true, false, cond, List, [], ◌∷◌, map, length, take, Some, None, codes, Option, Ok, Err, Result}
use Rattle.std.specs.Option.{option_map}
use Rattle.std.specs.Str.{bytes_eq}
use Rattle.bits.specs.declared.Bits.{Bits}
use Rattle.bits.specs.Fits.{lowest}
use Rattle.words.specs.declared.head.Head.{Head}
use Rattle.words.specs.declared.entry.Entry.{Entry}
use Rattle.words.specs.declared.instruction.CellOperand.{CellOperand}
use Rattle.words.specs.declared.instruction.CodeOperand.{CodeOperand}
use Rattle.words.specs.declared.instruction.Instruction.TheVariants as instruction
use Rattle.words.specs.Instructions.{instruction_word}
use Rattle.lexer.specs.Fields.{Field, first_word, number_field, cell_field, code_field}
use Rattle.lines.specs.Forms.{then, named, nothing, lastly, row, trigger}
use Rattle.lines.specs.declared.Keyword.{Keyword}
use Rattle.lines.specs.declared.Keyword.TheVariants.{End, Put, Get, Freeze, If, Has, Start, Let, Loop}
use Rattle.lines.specs.declared.LineError.{LineError}
use Rattle.lines.specs.declared.LineError.TheVariants.{Grammar, Range}
use Rattle.lines.specs.declared.wording.LineWords.{LineWords}

-- what the fields behind a line's first word say
abbrev pub Body : Type 0 → Type 0
Body X = List ℕ → ℕ → Option (Option X)

-- a line that breaks the grammar, or whose numbers are too large, is refused for it
abbrev pub judged : {X : Type 0} → Option (Option X) → Result X LineError
judged None = Err Grammar
judged (Some None) = Err Range
judged (Some (Some x)) = Ok x

-- what a line said that was judged so
abbrev pub unjudged : {X : Type 0} → Result X LineError → Option (Option X)
unjudged (Ok x) = Some (Some x)
unjudged (Err Grammar) = None
unjudged (Err Range) = Some None

-- what is made of a value, where there is one
abbrev pub inside : {X Y : Type 0} → (X → Y) → Option (Option X) → Option (Option Y)
inside f o = option_map (option_map f) o

-- `lattice L cells N tasks T`
abbrev pub head_of : Bits 8 × (Bits 10 × Bits 10) → Head
head_of p = record { label = p.0; cells = p.1.0; tasks = p.1.1 }

abbrev pub head_fields : List ℕ → ℕ → Field (Bits 8 × (Bits 10 × Bits 10))
head_fields = then (number_field 8) (then (named (codes "cells") (number_field 10)) (named (codes "tasks") (number_field 10)))

abbrev pub head_from : List ℕ → Option (List ℕ × ℕ) → Option (Option Head)
head_from line None = None
head_from line (Some p) = cond (bytes_eq p.0 (codes "lattice")) (inside head_of (lastly head_fields line p.1)) None

abbrev pub head_line : List ℕ → Option (Option Head)
head_line line = head_from line (first_word line)

-- `task P N`, which load starts, or `idle P N`
abbrev pub started_by : List ℕ → Option Bool
started_by w = cond (bytes_eq w (codes "task")) (Some true) (cond (bytes_eq w (codes "idle")) (Some false) None)

-- two numbers, with which the line ends
abbrev pub number_pair : (m n : ℕ) → Body (Bits m × Bits n)
number_pair m n = lastly (then (number_field m) (number_field n))

abbrev pub entry_of : Bool → Bits 13 × Bits 14 → Entry
entry_of started p = record { started = started; place = p.0; argument = p.1 }

abbrev pub entry_by : List ℕ → ℕ → Option Bool → Option (Option Entry)
entry_by line at None = None
entry_by line at (Some started) = inside (entry_of started) (number_pair 13 14 line at)

abbrev pub entry_from : List ℕ → Option (List ℕ × ℕ) → Option (Option Entry)
entry_from line None = None
entry_from line (Some p) = entry_by line p.1 (started_by p.0)

abbrev pub entry_line : List ℕ → Option (Option Entry)
entry_line line = entry_from line (first_word line)

-- a line of code; a GET has a row of codes
pub data Statement : Type 0 where
  end_line : Statement
  put_line : CellOperand → CodeOperand → Statement
  get_line : CellOperand → List CodeOperand → Statement
  freeze_line : CellOperand → Statement
  if_line : Bits 15 → Bits 13 → Statement
  has_line : CellOperand → CodeOperand → Statement
  start_line : Bits 9 → Statement
  let_line : Bits 18 → Statement
  loop_line : Bits 15 → Bits 13 → Statement

-- the words of a line of code: a GET is followed by one TRIG for each of its codes
abbrev pub statement_words : Statement → List ℕ
statement_words end_line = instruction_word instruction.End ∷ []
statement_words (put_line c v) = instruction_word (instruction.Put c v) ∷ []
statement_words (get_line c vs) = instruction_word (instruction.Get c (lowest 4 (length vs))) ∷ map trigger vs
statement_words (freeze_line c) = instruction_word (instruction.Freeze c) ∷ []
statement_words (if_line n p) = instruction_word (instruction.If n p) ∷ []
statement_words (has_line c v) = instruction_word (instruction.Has c v) ∷ []
statement_words (start_line t) = instruction_word (instruction.Start t) ∷ []
statement_words (let_line n) = instruction_word (instruction.Let n) ∷ []
statement_words (loop_line n p) = instruction_word (instruction.Loop n p) ∷ []

-- the first word of a line of code
abbrev pub keyword_in : List ℕ → Option Keyword
keyword_in w =
    cond (bytes_eq w (codes "end")) (Some End)
    (cond (bytes_eq w (codes "put")) (Some Put)
    (cond (bytes_eq w (codes "get")) (Some Get)
    (cond (bytes_eq w (codes "freeze")) (Some Freeze)
    (cond (bytes_eq w (codes "if")) (Some If)
    (cond (bytes_eq w (codes "has")) (Some Has)
    (cond (bytes_eq w (codes "start")) (Some Start)
    (cond (bytes_eq w (codes "let")) (Some Let)
    (cond (bytes_eq w (codes "loop")) (Some Loop)
    None))))))))

-- a cell and a code, with which the line ends
abbrev pub cell_and_code : Body (CellOperand × CodeOperand)
cell_and_code = lastly (then cell_field code_field)

-- the fields behind each first word
abbrev pub statement_by : Keyword → Body Statement
statement_by End line at = inside (λ _. end_line) (lastly nothing line at)
statement_by Put line at = inside (λ p. put_line p.0 p.1) (cell_and_code line at)
statement_by Get line at = inside (λ p. get_line p.0 p.1) (lastly (then cell_field row) line at)
statement_by Freeze line at = inside freeze_line (lastly cell_field line at)
statement_by If line at = inside (λ p. if_line p.0 p.1) (number_pair 15 13 line at)
statement_by Has line at = inside (λ p. has_line p.0 p.1) (cell_and_code line at)
statement_by Start line at = inside start_line (lastly (number_field 9) line at)
statement_by Let line at = inside let_line (lastly (number_field 18) line at)
statement_by Loop line at = inside (λ p. loop_line p.0 p.1) (number_pair 15 13 line at)

abbrev pub by_keyword : List ℕ → ℕ → Option Keyword → Option (Option Statement)
by_keyword line at None = None
by_keyword line at (Some k) = statement_by k line at

abbrev pub code_from : List ℕ → Option (List ℕ × ℕ) → Option (Option Statement)
code_from line None = None
code_from line (Some p) = by_keyword line p.1 (keyword_in p.0)

-- a line of code
abbrev pub code_line : List ℕ → Option (Option Statement)
code_line line = code_from line (first_word line)

-- the words that a line was read to
abbrev pub told : LineWords → List ℕ
told w = w.first ∷ take w.count w.triggers

abbrev pub words_told : Result LineWords LineError → Result (List ℕ) LineError
words_told (Ok w) = Ok (told w)
words_told (Err e) = Err e
