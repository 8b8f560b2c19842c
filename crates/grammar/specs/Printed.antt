-- How the lines of a text are printed: a word, each field behind one space, and LF.
use Rattle.std.specs.Prelude.{ℕ, ◌≤◌, cond, List, [], ◌∷◌, ◌++◌, length, codes, decimal}
use Rattle.std.specs.List.{flat_map}
use Rattle.bits.specs.declared.Bits.{Bits}
use Rattle.words.specs.declared.head.Head.{Head}
use Rattle.words.specs.declared.entry.Entry.{Entry}
use Rattle.words.specs.declared.instruction.CellOperand.{CellOperand}
use Rattle.words.specs.declared.instruction.CellOperand.TheVariants as cell
use Rattle.words.specs.declared.instruction.CodeOperand.{CodeOperand}
use Rattle.words.specs.declared.instruction.CodeOperand.TheVariants as code
use Rattle.lines.specs.Lines.{Statement, end_line, put_line, get_line, freeze_line, if_line, has_line, start_line, let_line, loop_line}

-- a number is printed in decimal
abbrev pub printed_number : {n : ℕ} → Bits n → List ℕ
printed_number b = codes " " ++ decimal b.value

-- a cell that register R moves has a plus before it
abbrev pub printed_cell : CellOperand → List ℕ
printed_cell (cell.Fixed c) = codes " " ++ decimal c.value
printed_cell (cell.Moved c) = codes " +" ++ decimal c.value

-- a code that is taken from register R is an r
abbrev pub printed_code : CodeOperand → List ℕ
printed_code (code.Fixed v) = codes " " ++ decimal v.value
printed_code code.Register = codes " r"

-- a line: its first word, its other fields and LF
abbrev pub line_of : List ℕ → List ℕ → List ℕ
line_of name fields = name ++ (fields ++ (10 ∷ []))

abbrev pub printed_head : Head → List ℕ
printed_head h = line_of (codes "lattice") (printed_number h.label ++ ((codes " cells" ++ printed_number h.cells) ++ (codes " tasks" ++ printed_number h.tasks)))

abbrev pub printed_entry : Entry → List ℕ
printed_entry e = line_of (cond e.started (codes "task") (codes "idle")) (printed_number e.place ++ printed_number e.argument)

abbrev pub printed_statement : Statement → List ℕ
printed_statement end_line = line_of (codes "end") []
printed_statement (put_line c v) = line_of (codes "put") (printed_cell c ++ printed_code v)
printed_statement (get_line c vs) = line_of (codes "get") (printed_cell c ++ flat_map printed_code vs)
printed_statement (freeze_line c) = line_of (codes "freeze") (printed_cell c)
printed_statement (if_line n p) = line_of (codes "if") (printed_number n ++ printed_number p)
printed_statement (has_line c v) = line_of (codes "has") (printed_cell c ++ printed_code v)
printed_statement (start_line t) = line_of (codes "start") (printed_number t)
printed_statement (let_line n) = line_of (codes "let") (printed_number n)
printed_statement (loop_line n p) = line_of (codes "loop") (printed_number n ++ printed_number p)

-- a GET line has one to eight codes
abbrev pub Formed : Statement → Type 0
Formed end_line = Unit {0}
Formed (put_line c v) = Unit {0}
Formed (get_line c vs) = (1 ≤ length vs) × (length vs ≤ 8)
Formed (freeze_line c) = Unit {0}
Formed (if_line n p) = Unit {0}
Formed (has_line c v) = Unit {0}
Formed (start_line t) = Unit {0}
Formed (let_line n) = Unit {0}
Formed (loop_line n p) = Unit {0}
