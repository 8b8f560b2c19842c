-- What stands where in a program: HEAD at place 0, then a TASK word for each task, then the code.
use Rattle.std.specs.Prelude.{ℕ, ◌+◌, Bool, cond, ◌&&◌, List, [], ◌∷◌, length, take, drop, is_some, Some, None, Option, ◌==◌, nat_le, nat_lt, slice_index}
use Rattle.std.specs.List.{prefix_len}
use Rattle.words.specs.Fields.{kind}
use Rattle.words.specs.Heads.{head_in}
use Rattle.words.specs.Entries.{entry_in}
use Rattle.words.specs.Instructions.{instruction_in}
use Rattle.words.specs.declared.head.Head.{Head}
use Rattle.words.specs.declared.entry.Entry.{Entry}
use Rattle.words.specs.declared.instruction.Instruction.{Instruction}
use Rattle.words.specs.declared.instruction.Instruction.TheVariants.{Get, Trig}
use Rattle.rulebook.specs.declared.Counts.{Counts}

-- what the first word says, if it is a HEAD
unfoldable pub head_of : List ℕ → Option Head
head_of [] = None
head_of (w ∷ ws) = head_in w

abbrev pub counts_by : Option Head → Counts
counts_by None = record { cells = 0; tasks = 0 }
counts_by (Some h) = record { cells = h.cells.value; tasks = h.tasks.value }

-- how many cells and tasks a program has; none of either where it has no HEAD
abbrev pub counts_of : List ℕ → Counts
counts_of ws = counts_by (head_of ws)

abbrev pub cells : List ℕ → ℕ
cells ws = (counts_of ws).cells

abbrev pub tasks : List ℕ → ℕ
tasks ws = (counts_of ws).tasks

-- the places of the TASK words, and of the code behind them
abbrev pub in_tasks : List ℕ → ℕ → Bool
in_tasks ws p = nat_le 1 p && (nat_le p (tasks ws) && nat_lt p (length ws))

abbrev pub in_code : List ℕ → ℕ → Bool
in_code ws p = nat_lt (tasks ws) p && nat_lt p (length ws)

-- what a TASK word says; none at a place of no task, and for a word of another kind
unfoldable pub entry_at : List ℕ → ℕ → Option Entry
entry_at ws p = cond (in_tasks ws p) (entry_in (slice_index ws p)) None

-- what a word of code says; none outside the code, and for a word that breaks its own form
unfoldable pub code_at : List ℕ → ℕ → Option Instruction
code_at ws p = cond (in_code ws p) (instruction_in (slice_index ws p)) None

abbrev pub no_trigger : Option Instruction → Option Instruction
no_trigger (Some (Trig v)) = None
no_trigger o = o

-- an instruction is a word of code that is no TRIG
abbrev pub instruction_at : List ℕ → ℕ → Option Instruction
instruction_at ws p = no_trigger (code_at ws p)

abbrev pub is_instruction : List ℕ → ℕ → Bool
is_instruction ws p = is_some (instruction_at ws p)

-- whether a word is a TRIG, by its kind alone
abbrev pub is_trigger : ℕ → Bool
is_trigger w = kind w == 3

-- how many TRIG words begin a part of a program
unfoldable pub run : List ℕ → ℕ
run ws = prefix_len is_trigger ws

-- the TRIG words right behind a place
abbrev pub row_behind : List ℕ → ℕ → List ℕ
row_behind ws p = take (run (drop (p + 1) ws)) (drop (p + 1) ws)

-- how many words behind it an instruction counts as its triggers
abbrev pub counted_by : Option Instruction → ℕ
counted_by (Some (Get c n)) = n.value
counted_by _ = 0
