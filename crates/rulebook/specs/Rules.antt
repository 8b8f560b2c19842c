-- The rules: an ordered table, with a test for each rule at each place.
use Rattle.std.specs.Prelude.{ℕ, zero, suc, ◌+◌, ◌-◌, Bool, true, false, not, ◌&&◌, ◌||◌, leb, List, [], ◌∷◌, length, is_some, Some, None, Option, ◌==◌, nat_le, nat_lt}
use Rattle.std.specs.List.{list_all}
use Rattle.bits.specs.Fits.{lowest}
use Rattle.lattice.specs.Meaning.{Meaning}
use Rattle.words.specs.Fields.{flag}
use Rattle.words.specs.declared.head.Head.{Head}
use Rattle.words.specs.declared.entry.Entry.{Entry}
use Rattle.words.specs.declared.instruction.CellOperand.{CellOperand}
use Rattle.words.specs.declared.instruction.CellOperand.TheVariants as cell
use Rattle.words.specs.declared.instruction.CodeOperand.{CodeOperand}
use Rattle.words.specs.declared.instruction.CodeOperand.TheVariants as code
use Rattle.words.specs.declared.instruction.Instruction.{Instruction}
use Rattle.words.specs.declared.instruction.Instruction.TheVariants.{End, Put, Get, Trig, Freeze, If, Has, Start, Loop}
use Rattle.rulebook.specs.declared.Rule.{Rule}
use Rattle.rulebook.specs.declared.Rule.TheVariants as rule
use Rattle.rulebook.specs.Programs.{head_of, cells, tasks, in_tasks, in_code, entry_at, code_at, is_instruction, row_behind, counted_by}

abbrev pub between : ℕ → ℕ → ℕ → Bool
between low n high = nat_le low n && nat_le n high

-- a first word of another kind than HEAD, or with counts out of range
abbrev pub bad_head : Option Head → Bool
bad_head None = true
bad_head (Some h) = not (between 1 h.cells.value 256 && between 1 h.tasks.value 512)

-- a first word with a label
abbrev pub labelled : ℕ → Option Head → Bool
labelled n None = false
labelled n (Some h) = h.label.value == n

-- whether some number below n passes a test
unfoldable pub some_below : (ℕ → Bool) → ℕ → Bool
some_below test zero = false
some_below test (suc n) = test n || some_below test n

-- whether some GET counts the word at a place among its triggers
abbrev pub is_counted : List ℕ → ℕ → Bool
is_counted ws p = some_below (λ q. leb p (q + counted_by (code_at ws q))) p

-- whether a word takes its code from R
abbrev pub from_register : ℕ → Bool
from_register w = flag 26 w

abbrev pub none_from_register : List ℕ → Bool
none_from_register row = list_all (λ w. not (from_register w)) row

-- a GET counts 1 to 8 triggers and is followed by just as many, of which one from R stands alone
abbrev pub good_row : ℕ → List ℕ → Bool
good_row n row = between 1 n 8 && (length row == n && (n == 1 || none_from_register row))

-- a word of code that breaks its form
abbrev pub ill_formed : List ℕ → ℕ → Option Instruction → Bool
ill_formed ws p None = true
ill_formed ws p (Some (Get c n)) = not (good_row n.value (row_behind ws p))
ill_formed ws p (Some (Trig v)) = not (is_counted ws p)
ill_formed ws p _ = false

abbrev pub is_end : Option Instruction → Bool
is_end (Some End) = true
is_end _ = false

-- a task that begins at no instruction
abbrev pub lost_entry : List ℕ → Option Entry → Bool
lost_entry ws None = false
lost_entry ws (Some e) = not (is_instruction ws e.place.value)

-- a cell that is not there; one that R is added to is looked at when it is met
abbrev pub lost_cell : List ℕ → CellOperand → Bool
lost_cell ws (cell.Fixed c) = nat_le (cells ws) c.value
lost_cell ws (cell.Moved c) = false

-- a place, a task or a cell that an instruction names and that is not there
abbrev pub lost_target : List ℕ → Option Instruction → Bool
lost_target ws (Some (Put c v)) = lost_cell ws c
lost_target ws (Some (Get c n)) = lost_cell ws c
lost_target ws (Some (Freeze c)) = lost_cell ws c
lost_target ws (Some (If n q)) = not (is_instruction ws q.value)
lost_target ws (Some (Has c v)) = lost_cell ws c
lost_target ws (Some (Start t)) = nat_le (tasks ws) t.value
lost_target ws (Some (Loop n q)) = not (is_instruction ws q.value)
lost_target ws _ = false

-- no TASK word where one is due, or no word behind them all
abbrev pub lacks_task : List ℕ → ℕ → Bool
lacks_task ws p = (in_tasks ws p && not (is_some (entry_at ws p))) || (p == length ws && nat_lt (length ws) (tasks ws + 2))

-- a word of code that breaks its form, or a last word that is no END
abbrev pub lacks_form : List ℕ → ℕ → Bool
lacks_form ws p = (in_code ws p && ill_formed ws p (code_at ws p)) || (p == length ws && not (is_end (code_at ws (length ws - 1))))

-- an entry, or a place, a task or a cell of an instruction, that is not there
abbrev pub lacks_target : List ℕ → ℕ → Bool
lacks_target ws p = lost_entry ws (entry_at ws p) || lost_target ws (code_at ws p)

module _ (M : Meaning) where
  -- the label is the lattice's, and its values have few enough words
  abbrev pub fits_lattice : Option Head → Bool
  fits_lattice h = labelled M.label.value h && nat_le M.width 64

  -- a code that is written out and not admitted
  abbrev pub unknown : CodeOperand → Bool
  unknown (code.Fixed v) = not (M.admits v)
  unknown code.Register = false

  abbrev pub unknown_code : Option Instruction → Bool
  unknown_code (Some (Put c v)) = unknown v
  unknown_code (Some (Trig v)) = unknown v
  unknown_code (Some (Has c v)) = unknown v
  unknown_code _ = false

  -- the value of a trigger that is written out
  abbrev pub trigger_value : ℕ → M.Value
  trigger_value w = M.value (lowest 18 w)

  abbrev pub clashes_with_all : M.Value → List ℕ → Bool
  clashes_with_all v row = list_all (λ w. M.clash v (trigger_value w)) row

  -- whether each two triggers clash
  abbrev pub pairs_clash : List ℕ → Bool
  pairs_clash [] = true
  pairs_clash (w ∷ row) = clashes_with_all (trigger_value w) row && pairs_clash row

  -- a GET with two triggers that do not clash
  abbrev pub ambiguous : List ℕ → ℕ → Option Instruction → Bool
  ambiguous ws p (Some (Get c n)) = not (pairs_clash (row_behind ws p))
  ambiguous ws p _ = false

  -- whether a program breaks a rule at a place; what is missing at its end is missed at the word count
  abbrev pub breaks : Rule → List ℕ → ℕ → Bool
  breaks rule.WordCount ws p = p == 0 && not (between 1 (length ws) 8192)
  breaks rule.Head ws p = p == 0 && bad_head (head_of ws)
  breaks rule.Lattice ws p = p == 0 && not (fits_lattice (head_of ws))
  breaks rule.Tasks ws p = lacks_task ws p
  breaks rule.Form ws p = lacks_form ws p
  breaks rule.Targets ws p = lacks_target ws p
  breaks rule.Codes ws p = unknown_code (code_at ws p)
  breaks rule.Triggers ws p = ambiguous ws p (code_at ws p)

-- the rules in their order: each covers the whole program before the next
abbrev pub table : List Rule
table =
    rule.WordCount
    ∷ rule.Head
    ∷ rule.Lattice
    ∷ rule.Tasks
    ∷ rule.Form
    ∷ rule.Targets
    ∷ rule.Codes
    ∷ rule.Triggers
    ∷ []
