-- The fields of a line. A field that is read but too large for its bits has no value.
use Rattle.std.specs.Prelude.{ℕ, ◌+◌, ◌-◌, Bool, cond, ◌&&◌, List, length, Some, None, Option, ◌==◌, nat_lt, slice_index}
use Rattle.std.specs.Option.{option_map}
use Rattle.std.specs.Str.{bytes_eq}
use Rattle.bits.specs.declared.Bits.{Bits}
use Rattle.bits.specs.Fits.{fitted}
use Rattle.words.specs.declared.instruction.CellOperand.{CellOperand}
use Rattle.words.specs.declared.instruction.CellOperand.TheVariants as cell
use Rattle.words.specs.declared.instruction.CodeOperand.{CodeOperand}
use Rattle.words.specs.declared.instruction.CodeOperand.TheVariants as code
use Rattle.lexer.specs.Tokens.{Said, word, plain, plus, register, Placed, token_at}

-- whether a byte stands at a place
abbrev pub stands : List ℕ → ℕ → ℕ → Bool
stands line at b = nat_lt at (length line) && slice_index line at == b

-- whether a line's LF stands at a place, and nothing after it
abbrev pub ends : List ℕ → ℕ → Bool
ends line at = stands line at 10 && length line - at == 1

-- the field that follows one space
abbrev pub field_at : List ℕ → ℕ → Option Placed
field_at line at = cond (stands line at 32) (token_at line (at + 1)) None

-- the word that a line begins with, and the place after it
abbrev pub word_in : Said → ℕ → Option (List ℕ × ℕ)
word_in (word w) next = Some (w, next)
word_in (plain v) next = None
word_in (plus v) next = None
word_in register next = None

abbrev pub word_by : Option Placed → Option (List ℕ × ℕ)
word_by None = None
word_by (Some p) = word_in p.token p.next

abbrev pub first_word : List ℕ → Option (List ℕ × ℕ)
first_word line = word_by (token_at line 0)

-- the place after a field that is the word `name`
abbrev pub spelt : List ℕ → Said → ℕ → Option ℕ
spelt name (word w) next = cond (bytes_eq w name) (Some next) None
spelt name (plain v) next = None
spelt name (plus v) next = None
spelt name register next = None

abbrev pub spelt_by : List ℕ → Option Placed → Option ℕ
spelt_by name None = None
spelt_by name (Some p) = spelt name p.token p.next

abbrev pub word_field : List ℕ → List ℕ → ℕ → Option ℕ
word_field name line at = spelt_by name (field_at line at)

-- the place after what was read
abbrev pub reached : Option (Unit {0}) → ℕ → Option ℕ
reached None next = None
reached (Some x) next = Some next

-- a field of some kind: its value, if its bits hold it, and the place after it
abbrev pub Field : Type 0 → Type 0
Field X = Option (Option X × ℕ)

-- what a field says, with the place after it
abbrev pub kept : {X : Type 0} → ℕ → Option (Option X) → Field X
kept next None = None
kept next (Some v) = Some (v, next)

-- no field
abbrev pub nothing : List ℕ → ℕ → Field (Unit {0})
nothing line at = Some (Some tt, at)

-- two values, if both fit
abbrev pub both : {X Y : Type 0} → Option X → Option Y → Option (X × Y)
both None y = None
both (Some x) None = None
both (Some x) (Some y) = Some (x, y)

-- a value beside the field behind it
abbrev pub beside : {X Y : Type 0} → Option X → Field Y → Field (X × Y)
beside x None = None
beside x (Some q) = Some (both x q.0, q.1)

abbrev pub then_by : {X Y : Type 0} → (List ℕ → ℕ → Field Y) → List ℕ → Field X → Field (X × Y)
then_by Q line None = None
then_by Q line (Some p) = beside p.0 (Q line p.1)

-- a field, and the one after it
abbrev pub then : {X Y : Type 0} → (List ℕ → ℕ → Field X) → (List ℕ → ℕ → Field Y) → List ℕ → ℕ → Field (X × Y)
then P Q line at = then_by Q line (P line at)

-- a field that f takes
abbrev pub only : {X : Type 0} → (Said → Option (Option X)) → Option Placed → Field X
only f None = None
only f (Some p) = kept p.next (f p.token)

-- a number for n bits
abbrev pub number_in : (n : ℕ) → Said → Option (Option (Bits n))
number_in n (word w) = None
number_in n (plain v) = Some (fitted n v)
number_in n (plus v) = None
number_in n register = None

-- a cell: a number, or one that register R moves
abbrev pub cell_in : Said → Option (Option CellOperand)
cell_in (word w) = None
cell_in (plain v) = Some (option_map cell.Fixed (fitted 8 v))
cell_in (plus v) = Some (option_map cell.Moved (fitted 8 v))
cell_in register = None

-- a code: a number, or register R
abbrev pub code_in : Said → Option (Option CodeOperand)
code_in (word w) = None
code_in (plain v) = Some (option_map code.Fixed (fitted 18 v))
code_in (plus v) = None
code_in register = Some (Some code.Register)

abbrev pub number_field : (n : ℕ) → List ℕ → ℕ → Field (Bits n)
number_field n line at = only (number_in n) (field_at line at)

abbrev pub cell_field : List ℕ → ℕ → Field CellOperand
cell_field line at = only cell_in (field_at line at)

abbrev pub code_field : List ℕ → ℕ → Field CodeOperand
code_field line at = only code_in (field_at line at)
