-- The words of code. Bit 27 moves the cell by register R; bit 26 takes the code from R, beside a code field of 0.
use Rattle.std.specs.Prelude.{ℕ, ◌+◌, ◌*◌, ◌^◌, cond, not, ◌&&◌, Some, None, Option, ◌==◌}
use Rattle.words.specs.declared.instruction.CellOperand.{CellOperand}
use Rattle.words.specs.declared.instruction.CellOperand.TheVariants as cell
use Rattle.words.specs.declared.instruction.CodeOperand.{CodeOperand}
use Rattle.words.specs.declared.instruction.CodeOperand.TheVariants as code
use Rattle.words.specs.declared.instruction.Instruction.{Instruction}
use Rattle.words.specs.declared.instruction.Instruction.TheVariants.{End, Put, Get, Trig, Freeze, If, Has, Start, Let, Loop}
use Rattle.words.specs.Fields.{field, flag, clear, kind}
use Rattle.words.specs.ReadBack.{ReadBack}

abbrev pub cell_bits : CellOperand → ℕ
cell_bits (cell.Fixed c) = c.value * 2 ^ 18
cell_bits (cell.Moved c) = 2 ^ 27 + c.value * 2 ^ 18

abbrev pub code_bits : CodeOperand → ℕ
code_bits (code.Fixed v) = v.value
code_bits code.Register = 2 ^ 26

-- the word of an instruction
abbrev pub instruction_word : Instruction → ℕ
instruction_word End = 0
instruction_word (Put c v) = 1 * 2 ^ 28 + cell_bits c + code_bits v
instruction_word (Get c n) = 2 * 2 ^ 28 + cell_bits c + n.value
instruction_word (Trig v) = 3 * 2 ^ 28 + code_bits v
instruction_word (Freeze c) = 4 * 2 ^ 28 + cell_bits c
instruction_word (If n p) = 5 * 2 ^ 28 + n.value * 2 ^ 13 + p.value
instruction_word (Has c v) = 6 * 2 ^ 28 + cell_bits c + code_bits v
instruction_word (Start t) = 7 * 2 ^ 28 + t.value
instruction_word (Let n) = 8 * 2 ^ 28 + n.value
instruction_word (Loop n p) = 9 * 2 ^ 28 + n.value * 2 ^ 13 + p.value

abbrev pub cell_in : ℕ → CellOperand
cell_in w = cond (flag 27 w) (cell.Moved (field 18 8 w)) (cell.Fixed (field 18 8 w))

abbrev pub code_in : ℕ → Option CodeOperand
code_in w = cond (flag 26 w) (cond (clear 0 18 w) (Some code.Register) None) (Some (code.Fixed (field 0 18 w)))

-- an instruction that goes by a code
abbrev pub with_code : (CodeOperand → Instruction) → Option CodeOperand → Option Instruction
with_code f None = None
with_code f (Some v) = Some (f v)

-- the instruction of a word of kind k
abbrev pub of_kind : ℕ → ℕ → Option Instruction
of_kind k w =
    cond (k == 0) (cond (clear 0 28 w) (Some End) None)
    (cond (k == 1) (with_code (Put (cell_in w)) (code_in w))
    (cond (k == 2) (cond (clear 4 14 w && not (flag 26 w)) (Some (Get (cell_in w) (field 0 4 w))) None)
    (cond (k == 3) (cond (clear 18 8 w && not (flag 27 w)) (with_code Trig (code_in w)) None)
    (cond (k == 4) (cond (clear 0 18 w && not (flag 26 w)) (Some (Freeze (cell_in w))) None)
    (cond (k == 5) (Some (If (field 13 15 w) (field 0 13 w)))
    (cond (k == 6) (with_code (Has (cell_in w)) (code_in w))
    (cond (k == 7) (cond (clear 9 19 w) (Some (Start (field 0 9 w))) None)
    (cond (k == 8) (cond (clear 18 10 w) (Some (Let (field 0 18 w))) None)
    (cond (k == 9) (Some (Loop (field 13 15 w) (field 0 13 w)))
    None)))))))))

-- the instruction of a word: the kind decides, and within a kind bits 26 and 27 do
abbrev pub instruction_in : ℕ → Option Instruction
instruction_in w = of_kind (kind w) w

-- an instruction is read from a word exactly when it is written as that word
abbrev pub InstructionOf : ℕ → Option Instruction → Type 0
InstructionOf = ReadBack instruction_word
