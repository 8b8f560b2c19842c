-- Reading a word and writing it are inverse to each other.
use Rattle.std.proofs.Common.{◌≡◌, ℕ, ◌/◌, ◌%◌, ◌^◌, ◌<◌, cond, eqb, Some, None, Option, refl, arith}
use Rattle.std.proofs.lemmas.Bool.{cond_both, eqb-true}
use Rattle.std.proofs.lemmas.Bool.Decides.{nat_tests}
use Rattle.bits.specs.declared.Bits.{Bits}
use Rattle.bits.proofs.Same.{same_bits}
use Rattle.words.specs.declared.instruction.CellOperand.TheVariants as cell
use Rattle.words.specs.declared.instruction.CodeOperand.{CodeOperand}
use Rattle.words.specs.declared.instruction.CodeOperand.TheVariants as code
use Rattle.words.specs.declared.instruction.Instruction.{Instruction}
use Rattle.words.specs.declared.instruction.Instruction.TheVariants.{End, Put, Get, Trig, Freeze, If, Has, Start, Let, Loop}
use Rattle.words.specs.Fields.{field, kind}
use Rattle.words.specs.Heads.{head_in, HeadOf}
use Rattle.words.specs.Entries.{entry_in, EntryOf}
use Rattle.words.specs.Instructions.{instruction_word, with_code, instruction_in, InstructionOf}

-- a field of a word that is known
field_is : {n : ℕ} (low w : ℕ) (b : Bits n) → w / 2 ^ low % 2 ^ n ≡ b.value → field low n w ≡ b
field_is low w b e = same_bits _ b e

pub head_of : (w : ℕ) → w < 2 ^ 32 → HeadOf w (head_in w)
head_of w small h = grind (arith, nat_tests, field_is 20 w h.label, field_is 10 w h.cells, field_is 0 w h.tasks)

pub entry_of : (w : ℕ) → w < 2 ^ 32 → EntryOf w (entry_in w)
entry_of w small e = grind (arith, nat_tests, field_is 14 w e.place, field_is 0 w e.argument)

pub instruction_written : (w : ℕ) (i : Instruction) → instruction_word i ≡ w → instruction_in w ≡ Some i
instruction_written w End e = grind (arith, nat_tests)
instruction_written w (Put (cell.Fixed c) (code.Fixed v)) e = grind (arith, nat_tests, field_is 18 w c, field_is 0 w v)
instruction_written w (Put (cell.Fixed c) code.Register) e = grind (arith, nat_tests, field_is 18 w c)
instruction_written w (Put (cell.Moved c) (code.Fixed v)) e = grind (arith, nat_tests, field_is 18 w c, field_is 0 w v)
instruction_written w (Put (cell.Moved c) code.Register) e = grind (arith, nat_tests, field_is 18 w c)
instruction_written w (Get (cell.Fixed c) n) e = grind (arith, nat_tests, field_is 18 w c, field_is 0 w n)
instruction_written w (Get (cell.Moved c) n) e = grind (arith, nat_tests, field_is 18 w c, field_is 0 w n)
instruction_written w (Trig (code.Fixed v)) e = grind (arith, nat_tests, field_is 0 w v)
instruction_written w (Trig code.Register) e = grind (arith, nat_tests)
instruction_written w (Freeze (cell.Fixed c)) e = grind (arith, nat_tests, field_is 18 w c)
instruction_written w (Freeze (cell.Moved c)) e = grind (arith, nat_tests, field_is 18 w c)
instruction_written w (If n p) e = grind (arith, nat_tests, field_is 13 w n, field_is 0 w p)
instruction_written w (Has (cell.Fixed c) (code.Fixed v)) e = grind (arith, nat_tests, field_is 18 w c, field_is 0 w v)
instruction_written w (Has (cell.Fixed c) code.Register) e = grind (arith, nat_tests, field_is 18 w c)
instruction_written w (Has (cell.Moved c) (code.Fixed v)) e = grind (arith, nat_tests, field_is 18 w c, field_is 0 w v)
instruction_written w (Has (cell.Moved c) code.Register) e = grind (arith, nat_tests, field_is 18 w c)
instruction_written w (Start t) e = grind (arith, nat_tests, field_is 0 w t)
instruction_written w (Let n) e = grind (arith, nat_tests, field_is 0 w n)
instruction_written w (Loop n p) e = grind (arith, nat_tests, field_is 13 w n, field_is 0 w p)

pub with_code_some : (f : CodeOperand → Instruction) (o : Option CodeOperand) (i : Instruction) → with_code f o ≡ Some i → (v : CodeOperand) × (i ≡ f v) × (o ≡ Some v)
with_code_some f None i e = grind arith
with_code_some f (Some v) i e = (v, cc, refl)

-- an instruction of kind k, or one of a kind after it
pub or_else : (P : Option Instruction → Type 0) (w k : ℕ) (o p : Option Instruction) → (kind w ≡ k → P o) → P p → P (cond (eqb (kind w) k) o p)
or_else P w k o p here later = cond_both (eqb (kind w) k) o p P (λ e. here (eqb-true (kind w) k e)) (λ _. later)

module _ (w : ℕ) (small : w < 2 ^ 32) (i : Instruction) where
  abbrev Back : Option Instruction → Type 0
  Back o = o ≡ Some i → instruction_word i ≡ w

  pub instruction_read : Back (instruction_in w)
  instruction_read =
      or_else Back w 0 _ _ (λ k e. grind (arith, nat_tests))
      (or_else Back w 1 _ _ (λ k e. grind (arith, nat_tests, with_code_some))
      (or_else Back w 2 _ _ (λ k e. grind (arith, nat_tests))
      (or_else Back w 3 _ _ (λ k e. grind (arith, nat_tests, with_code_some))
      (or_else Back w 4 _ _ (λ k e. grind (arith, nat_tests))
      (or_else Back w 5 _ _ (λ k e. grind (arith, nat_tests))
      (or_else Back w 6 _ _ (λ k e. grind (arith, nat_tests, with_code_some))
      (or_else Back w 7 _ _ (λ k e. grind (arith, nat_tests))
      (or_else Back w 8 _ _ (λ k e. grind (arith, nat_tests))
      (or_else Back w 9 _ _ (λ k e. grind (arith, nat_tests)) (λ e. grind arith))))))))))

pub instruction_of : (w : ℕ) → w < 2 ^ 32 → InstructionOf w (instruction_in w)
instruction_of w small i = (instruction_read w small i, instruction_written w i)
