-- TRIG is known by its kind alone, and its code by the word's fields.
use Rattle.std.proofs.Common.{◌≡◌, ℕ, true, Some, arith}
use Rattle.std.proofs.lemmas.Bool.Decides.{nat_tests}
use Rattle.bits.specs.declared.Bits.{Bits}
use Rattle.bits.specs.Fits.{lowest}
use Rattle.bits.proofs.Same.{same_bits}
use Rattle.words.specs.declared.instruction.CodeOperand.{CodeOperand}
use Rattle.words.specs.declared.instruction.CodeOperand.TheVariants as code
use Rattle.words.specs.declared.instruction.Instruction.{Instruction}
use Rattle.words.specs.declared.instruction.Instruction.TheVariants.{Trig}
use Rattle.words.specs.Fields.{field, flag, kind}
use Rattle.words.specs.Instructions.{code_in, instruction_in}
use Rattle.words.specs.Inverses.{with_code_some}

-- a word of TRIG's kind says nothing else
pub trig_read : (w : ℕ) (i : Instruction) → kind w ≡ 3 → instruction_in w ≡ Some i → (v : CodeOperand) × (i ≡ Trig v) × (code_in w ≡ Some v)
trig_read w i k e = with_code_some Trig (code_in w) i (grind (arith, nat_tests))

-- and no other word says TRIG
pub trig_kind : (w : ℕ) (v : CodeOperand) → instruction_in w ≡ Some (Trig v) → kind w ≡ 3
trig_kind w v e = grind (arith, nat_tests, with_code_some)

-- a code that is written out stands in the lowest 18 bits
pub code_fixed : (w : ℕ) (v : Bits 18) → code_in w ≡ Some (code.Fixed v) → lowest 18 w ≡ v
code_fixed w v e = let same = same_bits (lowest 18 w) (field 0 18 w) (omega arith) in grind (arith, nat_tests)

-- a code from R has bit 26
pub code_register : (w : ℕ) → code_in w ≡ Some code.Register → flag 26 w ≡ true
code_register w e = grind (arith, nat_tests)
