-- What every program has that breaks no rule.
use Rattle.std.specs.Prelude.{◌≡◌, ℕ, ◌+◌, ◌<◌, ◌≤◌, true, List, length, Some, ◌≢◌}
use Rattle.bits.specs.declared.Bits.{Bits}
use Rattle.lattice.specs.Meaning.{Meaning}
use Rattle.words.specs.declared.entry.Entry.{Entry}
use Rattle.words.specs.declared.instruction.CellOperand.{CellOperand}
use Rattle.words.specs.declared.instruction.CodeOperand.{CodeOperand}
use Rattle.words.specs.declared.instruction.CodeOperand.TheVariants as code
use Rattle.words.specs.declared.instruction.Instruction.{Instruction}
use Rattle.words.specs.declared.instruction.Instruction.TheVariants.{End, Get, Trig, If, Start, Loop}
use Rattle.rulebook.specs.Programs.{tasks, entry_at, code_at, instruction_at, is_instruction, counted_by}

-- the word at a place is trigger k of a GET
pub record Trigger (ws : List ℕ) (p : ℕ) (n : Bits 4) (k : ℕ) (v : CodeOperand) : Type 0 where
  pub cell : CellOperand
  pub get : instruction_at ws p ≡ Some (Get cell n)
  pub within : k < n.value
  pub word : code_at ws (p + 1 + k) ≡ Some (Trig v)

pub record Sound (M : Meaning) (ws : List ℕ) : Type 0 where
  -- HEAD, the TASK words and at least one word of code
  pub long : tasks ws + 2 ≤ length ws
  -- each task's entry is an instruction
  pub entries : (t : ℕ) → t < tasks ws → (e : Entry) × (entry_at ws (t + 1) ≡ Some e) × (is_instruction ws e.place.value ≡ true)
  -- the places of IF and LOOP are instructions
  pub if_places : (p : ℕ) (n : Bits 15) (q : Bits 13) → instruction_at ws p ≡ Some (If n q) → is_instruction ws q.value ≡ true
  pub loop_places : (p : ℕ) (n : Bits 15) (q : Bits 13) → instruction_at ws p ≡ Some (Loop n q) → is_instruction ws q.value ≡ true
  -- what stands behind an instruction that is not END, and behind a GET's triggers, is an instruction
  pub successors : (p : ℕ) (i : Instruction) → instruction_at ws p ≡ Some i → (i ≢ End) → is_instruction ws (p + 1 + counted_by (Some i)) ≡ true
  -- the tasks of START exist
  pub start_tasks : (p : ℕ) (t : Bits 9) → instruction_at ws p ≡ Some (Start t) → t.value < tasks ws
  -- a GET has 1 to 8 triggers, and the words behind it are these
  pub get_counts : (p : ℕ) (c : CellOperand) (n : Bits 4) → instruction_at ws p ≡ Some (Get c n) → (1 ≤ n.value) × (n.value ≤ 8)
  pub get_triggers : (p : ℕ) (c : CellOperand) (n : Bits 4) → instruction_at ws p ≡ Some (Get c n) → (k : ℕ) → k < n.value → (v : CodeOperand) × Trigger ws p n k v
  -- those that are written out are admitted, and clash in pairs
  pub admitted : (p : ℕ) (n : Bits 4) (k : ℕ) (v : Bits 18) → Trigger ws p n k (code.Fixed v) → M.admits v ≡ true
  pub clash : (p : ℕ) (n : Bits 4) (j k : ℕ) (v w : Bits 18) → j < k → Trigger ws p n j (code.Fixed v) → Trigger ws p n k (code.Fixed w) → M.clash (M.value v) (M.value w) ≡ true
  -- one from R stands alone
  pub alone : (p : ℕ) (n : Bits 4) (k : ℕ) → Trigger ws p n k code.Register → n.value ≡ 1
