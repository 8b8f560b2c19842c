-- How the fields of a line follow each other.
use Rattle.std.specs.Prelude.{ℕ, zero, suc, cond, List, [], ◌∷◌, ◌++◌, map, Some, None, Option}
use Rattle.std.specs.Option.{option_map}
use Rattle.words.specs.declared.instruction.CodeOperand.{CodeOperand}
use Rattle.words.specs.declared.instruction.Instruction.TheVariants.{Trig}
use Rattle.words.specs.Instructions.{instruction_word}
pub use Rattle.lexer.specs.Fields.{both, beside, then_by, then, nothing}
use Rattle.lexer.specs.Fields.{Field, stands, ends, word_field, code_field}

abbrev pub named_by : {X : Type 0} → (List ℕ → ℕ → Field X) → List ℕ → Option ℕ → Field X
named_by P line None = None
named_by P line (Some next) = P line next

-- a field behind a word
abbrev pub named : {X : Type 0} → List ℕ → (List ℕ → ℕ → Field X) → List ℕ → ℕ → Field X
named name P line at = named_by P line (word_field name line at)

-- fields with which the line ends
abbrev pub closed : {X : Type 0} → List ℕ → Field X → Option (Option X)
closed line None = None
closed line (Some p) = cond (ends line p.1) (Some p.0) None

abbrev pub lastly : {X : Type 0} → (List ℕ → ℕ → Field X) → List ℕ → ℕ → Option (Option X)
lastly P line at = closed line (P line at)

-- a value ahead of others, if all fit
abbrev pub ahead : {X : Type 0} → Option X → Option (List X) → Option (List X)
ahead None xs = None
ahead (Some x) None = None
ahead (Some x) (Some xs) = Some (x ∷ xs)

abbrev pub before : {X : Type 0} → Option X → Field (List X) → Field (List X)
before x None = None
before x (Some q) = Some (ahead x q.0, q.1)

-- a field, and more of its kind behind it
abbrev pub firstly : {X : Type 0} → Field X → (ℕ → Field (List X)) → Field (List X)
firstly None more = None
firstly (Some p) more = before p.0 (more p.1)

-- at most n codes in a row
unfoldable pub row_at : ℕ → List ℕ → ℕ → Field (List CodeOperand)
row_at zero line at = Some (Some [], at)
row_at (suc n) line at = cond (stands line at 32) (firstly (code_field line at) (row_at n line)) (Some (Some [], at))

-- one to eight of them
abbrev pub row : List ℕ → ℕ → Field (List CodeOperand)
row line at = firstly (code_field line at) (row_at 7 line)

-- the words of a row: a TRIG for each code
abbrev pub trigger : CodeOperand → ℕ
trigger v = instruction_word (Trig v)

abbrev pub row_words : Field (List CodeOperand) → Field (List ℕ)
row_words None = None
row_words (Some p) = Some (option_map (map trigger) p.0, p.1)

-- one more word, if there is a code for it
abbrev pub stored : Option (List ℕ) → Option CodeOperand → Option (List ℕ)
stored None v = None
stored (Some ws) None = None
stored (Some ws) (Some v) = Some (ws ++ trigger v ∷ [])
