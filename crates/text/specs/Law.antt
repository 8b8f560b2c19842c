-- The grammar: which texts are read, and to which words.
use Rattle.std.specs.Prelude.{◌≡◌, ℕ, ◌<◌, ◌≤◌, List, ◌++◌, length, drop, Ok, Err, Result}
use Rattle.grammar.specs.Programs.{Program, Whole, printed, program_words}
use Rattle.text.specs.declared.refusal.Cause.TheVariants.{Room}
use Rattle.text.specs.declared.refusal.Refusal.{Refusal}

-- what was answered of a text, and what a buffer became
pub record Grammar (text start after : List ℕ) (r : Result ℕ Refusal) : Type 0 where
  -- a program as it is printed is read, if its words find room
  pub accepted : (p : Program) → Whole p → text ≡ printed p → length (program_words p) ≤ length start → (r ≡ Ok (length (program_words p))) × (after ≡ program_words p ++ drop (length (program_words p)) start)
  -- no other text is
  pub only : (n : ℕ) → r ≡ Ok n → (p : Program) × Whole p × (text ≡ printed p) × (n ≡ length (program_words p)) × (after ≡ program_words p ++ drop n start)
  -- a program whose words do not find room is refused for that alone
  pub short : (p : Program) → Whole p → text ≡ printed p → length start < length (program_words p) → (line : ℕ) × (r ≡ Err (record { cause = Room; line = line }))
  -- and a text has one reading
  pub one_reading : (p q : Program) → Whole p → Whole q → text ≡ printed p → text ≡ printed q → p ≡ q
