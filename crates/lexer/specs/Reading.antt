-- The word that a line begins with, as the code answers it.
use Rattle.std.specs.Prelude.{ℕ, List, Some, None, Option}
use Rattle.std.specs.Borrow.{Bor}
use Rattle.lexer.specs.declared.fields.Cursor.{Cursor}

-- a word that was answered, with its bytes in place of the reference, and the place of the cursor behind it
abbrev pub begun : Option (Bor (List ℕ) × Cursor) → Option (List ℕ × ℕ)
begun None = None
begun (Some p) = Some (p.0.now, p.1.at)
