-- A program as its text has it: a first line, its task lines and its code lines.
use Rattle.std.specs.Prelude.{◌≡◌, ℕ, List, ◌∷◌, ◌++◌, map, length}
use Rattle.std.specs.List.{flat_map, AllByRecursion}
use Rattle.words.specs.declared.head.Head.{Head}
use Rattle.words.specs.declared.entry.Entry.{Entry}
use Rattle.words.specs.Heads.{head_word}
use Rattle.words.specs.Entries.{entry_word}
use Rattle.lines.specs.Lines.{Statement, statement_words}
use Rattle.grammar.specs.Printed.{printed_head, printed_entry, printed_statement, Formed}

pub record Program : Type 0 where
  pub head : Head
  pub entries : List Entry
  pub code : List Statement

-- the first line says how many task lines there are
pub record Whole (p : Program) : Type 0 where
  pub tasks : length p.entries ≡ p.head.tasks.value
  pub formed : AllByRecursion Formed p.code

abbrev pub printed : Program → List ℕ
printed p = printed_head p.head ++ (flat_map printed_entry p.entries ++ flat_map printed_statement p.code)

abbrev pub program_words : Program → List ℕ
program_words p = head_word p.head ∷ (map entry_word p.entries ++ flat_map statement_words p.code)
