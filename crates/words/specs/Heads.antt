-- HEAD, a program's first word: kind 15, label in bits 27-20, cells in 19-10, tasks in 9-0.
use Rattle.std.specs.Prelude.{ℕ, ◌+◌, ◌*◌, ◌^◌, cond, Some, None, Option, ◌==◌}
use Rattle.words.specs.declared.head.Head.{Head}
use Rattle.words.specs.Fields.{field, kind}
use Rattle.words.specs.ReadBack.{ReadBack}

abbrev pub head_word : Head → ℕ
head_word h = 15 * 2 ^ 28 + h.label.value * 2 ^ 20 + h.cells.value * 2 ^ 10 + h.tasks.value

abbrev pub head_in : ℕ → Option Head
head_in w = cond (kind w == 15) (Some (record { label = field 20 8 w; cells = field 10 10 w; tasks = field 0 10 w })) None

-- a head is read from a word exactly when it is written as that word
abbrev pub HeadOf : ℕ → Option Head → Type 0
HeadOf = ReadBack head_word
