-- TASK, a word for each task: kind 14, started in bit 27, place of its first instruction in 26-14, argument in 13-0.
use Rattle.std.specs.Prelude.{ℕ, ◌+◌, ◌*◌, ◌^◌, cond, Some, None, Option, ◌==◌}
use Rattle.words.specs.declared.entry.Entry.{Entry}
use Rattle.words.specs.Fields.{field, flag, kind}
use Rattle.words.specs.ReadBack.{ReadBack}

abbrev pub entry_word : Entry → ℕ
entry_word e = 14 * 2 ^ 28 + cond e.started (2 ^ 27) 0 + e.place.value * 2 ^ 14 + e.argument.value

abbrev pub entry_in : ℕ → Option Entry
entry_in w = cond (kind w == 14) (Some (record { started = flag 27 w; place = field 14 13 w; argument = field 0 14 w })) None

-- an entry is read from a word exactly when it is written as that word
abbrev pub EntryOf : ℕ → Option Entry → Type 0
EntryOf = ReadBack entry_word
