-- What the type Set stands for.
use Rattle.std.specs.Prelude.{◌/◌, ◌%◌, slice_index}
use Rattle.set.specs.declared.Set.{Set}
use Rattle.meanings.specs.Packed.{bit}
use Rattle.meanings.specs.Sets.{NumberSet}

-- number e is bit e mod 32 of word e / 32
abbrev pub members : Set → NumberSet
members s = λ e. bit (slice_index s.words (e.value / 32)) (e.value % 32)
