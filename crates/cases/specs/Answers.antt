-- Tests of a judgement, as the code puts them.
use Rattle.std.specs.Prelude.{ℕ, Bool, false, ◌&&◌, Ok, Err, Result, ◌==◌}
use Rattle.rulebook.specs.declared.Counts.{Counts}
use Rattle.rulebook.specs.declared.Refusal.{Refusal}
use Rattle.rulebook.specs.Refusals.{number}

abbrev pub accepted_with : ℕ → ℕ → Result Counts Refusal → Bool
accepted_with cells tasks (Ok c) = c.cells == cells && c.tasks == tasks
accepted_with cells tasks (Err r) = false

abbrev pub refused_with : ℕ → ℕ → Result Counts Refusal → Bool
refused_with n p (Ok c) = false
refused_with n p (Err r) = number r.rule == n && r.place == p
