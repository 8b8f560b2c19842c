-- Every program is judged as its row says.
use native.Mathlib.Decide.{dec_lt}
use Rattle.std.proofs.Common.{refl}
use Rattle.std.specs.List.{AllByRecursion}
use Rattle.rulebook.specs.Programs.{head_of, entry_at, code_at, run}
use Rattle.rulebook.specs.Rules.{some_below}
use Rattle.rulebook.specs.Judgement.{judged_by, first_broken, first_from}
use Rattle.cases.specs.Triggers.{Judges, programs}

pub programs_judged : AllByRecursion Judges programs
unfolding dec_lt judged_by first_broken first_from some_below head_of entry_at code_at run
programs_judged = (refl, ((_, refl, refl), ((_, refl, refl), ((_, refl, refl), tt))))
