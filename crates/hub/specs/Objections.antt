-- Why a session lists no words: the number and the place that it prints.
use Rattle.std.specs.Prelude.{ℕ, List, ◌++◌, codes, decimal}
use Rattle.text.specs.declared.refusal.Cause.TheVariants.{Grammar}
use Rattle.text.specs.Reading.{number}
use Rattle.hub.specs.declared.objection.Objection.{Objection}
use Rattle.hub.specs.declared.objection.Objection.TheVariants.{Size, Text, Label}

abbrev pub objected : Objection → ℕ × ℕ
objected Size = (number Grammar, 0)
objected (Text r) = (number r.cause, r.line)
objected Label = (6, 0)

-- `refused N at P`
abbrev pub refusal_text : ℕ × ℕ → List ℕ
refusal_text p = codes "refused " ++ (decimal p.0 ++ (codes " at " ++ decimal p.1))
