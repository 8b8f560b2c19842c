-- What a refusal says: the number of the rule, and the place.
use Rattle.std.specs.Prelude.{ℕ}
use Rattle.rulebook.specs.declared.Rule.{Rule}
use Rattle.rulebook.specs.declared.Rule.TheVariants as rule
use Rattle.rulebook.specs.declared.Refusal.{Refusal}

-- each rule with its number
abbrev pub number : Rule → ℕ
number rule.WordCount = 4
number rule.Head = 5
number rule.Lattice = 6
number rule.Tasks = 7
number rule.Form = 8
number rule.Targets = 9
number rule.Codes = 10
number rule.Triggers = 11

-- a refusal's number, and what it adds: the place
abbrev pub numbered : Refusal → ℕ × ℕ
numbered r = (number r.rule, r.place)
