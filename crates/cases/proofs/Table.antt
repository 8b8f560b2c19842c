-- Every row of the table stands.
use Rattle.std.proofs.Common.{◌≡◌, Bool, true, false, cond, eqb, Option, refl, ap, rules}
use native.Mathlib.Decide.{dec_lt}
use Rattle.std.specs.List.{AllByRecursion}
use Rattle.bits.specs.declared.Bits.{Bits}
use Rattle.bits.specs.Fits.{lowest}
use Rattle.bits.proofs.Same.{fitted_value}
use Rattle.meanings.specs.Onces.{slate, written}
use Rattle.meanings.specs.Packed.{packed}
use Rattle.meanings.specs.Versions.{larger, latest, single, Counts}
use Rattle.cases.specs.Stacks.{meaning_of, set}
use Rattle.cases.specs.Worked.{Stands, table, set_once, value_of}

-- a count of 1 adds nothing to a count of 2 in the same slot
count_kept : ◌≡◌ {A = Counts} (latest (single 3 (lowest 15 2)) (single 3 (lowest 15 1))) (single 3 (lowest 15 2))
count_kept = λ i s. at (eqb s.value 3) i
  where
    at : (b : Bool) → larger {n = 15} (cond b (lowest 15 2) (lowest 15 0)) (cond b (lowest 15 1) (lowest 15 0)) ≡ cond b (lowest 15 2) (lowest 15 0)
    at true = refl
    at false = refl

-- code 15 is an odd one: it goes to Once as 7
seven_written : value_of set_once 15 ≡ ((meaning_of set).bottom, written (lowest 16 7))
seven_written = ap (λ (o : Option (Bits 16)). ((meaning_of set).bottom, slate o)) (fitted_value (lowest 16 7))

pub table_stands : AllByRecursion Stands table
unfolding packed dec_lt
table_stands = search (rules, count_kept, seven_written)
