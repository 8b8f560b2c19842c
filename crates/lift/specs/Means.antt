-- What the type Lift stands for.
use Rattle.std.specs.Prelude.{Some, None, Option}
use Rattle.lift.specs.declared.Lift.{Lift}
use Rattle.meanings.specs.Lifts.{Lifted, nothing_yet, told}

-- what was perhaps told
abbrev pub lifted : {X V : Type 0} → (X → V) → Option X → Lifted V
lifted means None = nothing_yet
lifted means (Some x) = told (means x)

abbrev pub lifted_by : {X V : Type 0} → (X → V) → Lift X → Lifted V
lifted_by means l = lifted means l.told
