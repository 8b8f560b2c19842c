-- What follows from an option that is known.
use Rattle.std.proofs.Common.{◌≡◌, Some, Option}

pub some_same : {X : Type 0} {x y : X} → ◌≡◌ {A = Option X} (Some x) (Some y) → x ≡ y
some_same e = cc
