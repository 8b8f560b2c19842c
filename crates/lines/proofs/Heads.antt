-- How the end of a line closes the fields before it.
use Rattle.std.proofs.Common.{◌≡◌, Bool, true, false, cond, List, ℕ, Some, None, Option, refl}
use Rattle.std.specs.Option.{option_map}
use Rattle.lexer.specs.Fields.{Field, both, beside, ends}
use Rattle.lines.specs.Forms.{closed}

-- a value stands beside the fields that close the line
pub closed_beside : {X Y : Type 0} (line : List ℕ) (x : Option X) (o : Field Y) → closed line (beside x o) ≡ option_map (both x) (closed line o)
closed_beside line x None = refl
closed_beside line x (Some q) = by (ends line q.1)
  where
    by : (b : Bool) → cond b (Some (both x q.0)) None ≡ option_map (both x) (cond b (Some q.0) None)
    by true = refl
    by false = refl
