-- What is made of a line that was judged.
use Rattle.std.proofs.Common.{◌≡◌, Some, None, Option, Err, refl}
use Rattle.lines.specs.declared.LineError.{LineError}
use Rattle.lines.specs.declared.LineError.TheVariants.{Grammar, Range}
use Rattle.lines.specs.Lines.{judged, unjudged, inside}

pub said_again : {X : Type 0} (o : Option (Option X)) → unjudged (judged o) ≡ o
said_again None = refl
said_again (Some None) = refl
said_again (Some (Some x)) = refl

-- what a line is refused for, whatever would be made of it
pub refused_still : {X Y Z : Type 0} (f : X → Y) (g : Y → Z) (r : LineError) → judged (inside g (inside f (unjudged (Err r)))) ≡ Err r
refused_still f g Grammar = refl
refused_still f g Range = refl
