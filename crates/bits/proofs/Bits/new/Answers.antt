use Rattle.std.proofs.Common.{sym}
use Rattle.bits.proofs.Same.{fitted_here}
use Rattle.bits.proofs.Bits.new.Goals as goal

pub returns-then-held : goal.returns-then-held
returns-then-held g c = sym (fitted_here c.args.value _)
