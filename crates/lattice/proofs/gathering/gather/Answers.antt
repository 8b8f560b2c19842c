use Rattle.lattice.proofs.Order.{order}
use Rattle.lattice.proofs.gathering.gather.Goals as goal

pub returns-clause-order : goal.returns-clause-order
returns-clause-order g c = order g.L.Lattice.meaning g.L.Lattice.laws
