use Rattle.std.proofs.Common.{◌≤◌, length, take}
use Rattle.lattice.specs.Order.{Least}
use Rattle.lattice.proofs.gathering.gather.Given as goal

-- the content is the least value above the codes so far
abbrev pub invariant-loop-code : goal.invariant-loop-code
invariant-loop-code g l = let m = g.L.Lattice in (l.code-index ≤ length l.codes) × Least m.meaning (take l.code-index l.codes) (m.means l.content)
