-- Lattices stacked by layers, as the worked cases name them.
use Rattle.lattice.specs.Meaning.{Meaning}
use Rattle.meanings.specs.Sets.{set_meaning}
use Rattle.meanings.specs.Peaks.{peak_meaning}
use Rattle.meanings.specs.Onces.{once_meaning}
use Rattle.meanings.specs.Versions.{versions_meaning}
use Rattle.meanings.specs.Lifts.{lift_meaning}
use Rattle.meanings.specs.Pairs.{both_meaning}

pub data Stack : Type 0 where
  set : Stack
  peak : Stack
  once : Stack
  versions : Stack
  lift : Stack → Stack
  both : Stack → Stack → Stack

abbrev pub meaning_of : Stack → Meaning
meaning_of set = set_meaning
meaning_of peak = peak_meaning
meaning_of once = once_meaning
meaning_of versions = versions_meaning
meaning_of (lift s) = lift_meaning (meaning_of s)
meaning_of (both s t) = both_meaning (meaning_of s) (meaning_of t)
