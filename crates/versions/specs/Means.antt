-- What the type Versions stands for.
use Rattle.std.specs.Prelude.{slice_index_or}
use Rattle.bits.specs.Fits.{lowest}
use Rattle.versions.specs.declared.Versions.{Versions}
use Rattle.meanings.specs.Versions.{Counts}

abbrev pub counted_by : Versions → Counts
counted_by v = λ s. slice_index_or v.counts s.value (lowest 15 0)
