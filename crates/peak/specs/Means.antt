-- What the type Peak stands for.
use Rattle.peak.specs.declared.Peak.{Peak}
use Rattle.meanings.specs.Peaks.{Reading}

abbrev pub read_by : Peak → Reading
read_by p = record { tenths = p.tenths; low = p.low; high = p.high }
