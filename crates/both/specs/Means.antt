-- What the type Both stands for.
use Rattle.both.specs.declared.Both.{Both}

abbrev pub paired_by : {X Y V W : Type 0} → (X → V) → (Y → W) → Both X Y → V × W
paired_by first second b = (first b.0, second b.1)
