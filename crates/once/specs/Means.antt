-- What the type Once stands for.
use Rattle.once.specs.declared.Once.{Once}
use Rattle.meanings.specs.Onces.{Slate, slate}

abbrev pub written_on : Once → Slate
written_on o = slate o.number
