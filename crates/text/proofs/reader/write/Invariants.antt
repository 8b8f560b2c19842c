use Rattle.text.specs.Reading.{lines_of}
use Rattle.text.proofs.Writes.{Sofar}
use Rattle.text.proofs.reader.write.Given as goal

abbrev pub invariant-loop-line : goal.invariant-loop-line
invariant-loop-line l = Sofar l.text l.initial.words l.words l.section (lines_of l.line-iterator.0.now) l.count
