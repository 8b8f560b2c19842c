use Rattle.std.proofs.Common.{◌≡◌, ◌+◌, ◌-◌, ◌≤◌, length}
use Rattle.text.specs.Reading.{lines_of, outcome, reading, counted}
use Rattle.text.proofs.Cuts.{more}
use Rattle.text.proofs.reader.measure.Given as goal

abbrev pub invariant-loop-line : goal.invariant-loop-line
invariant-loop-line l =
    let left = lines_of l.line-iterator.0.now in
    record {
      numbered : l.number + length left ≡ 1 + length (lines_of l.text);
      room : l.count ≤ l.room;
      same : more l.count (outcome left l.section l.number (l.room - l.count)) ≡ counted (reading l.room l.text);
    }
