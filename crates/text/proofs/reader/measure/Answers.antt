use Rattle.std.proofs.Common.{◌≡◌, ◌-◌, Ok, length, refl, ap, ◌∙◌, arith, rules}
use Rattle.lines.specs.Lines.{told}
use Rattle.text.specs.Reading.{line_in}
use Rattle.text.proofs.Cuts.{lines_few, counted_on}
use Rattle.text.proofs.reader.measure.Goals as goal

pub overflow_add-number : goal.overflow_add-number
overflow_add-number c = omega (arith, lines_few c.args.text.now, ap length c.in-Some.ensures.steps)

pub loop-line-preserved : goal.loop-line-preserved
loop-line-preserved c =
    let ws = told c.in_ok-words.words in
    let said : line_in c.loop-line.section c.in-Some.line.now ≡ Ok (ws, c.in_ok-words.next) = search rules in
    record {
      numbered = omega (arith, ap length c.in-Some.ensures.steps);
      room = omega (arith, c.len.ensures, c.len-count.ensures);
      same = counted_on _ _ _ c.in-Some.ensures.steps c.loop-line.section c.loop-line.number (c.args.room - c.loop-line.count) c.loop-line.count c.args.room c.len-count.result ws c.in_ok-words.next refl c.len-count.ensures said (omega (arith, c.len.ensures))
          ∙ c.loop-line.invariant.same;
    }
