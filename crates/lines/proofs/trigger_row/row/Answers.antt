use Rattle.std.proofs.Common.{◌+◌, ◌-◌, sym, ap, ◌∙◌}
use Rattle.lines.specs.Rows.{row_told, words_in}
use Rattle.lines.proofs.Rows.{leading, rest, row_turn, row_broken, row_full, row_over}
use Rattle.lines.proofs.trigger_row.row.Goals as goal

pub loop-turn-preserved : goal.loop-turn-preserved
loop-turn-preserved c =
    let r = c.loop-turn in
    let k = 8 - (r._turn + 1) in
    let next = c.read-in-loop-turn.new.cursor.at in
    let read = c.in_ok-read-2.ensures in
    let kept = c.stored-words-in-loop-turn.ensures.is in
    record {
      line = read.line ∙ r.invariant.line;
      few = c.stored-words-in-loop-turn.ensures.few r._turn r.invariant.few;
      codes =
          (λ i. leading (kept i) (rest k (read.line i) next))
          ∙ row_turn r._turn r.cursor.line.now r.cursor.at (words_in r.words) r.invariant.codes _ next c.loop-turn-test.true (sym c.if-not-is_at.ensures) read.is;
    }

pub returns-in_err-read-2-clause-is : goal.returns-in_err-read-2-clause-is
returns-in_err-read-2-clause-is c =
    let r = c.loop-turn in
    ap (λ o. row_told o c.read-in-loop-turn.new.cursor.at) c.from_residual-in_err-read-2.ensures
    ∙ row_broken r._turn r.cursor.line.now r.cursor.at (words_in r.words) r.invariant.codes c.loop-turn-test.true (sym c.if-not-is_at.ensures) c.in_err-read-2.ensures.is

pub returns-after-loop-turn-clause-is : goal.returns-after-loop-turn-clause-is
returns-after-loop-turn-clause-is c = let r = c.loop-turn in row_full r._turn r.cursor.line.now r.cursor.at (words_in r.words) r.invariant.codes c.loop-turn-test.false

pub returns-then-not-is_at-clause-is : goal.returns-then-not-is_at-clause-is
returns-then-not-is_at-clause-is c = let r = c.loop-turn in row_over r._turn r.cursor.line.now r.cursor.at (words_in r.words) r.invariant.codes (sym c.if-not-is_at.ensures)
