use Rattle.std.proofs.Common.{◌≡◌, ◌-◌, ◌≤◌, IfSome}
use Rattle.lines.specs.Forms.{row, row_words}
use Rattle.lines.specs.Rows.{words_in}
use Rattle.lines.proofs.Rows.{leading, rest}
use Rattle.lines.proofs.trigger_row.row.Given as goal

abbrev pub invariant-loop-turn : goal.invariant-loop-turn
invariant-loop-turn l = record {
  line : l.cursor.line.now ≡ l.fn.cursor.line.now;
  few : IfSome l.words (λ ws. ws.count ≤ l._turn);
  codes : leading (words_in l.words) (rest (8 - l._turn) l.cursor.line.now l.cursor.at) ≡ row_words (row l.fn.cursor.line.now l.fn.cursor.at);
}
