use Rattle.std.proofs.Common.{sym, arith}
use Rattle.lines.specs.Lines.{told}
use Rattle.text.proofs.Writes.{sofar_none, sofar_more}
use Rattle.text.proofs.reader.write.Goals as goal

pub loop-line-init : goal.loop-line-init
loop-line-init c = rw (c.into_iter-line-iterator.ensures.into_iter_gives, c.new-line-items.ensures) (sofar_none c.args.text.now c.args.words.now c.requires)

pub loop-line-preserved : goal.loop-line-preserved
loop-line-preserved c =
    rw (c.len-count.ensures, c.store.ensures)
    (sofar_more c.args.text.now c.args.words.now c.loop-line.words c.loop-line.section _ c.loop-line.count c.loop-line.invariant _ _ c.in-Some.ensures.steps (told c.in-Ok.read) c.in-Ok.next (sym c.in-Ok.ensures) (omega arith))
