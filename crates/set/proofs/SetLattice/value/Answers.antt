use Rattle.std.proofs.Common.{sym, ◌∙◌}
use Rattle.std.proofs.lemmas.Bool.{ltb-true}
use Rattle.set.proofs.Members.{one_number}
use Rattle.set.proofs.SetLattice.value.Goals as goal

pub returns-then-admits : goal.returns-then-admits
returns-then-admits c =
    let n = c.args.code.value in
    let admitted = ltb-true n 256 (sym c.admits.ensures ∙ c.if-admits.true) in
    rw (c.word_of.ensures, c.bit_of.ensures, c.get-then-admits.ensures, c.get.ensures) (one_number n admitted)
