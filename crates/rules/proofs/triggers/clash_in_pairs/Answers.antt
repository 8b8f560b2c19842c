use Rattle.std.proofs.Common.{◌+◌, drop, ◌∙◌, refl, rules, tests}
use Rattle.std.proofs.lemmas.Iterator.{YieldsList-from_slice}
use Rattle.std.proofs.lemmas.Iterator.Consumers.{YieldsList-from_enumerate}
use Rattle.std.proofs.lemmas.Iterator.Search.{all_from_yields_List}
use Rattle.std.proofs.lemmas.List.{take_rest}
use Rattle.rulebook.specs.Rules.{clashes_with_all, trigger_value}
use Rattle.rulebook.proofs.Rows.{pairs_in}
use Rattle.rules.proofs.triggers.clash_in_pairs.Goals as goal

pub returns : goal.returns
returns g c =
    let m = g.L.Lattice.meaning in
    let row = c.args.row.now in
    all_from_yields_List (λ p. clashes_with_all m (trigger_value m p.1) (drop (p.0 + 1) row)) _ _ _ c.all.ensures.ran (YieldsList-from_enumerate (YieldsList-from_slice row (cc)) c.enumerate.ensures.count) (λ x b q k. let rest = take_rest row (x.0 + 1) in search (rules, tests)) ∙ pairs_in m row row 0 refl
