use Rattle.std.proofs.Common.{◌-◌, leb, arith, rules, tests}
use Rattle.rulebook.specs.Programs.{code_at, counted_by}
use Rattle.rulebook.proofs.Rows.{within}
use Rattle.rules.proofs.Ranges.{any_down}
use Rattle.rules.proofs.program.Program.is_within_row.Goals as goal

pub returns : goal.returns
returns c =
    let ws = c.args.self.now.words.now in
    let p = c.args.place in
    let run = c.any.ensures.runs in
    let back = c.rev.ensures.runs run.0 run.0.seen run.1 in
    within ws p c.saturating_sub.result (omega (arith, c.saturating_sub.ensures)) c.any.result (any_down (λ q. leb (p - q) (counted_by (code_at ws q))) _ p run.0 back.0 back.1 back.2 (λ a b q e. search rules) (λ x b q e. search (rules, tests)) c.any.result run.2)
