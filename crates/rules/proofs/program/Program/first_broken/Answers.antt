use Rattle.std.proofs.Common.{length, ap, ◌∙◌, rules, tests}
use Rattle.std.specs.Range.{range_inclusive_start, range_inclusive_end, range_inclusive_exhausted}
use Rattle.rulebook.specs.Rules.{breaks}
use Rattle.rulebook.proofs.Judges.{searched}
use Rattle.rules.proofs.Ranges.{first_up}
use Rattle.rules.proofs.program.Program.first_broken.Goals as goal

pub returns : goal.returns
returns g c =
    let m = g.L.Lattice.meaning in
    let ws = c.args.self.now.words.now in
    let run = c.find.ensures.runs in
    searched m ws c.args.rule c.find.result (first_up (breaks m c.args.rule ws) (length ws) run.0 (ap range_inclusive_start run.1 ∙ c.new.ensures.start) (ap range_inclusive_end run.1 ∙ c.new.ensures.end) (ap range_inclusive_exhausted run.1 ∙ c.new.ensures.exhausted) (λ a b q e. search rules) (λ x b q e. search (rules, tests)) c.find.result run.2)
