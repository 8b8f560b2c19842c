use Rattle.std.proofs.Common.{◌≡◌, drop}
use Rattle.rulebook.specs.Judgement.{judged_by}
use Rattle.rules.proofs.program.Program.judge_by.Given as goal

-- the rules that are left give the answer
abbrev pub invariant-loop-rule : goal.invariant-loop-rule
invariant-loop-rule g l = let m = g.L.Lattice.meaning in judged_by m l.self.words.now (drop l.rule-index l.rules) ≡ judged_by m l.self.words.now l.rules
