use Rattle.std.proofs.Common.{ℕ, length, Option, ap, ◌∙◌}
use Rattle.text.proofs.Cuts.{end_by, line_len_by}
use Rattle.text.proofs.cutting.line_len.Goals as goal

pub returns-in-Some-clause-is : goal.returns-in-Some-clause-is
returns-in-Some-clause-is c = ap (λ (o : Option ℕ). end_by o (length c.args.text.now)) c.in-Some.ensures ∙ line_len_by c.args.text.now

pub returns-in-None-clause-is : goal.returns-in-None-clause-is
returns-in-None-clause-is c = ap (λ (o : Option ℕ). end_by o (length c.args.text.now)) c.in-None.ensures ∙ line_len_by c.args.text.now
