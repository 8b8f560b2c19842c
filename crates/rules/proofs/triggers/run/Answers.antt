use Rattle.std.proofs.Common.{◌∙◌, rules, tests}
use Rattle.std.proofs.lemmas.Iterator.{YieldsList-from_slice}
use Rattle.std.proofs.lemmas.Iterator.Consumers.{count_from_yields_List}
use Rattle.std.proofs.lemmas.Iterator.Search.{YieldsList-from_take_while}
use Rattle.std.proofs.lemmas.List.Folds.{length-prefix_len}
use Rattle.rulebook.specs.Programs.{is_trigger, run}
use Rattle.rules.proofs.triggers.run.Goals as goal

pub returns-clause-is : goal.returns-clause-is
unfolding run
returns-clause-is c = count_from_yields_List c.take_while.result _ c.count.ensures.ran (YieldsList-from_take_while _ is_trigger (YieldsList-from_slice c.args.words.now (cc)) c.take_while.ensures.closure c.take_while.ensures.done (λ x b q k. search (rules, tests))) ∙ length-prefix_len is_trigger c.args.words.now
