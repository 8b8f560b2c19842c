use Rattle.std.proofs.Common.{◌≡◌, ℕ, List, length, Ok, Err, Result, refl, ap, ◌∙◌}
use Rattle.text.specs.declared.refusal.Refusal.{Refusal}
use Rattle.text.specs.Reading.{reading, counted, written, answered}
use Rattle.text.proofs.Laws.{grammar_holds}
use Rattle.text.proofs.reader.read.Goals as goal

counted-numbered : (o : Result (List ℕ) Refusal) → answered (counted o) ≡ counted (answered o)
counted-numbered (Ok ws) = refl
counted-numbered (Err e) = refl

written-numbered : (o : Result (List ℕ) Refusal) (out : List ℕ) → written o out ≡ written (answered o) out
written-numbered (Ok ws) out = refl
written-numbered (Err e) out = refl

pub returns : goal.returns
returns c =
    let gave = reading (length c.args.words.now) c.args.text.now in
    let answer = c.read_words.ensures.answer in
    let after = c.read_words.ensures.after in
    record {
      answer = ap answered answer ∙ counted-numbered gave;
      after = after ∙ written-numbered gave c.args.words.now;
      grammar = grammar_holds c.args.text.now c.args.words.now c.read_words.new.words c.read_words.result answer after;
    }
