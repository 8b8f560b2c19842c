use Rattle.std.proofs.Common.{◌≡◌, length, take, Some, ap, ◌∙◌, rules}
use Rattle.text.specs.Reading.{read_text}
use Rattle.hub.specs.Session.{shown_over}
use Rattle.hub.specs.Serving.{served_in}
use Rattle.hub.proofs.Shows.{shown_read}
use Rattle.hub.proofs.program.Goals as goal

pub returns : goal.returns
returns c =
    let words = take c.in_ok-count.count c.read.new.words in
    let named : Some c.in_ok-served.served ≡ served_in words = search rules in
    ap (λ o. shown_over o words) named
    ∙ shown_read (read_text (length c.args.words.now) c.args.input.now) _ _ _ c.in_ok-count.ensures.answer c.in_ok-count.ensures.after
