use Rattle.std.proofs.Common.{◌≡◌, length, ap, sym, ◌∙◌, rules}
use Rattle.std.proofs.lemmas.Result.{IfOk-weaker}
use Rattle.hub.specs.Session.{answered}
use Rattle.hub.proofs.Shows.{shown_session}
use Rattle.hub.proofs.session.Goals as goal

pub returns-in-Ok : goal.returns-in-Ok
returns-in-Ok c =
    let room = length c.as_mut_slice.result.now in
    let long : room ≡ 8192 = search rules in
    IfOk-weaker c.to_string.result _ _ (λ s e. e ∙ ap answered (sym c.in-Ok.is) ∙ c.program.ensures ∙ shown_session c.args.input.now room c.if-input-gt-MOST_BYTES.false long) c.to_string.ensures.ok

pub returns : goal.returns
returns c =
    let room = length c.as_mut_slice.result.now in
    let long : room ≡ 8192 = search rules in
    IfOk-weaker c.refused-in-Err.result _ _ (λ s e. e ∙ ap answered (sym c.in-Err.is) ∙ c.program.ensures ∙ shown_session c.args.input.now room c.if-input-gt-MOST_BYTES.false long) c.refused-in-Err.ensures
