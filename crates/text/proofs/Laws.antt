-- What reading answers, and what it leaves in the buffer, is the grammar's.
use Rattle.std.proofs.Common.{◌≡◌, ℕ, List, ◌++◌, length, drop, Ok, Err, Result, sym, refl, ap, ◌∙◌}
use Rattle.grammar.specs.Programs.{Program, Whole, printed, program_words}
use Rattle.text.specs.declared.refusal.Refusal.{Refusal}
use Rattle.text.specs.Reading.{reading, counted, written}
use Rattle.text.specs.Law.{Grammar}
use Rattle.text.proofs.Accepts.{printed_fits, program_read, same_program}

module _ (text start after : List ℕ) (r : Result ℕ Refusal) (answer : r ≡ counted (reading (length start) text)) (left : after ≡ written (reading (length start) text) start) where
  read_so : (ws : List ℕ) → reading (length start) text ≡ Ok ws → (r ≡ Ok (length ws)) × (after ≡ ws ++ drop (length ws) start)
  read_so ws e = (answer ∙ ap counted e, left ∙ ap (λ (o : Result (List ℕ) Refusal). written o start) e)

  only_so : (n : ℕ) → r ≡ Ok n → (p : Program) × Whole p × (text ≡ printed p) × (n ≡ length (program_words p)) × (after ≡ program_words p ++ drop n start)
  only_so n e = go (reading (length start) text) refl (sym answer ∙ e)
    where
      go : (o : Result (List ℕ) Refusal) → reading (length start) text ≡ o → counted o ≡ Ok n → (p : Program) × Whole p × (text ≡ printed p) × (n ≡ length (program_words p)) × (after ≡ program_words p ++ drop n start)
      go (Err x) is e = cc
      go (Ok ws) is e =
          let found = program_read text (length start) ws is in
          let same : ws ≡ program_words found.0 = found.3 in
          let long : length ws ≡ n = cc in
          (found.0, found.1, found.2, sym long ∙ ap length same, (read_so ws is).1 ∙ (λ i. same i ++ drop (long i) start))

  pub grammar_holds : Grammar text start after r
  grammar_holds = record {
    accepted = λ p whole e fits. read_so (program_words p) ((printed_fits text (length start) p whole e).0 fits);
    only = only_so;
    short = λ p whole e full. let found = (printed_fits text (length start) p whole e).1 full in (found.0, answer ∙ ap counted found.1);
    one_reading = same_program text;
  }
