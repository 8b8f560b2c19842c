-- What the second pass has written so far.
use Rattle.std.proofs.Common.{◌≡◌, ℕ, ◌+◌, ◌-◌, ◌<◌, ◌≤◌, Bool, true, false, cond, leb, List, [], ◌∷◌, ◌++◌, length, drop, is_ok, Ok, Err, Result, sym, refl, ap, ◌∙◌, arith}
use native.Mathlib.Nat.{sub-zero}
use Rattle.std.proofs.lemmas.List.{append_assoc, drop-drop, drop_at, take_at, length-append}
use Rattle.std.proofs.lemmas.Bool.{leb-true, true≢false}
use Rattle.text.specs.declared.section.Section.{Section}
use Rattle.text.specs.declared.section.Section.TheVariants.{Head}
use Rattle.text.specs.declared.refusal.Cause.{Cause}
use Rattle.text.specs.declared.refusal.Cause.TheVariants.{Room}
use Rattle.text.specs.declared.refusal.Refusal.{Refusal}
use Rattle.text.specs.Reading.{lines_of, line_in, outcome, outcome_by, prefixed, refused, reading, pasted}
use Rattle.text.proofs.Cuts.{outcome_here}

-- the words before place i stand in the buffer, and the lines that are left give the others
pub record Sofar (text start words : List ℕ) (s : Section) (left : List (List ℕ)) (i : ℕ) : Type 0 where
  pub line_number : ℕ
  pub front : List ℕ
  pub rest : List ℕ
  pub goes_on : outcome left s line_number (length start - i) ≡ Ok rest
  pub whole : reading (length start) text ≡ Ok (front ++ rest)
  pub long : length front ≡ i
  pub stand : words ≡ front ++ drop i start

pub sofar_none : (text start : List ℕ) → is_ok (reading (length start) text) ≡ true → Sofar text start start Head (lines_of text) 0
sofar_none text start ok = go (reading (length start) text) refl ok
  where
    go : (r : Result (List ℕ) Refusal) → reading (length start) text ≡ r → is_ok r ≡ true → Sofar text start start Head (lines_of text) 0
    go (Ok ws) e ok = record { line_number = 1; front = []; rest = ws; goes_on = ap (outcome (lines_of text) Head 1) (sub-zero (length start)) ∙ e; whole = e; long = refl; stand = refl }
    go (Err x) e ok = absurd (true≢false (sym ok))

-- a line's words lead the words of the lines from it on
module _ (o : Section → ℕ → ℕ → Result (List ℕ) Refusal) (k room : ℕ) (rest : List ℕ) where
  pub one_line : (ws : List ℕ) (t : Section) → outcome_by o k room (Ok (ws, t)) ≡ Ok rest → (length ws ≤ room) × ((more : List ℕ) × (o t (k + 1) (room - length ws) ≡ Ok more) × (rest ≡ ws ++ more))
  one_line ws t e = go (leb (length ws) room) refl e
    where
      led : (r : Result (List ℕ) Refusal) → prefixed ws r ≡ Ok rest → (more : List ℕ) × (r ≡ Ok more) × (rest ≡ ws ++ more)
      led (Ok more) e = (more, refl, cc)
      led (Err x) e = cc

      go : (b : Bool) → leb (length ws) room ≡ b → cond b (prefixed ws (o t (k + 1) (room - length ws))) (refused Room k) ≡ Ok rest → (length ws ≤ room) × ((more : List ℕ) × (o t (k + 1) (room - length ws) ≡ Ok more) × (rest ≡ ws ++ more))
      go true fits e = (leb-true (length ws) room fits, led (o t (k + 1) (room - length ws)) e)
      go false fits e = cc

module _ (text start words : List ℕ) (s : Section) (left : List (List ℕ)) (i : ℕ) (so : Sofar text start words s left i) where
  module _ (line : List ℕ) (after : List (List ℕ)) (is : left ≡ line ∷ after) where
    here : (r : Result (List ℕ × Section) Cause) → line_in s line ≡ r → outcome_by (outcome after) so.line_number (length start - i) r ≡ Ok so.rest
    here r e = sym (outcome_here left line after is s so.line_number (length start - i) r e) ∙ so.goes_on

    module _ (ws : List ℕ) (t : Section) (e : line_in s line ≡ Ok (ws, t)) where
      next : (length ws ≤ length start - i) × ((more : List ℕ) × (outcome after t (so.line_number + 1) (length start - i - length ws) ≡ Ok more) × (so.rest ≡ ws ++ more))
      next = one_line (outcome after) so.line_number (length start - i) so.rest ws t (here (Ok (ws, t)) e)

      pub room_left : length ws ≤ length start - i
      room_left = next.0

      pub sofar_more : 0 < length ws → Sofar text start (pasted words i ws) t after (i + length ws)
      sofar_more some =
          let found = next.1 in
          let more = found.0 in
          let fits = room_left in
          let left : length start - i - length ws ≡ length start - (i + length ws) = omega arith in
          record {
            line_number = so.line_number + 1;
            front = so.front ++ ws;
            rest = more;
            goes_on = ap (outcome after t (so.line_number + 1)) (sym left) ∙ found.1;
            whole = so.whole ∙ ap (λ (l : List ℕ). Ok (so.front ++ l)) found.2 ∙ ap Ok (sym (append_assoc so.front ws more));
            long = length-append so.front ws ∙ ap (λ (k : ℕ). k + length ws) so.long;
            stand = ap (λ (l : List ℕ). pasted l i ws) so.stand
                ∙ ap (λ (l : List ℕ). l ++ (ws ++ drop (i + length ws) (so.front ++ drop i start))) (take_at so.front (drop i start) i so.long)
                ∙ ap (λ (l : List ℕ). so.front ++ (ws ++ l)) (sym (drop-drop (length ws) i (so.front ++ drop i start)) ∙ ap (drop (length ws)) (drop_at so.front (drop i start) i so.long) ∙ drop-drop (length ws) i start)
                ∙ sym (append_assoc so.front ws (drop (i + length ws) start));
          }
