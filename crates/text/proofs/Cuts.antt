-- A text and its lines, one by one.
use Rattle.std.proofs.Common.{◌≡◌, ℕ, ◌+◌, ◌-◌, ◌<◌, ◌≤◌, Bool, true, false, eqb, leb, List, [], ◌∷◌, ◌++◌, length, take, drop, set, Ok, Err, Result, Some, None, Option, sym, refl, ap, ◌∙◌, add-one, zero-add, arith, ◌==◌}
use borrow.Rule.Slice.PartMut.{put_mid}
use Rattle.std.proofs.lemmas.List.{drop-drop, length-append, append_assoc, take_more_set, drop-set-lt}
use Rattle.std.specs.List.{position, position_from}
use Rattle.std.proofs.lemmas.Iterator.Adapters.{position_from-zero}
use Rattle.std.proofs.lemmas.Bool.{cond-true, le-leb}
use Rattle.std.proofs.lemmas.Bool.Decides.{nat_tests}
use Rattle.text.specs.declared.section.Section.{Section}
use Rattle.text.specs.declared.refusal.Cause.{Cause}
use Rattle.text.specs.declared.refusal.Refusal.{Refusal}
use Rattle.text.specs.Reading.{ends_line, line_len, lines_of, onto, line_in, outcome, outcome_by, prefixed, pasted}

-- where a line ends that begins n bytes on, by the place of its LF
abbrev pub end_by : Option ℕ → ℕ → ℕ
end_by None n = n
end_by (Some i) n = i + 1

line_len_from : (cs : List ℕ) (i : ℕ) → end_by (position_from ends_line i cs) (i + length cs) ≡ i + line_len cs
line_len_from [] i = refl
line_len_from (c ∷ cs) i = go (eqb c 10) refl (line_len_from cs (i + 1))
  where
    go : (b : Bool) → eqb c 10 ≡ b → end_by (position_from ends_line (i + 1) cs) (i + 1 + length cs) ≡ i + 1 + line_len cs → end_by (position_from ends_line i (c ∷ cs)) (i + length (c ∷ cs)) ≡ i + line_len (c ∷ cs)
    go true e more = rw e refl
    go false e more = rw e (ap (end_by (position_from ends_line (i + 1) cs)) (omega arith) ∙ more ∙ omega arith)

pub line_len_by : (cs : List ℕ) → end_by (position ends_line cs) (length cs) ≡ line_len cs
line_len_by cs = ap (λ (o : Option ℕ). end_by o (length cs)) (position_from-zero ends_line cs) ∙ ap (end_by (position_from ends_line 0 cs)) (sym (zero-add (length cs))) ∙ line_len_from cs 0 ∙ zero-add (line_len cs)

-- the first line, and the lines of what follows it
pub lines_next : (bs : List ℕ) → 0 < length bs → lines_of bs ≡ take (line_len bs) bs ∷ lines_of (drop (line_len bs) bs)
lines_next [] h = absurd (omega arith)
lines_next (c ∷ []) h = go (eqb c 10) refl
  where
    go : (b : Bool) → eqb c 10 ≡ b → lines_of (c ∷ []) ≡ take (line_len (c ∷ [])) (c ∷ []) ∷ lines_of (drop (line_len (c ∷ [])) (c ∷ []))
    go true e = rw e refl
    go false e = rw e refl
lines_next (c ∷ d ∷ ds) h = go (eqb c 10) refl (lines_next (d ∷ ds) (omega arith))
  where
    go : (b : Bool) → eqb c 10 ≡ b → lines_of (d ∷ ds) ≡ take (line_len (d ∷ ds)) (d ∷ ds) ∷ lines_of (drop (line_len (d ∷ ds)) (d ∷ ds)) → lines_of (c ∷ d ∷ ds) ≡ take (line_len (c ∷ d ∷ ds)) (c ∷ d ∷ ds) ∷ lines_of (drop (line_len (c ∷ d ∷ ds)) (c ∷ d ∷ ds))
    go true e more = rw e refl
    go false e more = rw (e, add-one) (ap (onto c) more)

-- the same of a text that is cut behind its first line
pub lines_cut : (bs line rest : List ℕ) (n : ℕ) → (length bs == 0) ≡ false → n ≡ line_len bs → line ≡ take n bs → rest ≡ drop n bs → lines_of bs ≡ line ∷ lines_of rest
lines_cut bs line rest n some is front back = rw (front, back, is) (lines_next bs (grind (arith, nat_tests)))

-- a text has no more lines than bytes
pub lines_few : (cs : List ℕ) → length (lines_of cs) ≤ length cs
lines_few [] = omega arith
lines_few (c ∷ cs) = go (eqb c 10) refl (lines_few cs)
  where
    onto_few : (ls : List (List ℕ)) → length ls ≤ length cs → length (onto c ls) ≤ length (c ∷ cs)
    onto_few [] h = omega arith
    onto_few (l ∷ ls) h = omega arith

    go : (b : Bool) → eqb c 10 ≡ b → length (lines_of cs) ≤ length cs → length (lines_of (c ∷ cs)) ≤ length (c ∷ cs)
    go true e few = rw e (omega arith)
    go false e few = rw e (onto_few (lines_of cs) few)

-- so many words, and those that are still to come
abbrev pub more : ℕ → Result (List ℕ) Refusal → Result ℕ Refusal
more n (Ok ws) = Ok (n + length ws)
more n (Err e) = Err e

pub more_prefixed : (n : ℕ) (ws : List ℕ) (o : Result (List ℕ) Refusal) → more n (prefixed ws o) ≡ more (n + length ws) o
more_prefixed n ws (Ok vs) = ap Ok (omega (arith, length-append ws vs))
more_prefixed n ws (Err e) = refl

-- a line and the lines behind it, where it stands in section s, is line k, and so many words find room
module _ (left : List (List ℕ)) (line : List ℕ) (after : List (List ℕ)) (is : left ≡ line ∷ after) (s : Section) (k room : ℕ) where
  -- what the line comes to decides what the lines from it on come to
  pub outcome_here : (r : Result (List ℕ × Section) Cause) → line_in s line ≡ r → outcome left s k room ≡ outcome_by (outcome after) k room r
  outcome_here r e = ap (λ (ls : List (List ℕ)). outcome ls s k room) is ∙ ap (outcome_by (outcome after) k room) e

  pub outcome_more : (ws : List ℕ) (t : Section) → line_in s line ≡ Ok (ws, t) → length ws ≤ room → outcome left s k room ≡ prefixed ws (outcome after t (k + 1) (room - length ws))
  outcome_more ws t e fits = outcome_here (Ok (ws, t)) e ∙ cond-true (leb (length ws) room) _ _ (le-leb (length ws) room fits)

  -- with its words counted, what is left comes to what it came to before the line
  pub counted_on : (count all n : ℕ) (ws : List ℕ) (t : Section) → room ≡ all - count → n ≡ length ws → line_in s line ≡ Ok (ws, t) → length ws ≤ room → more (count + n) (outcome after t (k + 1) (all - (count + n))) ≡ more count (outcome left s k room)
  counted_on count all n ws t is_left long e fits =
      let less : all - (count + n) ≡ room - length ws = omega arith in
      ap (λ (m : ℕ). more (count + m) (outcome after t (k + 1) (all - (count + n)))) long
      ∙ ap (λ (m : ℕ). more (count + length ws) (outcome after t (k + 1) m)) less
      ∙ sym (more_prefixed count ws (outcome after t (k + 1) (room - length ws)))
      ∙ ap (more count) (sym (outcome_more ws t e fits))

-- a line's words written over a buffer: the first, and then those of its triggers
pub stored_words : (words triggers ys : List ℕ) (at first k : ℕ) → at < length words → ys ≡ triggers → k ≡ length triggers → put_mid (at + 1) k (set words at first) ys ≡ pasted words at (first ∷ triggers)
stored_words words triggers ys at first k lt is long =
    let n : at + 1 + k ≡ at + length (first ∷ triggers) = omega arith in
    ap (λ (l : List ℕ). l ++ (ys ++ drop k (drop (at + 1) (set words at first)))) (take_more_set words at first lt)
    ∙ append_assoc (take at words) (first ∷ []) (ys ++ drop k (drop (at + 1) (set words at first)))
    ∙ ap (λ (l : List ℕ). take at words ++ (first ∷ (l ++ drop k (drop (at + 1) (set words at first))))) is
    ∙ ap (λ (l : List ℕ). take at words ++ (first ∷ (triggers ++ drop k l))) (drop-set-lt (at + 1) words at first (omega arith))
    ∙ ap (λ (l : List ℕ). take at words ++ (first ∷ (triggers ++ l))) (drop-drop k (at + 1) words ∙ ap (λ (j : ℕ). drop j words) n)
