-- A row of codes is read exactly where it is printed, up to the end of its line.
use Rattle.std.proofs.Common.{◌≡◌, ℕ, zero, suc, ◌+◌, ◌≤◌, Bool, true, false, eqb, ltb, List, [], ◌∷◌, ◌++◌, length, get_or, drop, Some, None, decimal, Option, sym, refl, ap, ◌∙◌, subst, inr, add-zero, arith}
use Rattle.std.specs.List.{flat_map}
use Rattle.std.proofs.lemmas.List.{append_assoc, drop-drop, drop_at, length-append}
use Rattle.std.proofs.lemmas.Bool.{and_right}
use Rattle.words.specs.declared.instruction.CodeOperand.{CodeOperand}
use Rattle.words.specs.declared.instruction.CodeOperand.TheVariants as code
use Rattle.lexer.specs.Fields.{Field, stands, code_field}
use Rattle.lines.proofs.Rows.{row_next, row_none, row_ends}
use Rattle.lines.specs.Forms.{ahead, before, firstly, row_at, row}
use Rattle.grammar.specs.Printed.{printed_code}
use Rattle.bits.proofs.Options.{some_same}
use Rattle.grammar.proofs.Spelling.{Stops, byte_first}
use Rattle.grammar.proofs.Fieldwise.{Reads, stands_at, code_reads, code_stops}

-- the line's end
abbrev pub Ends : List ℕ → Type 0
Ends rest = get_or rest 0 0 ≡ 10

abbrev codes_of : List CodeOperand → List ℕ
codes_of = flat_map printed_code

codes_stop : (vs : List CodeOperand) (rest : List ℕ) → Ends rest → Stops (codes_of vs ++ rest)
codes_stop [] rest end = inr end
codes_stop (v ∷ vs) rest end = subst Stops (sym (append_assoc (printed_code v) (codes_of vs) rest)) (code_stops v (codes_of vs ++ rest))

no_space : (line : List ℕ) (at : ℕ) (rest : List ℕ) → drop at line ≡ rest → Ends rest → stands line at 32 ≡ false
no_space line at rest e end =
    let here : get_or line at 0 ≡ 10 = byte_first line at ∙ ap (λ (l : List ℕ). get_or l 0 0) e ∙ end in
    and_right (ltb at (length line)) (eqb (get_or line at 0) 32) (ap (λ (c : ℕ). eqb c 32) here)

-- a printed code begins with a space
code_space : (v : CodeOperand) (rest line : List ℕ) (at : ℕ) → drop at line ≡ printed_code v ++ rest → stands line at 32 ≡ true
code_space (code.Fixed v) rest line at e = stands_at line at 32 (decimal v.value ++ rest) e
code_space code.Register rest line at e = stands_at line at 32 (114 ∷ rest) e

-- one code, and those behind it
module _ (line : List ℕ) (at : ℕ) (v : CodeOperand) (vs : List CodeOperand) (more : ℕ → Field (List CodeOperand)) where
  pub one_printed : (rest : List ℕ) → drop at line ≡ codes_of (v ∷ vs) ++ rest → Ends rest → ((next : ℕ) → drop next line ≡ codes_of vs ++ rest → more next ≡ Some (Some vs, next + length (codes_of vs))) → firstly (code_field line at) more ≡ Some (Some (v ∷ vs), at + length (codes_of (v ∷ vs)))
  one_printed rest e end others =
      let here : drop at line ≡ printed_code v ++ (codes_of vs ++ rest) = e ∙ append_assoc (printed_code v) (codes_of vs) rest in
      let first = code_reads.printed line at v (codes_of vs ++ rest) tt here (codes_stop vs rest end) in
      let next : ℕ = at + length (printed_code v) in
      let behind : drop next line ≡ codes_of vs ++ rest = sym (drop-drop (length (printed_code v)) at line) ∙ ap (drop (length (printed_code v))) here ∙ drop_at (printed_code v) (codes_of vs ++ rest) (length (printed_code v)) refl in
      let n : next + length (codes_of vs) ≡ at + length (codes_of (v ∷ vs)) = omega (arith, length-append (printed_code v) (codes_of vs)) in
      ap (λ (o : Field CodeOperand). firstly o more) first ∙ ap (before (Some v)) (others next behind) ∙ ap (λ (k : ℕ). Some (Some (v ∷ vs), k)) n

row_printed : (n : ℕ) (vs : List CodeOperand) (line : List ℕ) (at : ℕ) (rest : List ℕ) → length vs ≤ n → drop at line ≡ codes_of vs ++ rest → Ends rest → row_at n line at ≡ Some (Some vs, at + length (codes_of vs))
row_printed n [] line at rest few e end = row_ends n line at (no_space line at rest e end) ∙ ap (λ (k : ℕ). Some (Some [], k)) (sym (add-zero at))
row_printed zero (v ∷ vs) line at rest few e end = absurd (omega arith)
row_printed (suc n) (v ∷ vs) line at rest few e end =
    row_next n line at (code_space v (codes_of vs ++ rest) line at (e ∙ append_assoc (printed_code v) (codes_of vs) rest))
    ∙ one_printed line at v vs (row_at n line) rest e end (λ next behind. row_printed n vs line next rest (omega arith) behind end)

-- what a row was read from
ahead_some : {X : Type 0} (x : Option X) (xs : Option (List X)) (ys : List X) → ahead x xs ≡ Some ys → (y : X) × (zs : List X) × (x ≡ Some y) × (xs ≡ Some zs) × (ys ≡ y ∷ zs)
ahead_some None xs ys e = cc
ahead_some (Some x) None ys e = cc
ahead_some (Some x) (Some xs) ys e = (x, xs, refl, refl, sym (some_same e))

before_some : {X : Type 0} (x : Option X) (o : Field (List X)) (ys : List X) (next : ℕ) → before x o ≡ Some (Some ys, next) → (y : X) × (zs : List X) × (x ≡ Some y) × (o ≡ Some (Some zs, next)) × (ys ≡ y ∷ zs)
before_some x None ys next e = cc
before_some x (Some q) ys next e =
    let parts = ahead_some x q.0 ys (ap (λ (r : Option (List _) × ℕ). r.0) (some_same e)) in
    (parts.0, parts.1, parts.2, (λ i. Some (parts.3 i, ap (λ (r : Option (List _) × ℕ). r.1) (some_same e) i)), parts.4)

abbrev Shown : List ℕ → ℕ → ℕ → List CodeOperand → Type 0
Shown line at next vs = (drop at line ≡ codes_of vs ++ drop next line) × (next ≡ at + length (codes_of vs))

pub firstly_read : (line : List ℕ) (at next n : ℕ) (vs : List CodeOperand) (more : ℕ → Field (List CodeOperand)) → ((from : ℕ) (ws : List CodeOperand) → more from ≡ Some (Some ws, next) → Shown line from next ws × (length ws ≤ n)) → firstly (code_field line at) more ≡ Some (Some vs, next) → Shown line at next vs × (1 ≤ length vs) × (length vs ≤ suc n)
firstly_read line at next n vs more others e = go (code_field line at) refl e
  where
    go : (o : Field CodeOperand) → code_field line at ≡ o → firstly o more ≡ Some (Some vs, next) → Shown line at next vs × (1 ≤ length vs) × (length vs ≤ suc n)
    go None is e = cc
    go (Some p) is e =
        let parts = before_some p.0 (more p.1) vs next e in
        let v = parts.0 in
        let ws = parts.1 in
        let first = code_reads.read line at v p.1 (is ∙ ap (λ (x : Option CodeOperand). Some (x, p.1)) parts.2) in
        let second = others p.1 ws parts.3 in
        let same : vs ≡ v ∷ ws = parts.4 in
        let all : drop at line ≡ codes_of (v ∷ ws) ++ drop next line = first.0 ∙ ap (λ (l : List ℕ). printed_code v ++ l) second.0.0 ∙ sym (append_assoc (printed_code v) (codes_of ws) (drop next line)) in
        let long : next ≡ at + length (codes_of (v ∷ ws)) = omega (arith, first.1, second.0.1, length-append (printed_code v) (codes_of ws)) in (
          (all ∙ ap (λ (l : List CodeOperand). codes_of l ++ drop next line) (sym same), long ∙ ap (λ (l : List CodeOperand). at + length (codes_of l)) (sym same)),
          omega (arith, ap length same),
          omega (arith, ap length same, second.1),
        )

no_more : (line : List ℕ) (at next n : ℕ) (vs : List CodeOperand) → ◌≡◌ {A = Field (List CodeOperand)} (Some (Some [], at)) (Some (Some vs, next)) → Shown line at next vs × (length vs ≤ n)
no_more line at next n vs e =
    let empty : [] ≡ vs = some_same (ap (λ (r : Option (List CodeOperand) × ℕ). r.0) (some_same e)) in
    let there : at ≡ next = ap (λ (r : Option (List CodeOperand) × ℕ). r.1) (some_same e) in (
      ((λ i. codes_of (empty i) ++ drop (there i) line), sym there ∙ sym (add-zero at) ∙ ap (λ (l : List CodeOperand). at + length (codes_of l)) empty),
      omega (arith, ap length empty),
    )

row_step : (n : ℕ) (line : List ℕ) (at next : ℕ) (vs : List CodeOperand) → ((from : ℕ) (ws : List CodeOperand) → row_at n line from ≡ Some (Some ws, next) → Shown line from next ws × (length ws ≤ n)) → row_at (suc n) line at ≡ Some (Some vs, next) → Shown line at next vs × (length vs ≤ suc n)
row_step n line at next vs others e = go (stands line at 32) refl
  where
    go : (b : Bool) → stands line at 32 ≡ b → Shown line at next vs × (length vs ≤ suc n)
    go false s = no_more line at next (suc n) vs (sym (row_ends (suc n) line at s) ∙ e)
    go true s = let found = firstly_read line at next n vs (row_at n line) others (sym (row_next n line at s) ∙ e) in (found.0, found.2)

row_read : (n : ℕ) (line : List ℕ) (at next : ℕ) (vs : List CodeOperand) → row_at n line at ≡ Some (Some vs, next) → Shown line at next vs × (length vs ≤ n)
row_read zero line at next vs e = no_more line at next 0 vs (sym (row_none line at) ∙ e)
row_read (suc n) line at next vs e = row_step n line at next vs (λ from ws h. row_read n line from next ws h) e

pub row_reads : Reads row (flat_map printed_code) (λ vs. (1 ≤ length vs) × (length vs ≤ 8)) Ends
row_reads = record { printed = printed; read = λ line at vs next e. read line at vs next e }
  where
    printed : (line : List ℕ) (at : ℕ) (vs : List CodeOperand) (rest : List ℕ) → (1 ≤ length vs) × (length vs ≤ 8) → drop at line ≡ codes_of vs ++ rest → Ends rest → row line at ≡ Some (Some vs, at + length (codes_of vs))
    printed line at [] rest good e end = absurd (omega (arith, good.0))
    printed line at (v ∷ vs) rest good e end = one_printed line at v vs (row_at 7 line) rest e end (λ next behind. row_printed 7 vs line next rest (omega (arith, good.1)) behind end)

    read : (line : List ℕ) (at : ℕ) (vs : List CodeOperand) (next : ℕ) → row line at ≡ Some (Some vs, next) → (drop at line ≡ codes_of vs ++ drop next line) × (next ≡ at + length (codes_of vs)) × ((1 ≤ length vs) × (length vs ≤ 8))
    read line at vs next e = let found = firstly_read line at next 7 vs (row_at 7 line) (λ from ws h. row_read 7 line from next ws h) e in (found.0.0, found.0.1, (found.1, found.2))
