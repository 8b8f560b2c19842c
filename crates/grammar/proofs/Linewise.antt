-- A line is read exactly where it is printed.
use Rattle.std.proofs.Common.{◌≡◌, ℕ, ◌+◌, ◌-◌, ◌≤◌, Bool, true, false, cond, eqb, ltb, List, [], ◌∷◌, ◌++◌, length, get_or, drop, Some, None, codes, Option, sym, refl, ap, ◌∙◌, inl, inr, zero-add, arith}
use Rattle.std.specs.Str.{bytes_eq}
use Rattle.std.proofs.lemmas.List.{drop-drop, drop_at, drop_more, length-drop, nil_from_length}
use Rattle.std.proofs.lemmas.Slice.Eq.{bytes_eq-Decides}
use Rattle.std.proofs.lemmas.Bool.{cond-true, cond_both, and_from, and_parts, eq-eqb, eqb-true, ltb-true}
use Rattle.bits.specs.declared.Bits.{Bits}
use Rattle.words.specs.declared.head.Head.{Head}
use Rattle.words.specs.declared.entry.Entry.{Entry}
use Rattle.lexer.specs.Tokens.{Said, word, plain, plus, register, Placed, token_at}
use Rattle.lexer.specs.Fields.{Field, stands, ends, word_in, word_by, first_word, number_field}
use Rattle.lines.specs.Forms.{then, named, closed, lastly}
use Rattle.lines.specs.Lines.{inside, head_of, head_fields, head_from, head_line, started_by, number_pair, entry_of, entry_by, entry_from, entry_line}
use Rattle.grammar.specs.Printed.{printed_number, line_of, printed_head, printed_entry}
use Rattle.bits.proofs.Options.{some_same}
use Rattle.grammar.proofs.Spelling.{Stops, Wordlike, wordlike_by, spelled, token_printed, token_read}
use Rattle.grammar.proofs.Fieldwise.{Reads, Any, stands_at, number_reads, then_reads, named_reads}

-- the end of a line
ends_at : (line : List ℕ) (at : ℕ) → drop at line ≡ 10 ∷ [] → ends line at ≡ true
ends_at line at e = and_from (stands line at 10) (eqb (length line - at) 1) (stands_at line at 10 [] e) (eq-eqb (length line - at) 1 (sym (length-drop at line) ∙ ap length e))

ends_there : (line : List ℕ) (at : ℕ) → ends line at ≡ true → drop at line ≡ 10 ∷ []
ends_there line at e =
    let parts = and_parts (stands line at 10) (eqb (length line - at) 1) e in
    let one = eqb-true (length line - at) 1 parts.1 in
    stands_line line at parts.0 (length-drop at line ∙ one)
  where
    stands_line : (line : List ℕ) (at : ℕ) → stands line at 10 ≡ true → length (drop at line) ≡ 1 → drop at line ≡ 10 ∷ []
    stands_line line at s one =
        let parts = and_parts (ltb at (length line)) (eqb (get_or line at 0) 10) s in
        let here = drop_more line at 0 (ltb-true at (length line) parts.0) in
        here ∙ (λ i. eqb-true (get_or line at 0) 10 parts.1 i ∷ nil_from_length (drop (at + 1) line) (omega (arith, ap length here)) i)

pub inside_some : {X Y : Type 0} (f : X → Y) (o : Option (Option X)) (y : Y) → inside f o ≡ Some (Some y) → (x : X) × (o ≡ Some (Some x)) × (f x ≡ y)
inside_some f None y e = cc
inside_some f (Some None) y e = cc
inside_some f (Some (Some x)) y e = (x, refl, some_same (some_same e))

-- fields with which a line ends
module _ {X : Type 0} {P : List ℕ → ℕ → Field X} {p : X → List ℕ} {G : X → Type 0} {S : List ℕ → Type 0} (one : Reads P p G S) where
  pub last_printed : S (10 ∷ []) → (line : List ℕ) (at : ℕ) (x : X) → G x → drop at line ≡ p x ++ (10 ∷ []) → lastly P line at ≡ Some (Some x)
  last_printed stop line at x good e =
      let behind : drop (at + length (p x)) line ≡ 10 ∷ [] = sym (drop-drop (length (p x)) at line) ∙ ap (drop (length (p x))) e ∙ drop_at (p x) (10 ∷ []) (length (p x)) refl in
      ap (closed line) (one.printed line at x (10 ∷ []) good e stop) ∙ cond-true (ends line (at + length (p x))) _ _ (ends_at line (at + length (p x)) behind)

  pub last_read : (line : List ℕ) (at : ℕ) (x : X) → lastly P line at ≡ Some (Some x) → (drop at line ≡ p x ++ (10 ∷ [])) × G x
  last_read line at x e = go (P line at) refl e
    where
      go : (o : Field X) → P line at ≡ o → closed line o ≡ Some (Some x) → (drop at line ≡ p x ++ (10 ∷ [])) × G x
      go None is e = cc
      go (Some q) is e = by (ends line q.1) refl e
        where
          by : (b : Bool) → ends line q.1 ≡ b → cond b (Some q.0) None ≡ Some (Some x) → (drop at line ≡ p x ++ (10 ∷ [])) × G x
          by false s e = cc
          by true s e =
              let found = one.read line at x q.1 (is ∙ ap (λ (v : Option X). Some (v, q.1)) (some_same e)) in
              (found.0 ∙ ap (λ (l : List ℕ). p x ++ l) (ends_there line q.1 s), found.2)

-- the first word of a line
pub first_printed : (w rest : List ℕ) → Wordlike w → Stops rest → first_word (w ++ rest) ≡ Some (w, length w)
first_printed w rest like stop = ap word_by (token_printed (w ++ rest) 0 (word w) rest like refl stop) ∙ ap (λ (k : ℕ). Some (w, k)) (zero-add (length w))

pub first_read : (line w : List ℕ) (next : ℕ) → first_word line ≡ Some (w, next) → line ≡ w ++ drop next line
first_read line w next e = go (token_at line 0) refl e
  where
    go : (o : Option Placed) → token_at line 0 ≡ o → word_by o ≡ Some (w, next) → line ≡ w ++ drop next line
    go None is e = cc
    go (Some p) is e = by p.token refl e
      where
        by : (t : Said) → p.token ≡ t → word_in t p.next ≡ Some (w, next) → line ≡ w ++ drop next line
        by (plain v) t e = cc
        by (plus v) t e = cc
        by register t e = cc
        by (word x) t e =
            let same : x ≡ w = ap (λ (q : List ℕ × ℕ). q.0) (some_same e) in
            let there : p.next ≡ next = ap (λ (q : List ℕ × ℕ). q.1) (some_same e) in
            (token_read line 0 p is).0 ∙ (λ i. spelled ((t ∙ ap word same) i) ++ drop (there i) line)

-- the fields of a line, behind its first word
module _ {X : Type 0} {P : List ℕ → ℕ → Field X} {p : X → List ℕ} {G : X → Type 0} {S : List ℕ → Type 0} (one : Reads P p G S) where
  pub fields_printed : S (10 ∷ []) → (name : List ℕ) (x : X) → G x → lastly P (line_of name (p x)) (length name) ≡ Some (Some x)
  fields_printed stop name x good = last_printed one stop (line_of name (p x)) (length name) x good (drop_at name (p x ++ (10 ∷ [])) (length name) refl)

  pub fields_read : (line name w : List ℕ) (at : ℕ) (x : X) → first_word line ≡ Some (w, at) → w ≡ name → lastly P line at ≡ Some (Some x) → (line ≡ line_of name (p x)) × G x
  fields_read line name w at x first is e =
      let found = last_read one line at x e in
      (first_read line w at first ∙ (λ i. is i ++ found.0 i), found.1)

number_stops : {n : ℕ} (b : Bits n) (rest : List ℕ) → Stops (printed_number b ++ rest)
number_stops b rest = inl refl

-- the words that a line may begin with, or name a field by
like_lattice : Wordlike (codes "lattice")
like_lattice = wordlike_by (codes "lattice") refl

like_cells : Wordlike (codes "cells")
like_cells = wordlike_by (codes "cells") refl

like_tasks : Wordlike (codes "tasks")
like_tasks = wordlike_by (codes "tasks") refl

-- `lattice L cells N tasks T`
cells_reads : Reads (named (codes "cells") (number_field 10)) (λ (b : Bits 10). codes " cells" ++ printed_number b) Any Stops
cells_reads = named_reads (codes "cells") like_cells (number_reads 10 (omega arith)) number_stops

tasks_reads : Reads (named (codes "tasks") (number_field 10)) (λ (b : Bits 10). codes " tasks" ++ printed_number b) Any Stops
tasks_reads = named_reads (codes "tasks") like_tasks (number_reads 10 (omega arith)) number_stops

abbrev printed_fields : Bits 8 × (Bits 10 × Bits 10) → List ℕ
printed_fields z = printed_number z.0 ++ ((codes " cells" ++ printed_number z.1.0) ++ (codes " tasks" ++ printed_number z.1.1))

head_reads : Reads head_fields printed_fields (λ (z : Bits 8 × (Bits 10 × Bits 10)). Unit {0} × (Unit {0} × Unit {0})) Stops
head_reads = then_reads (number_reads 8 (omega arith)) (then_reads cells_reads tasks_reads (λ b rest. inl refl)) (λ z rest. inl refl)

pub head_printed : (h : Head) → head_line (printed_head h) ≡ Some (Some h)
head_printed h =
    let z : Bits 8 × (Bits 10 × Bits 10) = (h.label, (h.cells, h.tasks)) in
    ap (head_from (printed_head h)) (first_printed (codes "lattice") (printed_fields z ++ (10 ∷ [])) like_lattice (inl refl))
    ∙ ap (inside head_of) (fields_printed head_reads (inr refl) (codes "lattice") z (tt, (tt, tt)))

pub head_read : (line : List ℕ) (h : Head) → head_line line ≡ Some (Some h) → line ≡ printed_head h
head_read line h e = go (first_word line) refl e
  where
    go : (o : Option (List ℕ × ℕ)) → first_word line ≡ o → head_from line o ≡ Some (Some h) → line ≡ printed_head h
    go None is e = cc
    go (Some q) is e = by (bytes_eq q.0 (codes "lattice")) refl e
      where
        by : (b : Bool) → bytes_eq q.0 (codes "lattice") ≡ b → cond b (inside head_of (lastly head_fields line q.1)) None ≡ Some (Some h) → line ≡ printed_head h
        by false s e = cc
        by true s e =
            let found = inside_some head_of (lastly head_fields line q.1) h e in
            (fields_read head_reads line (codes "lattice") q.0 q.1 found.0 is ((bytes_eq-Decides q.0 (codes "lattice")).0 s) found.1).0 ∙ ap printed_head found.2

-- two numbers
pub pair_reads : (m n : ℕ) → m ≤ 18 → n ≤ 18 → Reads (then (number_field m) (number_field n)) (λ (z : Bits m × Bits n). printed_number z.0 ++ printed_number z.1) (λ z. Unit {0} × Unit {0}) Stops
pair_reads m n low high = then_reads (number_reads m low) (number_reads n high) number_stops

like_task : Wordlike (codes "task")
like_task = wordlike_by (codes "task") refl

like_idle : Wordlike (codes "idle")
like_idle = wordlike_by (codes "idle") refl

-- `task P N` and `idle P N`
entry_by_start : (started : Bool) (z : Bits 13 × Bits 14) → entry_line (printed_entry (entry_of started z)) ≡ Some (Some (entry_of started z))
entry_by_start true z =
    ap (entry_from (printed_entry (entry_of true z))) (first_printed (codes "task") ((printed_number z.0 ++ printed_number z.1) ++ (10 ∷ [])) like_task (inl refl))
    ∙ ap (inside (entry_of true)) (fields_printed (pair_reads 13 14 (omega arith) (omega arith)) (inr refl) (codes "task") z (tt, tt))
entry_by_start false z =
    ap (entry_from (printed_entry (entry_of false z))) (first_printed (codes "idle") ((printed_number z.0 ++ printed_number z.1) ++ (10 ∷ [])) like_idle (inl refl))
    ∙ ap (inside (entry_of false)) (fields_printed (pair_reads 13 14 (omega arith) (omega arith)) (inr refl) (codes "idle") z (tt, tt))

pub entry_printed : (e : Entry) → entry_line (printed_entry e) ≡ Some (Some e)
entry_printed e = entry_by_start e.started (e.place, e.argument)

started_word : (w : List ℕ) (started : Bool) → started_by w ≡ Some started → w ≡ cond started (codes "task") (codes "idle")
started_word w started =
    cond_both (bytes_eq w (codes "task")) _ _ (λ o. o ≡ Some started → w ≡ cond started (codes "task") (codes "idle"))
    (λ s e. (bytes_eq-Decides w (codes "task")).0 s ∙ ap (λ (b : Bool). cond b (codes "task") (codes "idle")) (some_same e))
    (λ _. cond_both (bytes_eq w (codes "idle")) _ _ (λ o. o ≡ Some started → w ≡ cond started (codes "task") (codes "idle"))
    (λ s e. (bytes_eq-Decides w (codes "idle")).0 s ∙ ap (λ (b : Bool). cond b (codes "task") (codes "idle")) (some_same e))
    (λ _ e. cc))

pub entry_read : (line : List ℕ) (t : Entry) → entry_line line ≡ Some (Some t) → line ≡ printed_entry t
entry_read line t e = go (first_word line) refl e
  where
    go : (o : Option (List ℕ × ℕ)) → first_word line ≡ o → entry_from line o ≡ Some (Some t) → line ≡ printed_entry t
    go None is e = cc
    go (Some q) is e = by (started_by q.0) refl e
      where
        by : (b : Option Bool) → started_by q.0 ≡ b → entry_by line q.1 b ≡ Some (Some t) → line ≡ printed_entry t
        by None s e = cc
        by (Some started) s e =
            let found = inside_some (entry_of started) (number_pair 13 14 line q.1) t e in
            (fields_read (pair_reads 13 14 (omega arith) (omega arith)) line (cond started (codes "task") (codes "idle")) q.0 q.1 found.0 is (started_word q.0 started s) found.1).0 ∙ ap printed_entry found.2
