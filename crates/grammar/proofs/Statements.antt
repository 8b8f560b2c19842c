-- A line of code is read exactly where it is printed.
use Rattle.std.proofs.Common.{◌≡◌, ℕ, ◌≤◌, cond, List, [], ◌∷◌, ◌++◌, length, drop, Some, None, codes, Option, sym, refl, ap, ◌∙◌, subst, inl, inr, add-zero, arith}
use Rattle.std.specs.List.{flat_map}
use Rattle.std.specs.Str.{bytes_eq}
use Rattle.std.proofs.lemmas.List.{append_assoc}
use Rattle.std.proofs.lemmas.Slice.Eq.{bytes_eq-Decides}
use Rattle.std.proofs.lemmas.Bool.{cond_both}
use Rattle.words.specs.declared.instruction.CellOperand.{CellOperand}
use Rattle.words.specs.declared.instruction.CodeOperand.{CodeOperand}
use Rattle.lexer.specs.Fields.{Field, first_word, cell_field, code_field}
use Rattle.lines.specs.Forms.{then, nothing, lastly, row}
use Rattle.lines.specs.Lines.{inside, Statement, end_line, put_line, get_line, freeze_line, if_line, has_line, start_line, let_line, loop_line, keyword_in, statement_by, by_keyword, code_from, code_line}
use Rattle.lines.specs.declared.Keyword.{Keyword}
use Rattle.lines.specs.declared.Keyword.TheVariants.{End, Put, Get, Freeze, If, Has, Start, Let, Loop}
use Rattle.grammar.specs.Printed.{printed_cell, printed_code, line_of, printed_statement, Formed}
use Rattle.bits.proofs.Options.{some_same}
use Rattle.grammar.proofs.Spelling.{Stops, Wordlike, wordlike_by}
use Rattle.grammar.proofs.Fieldwise.{Reads, Any, number_reads, cell_reads, code_reads, cell_stops, code_stops, then_reads, then_some}
use Rattle.grammar.proofs.Rowwise.{Ends, row_reads}
use Rattle.grammar.proofs.Linewise.{inside_some, first_printed, fields_printed, fields_read, pair_reads}

-- the first word of each kind of line
abbrev name : Keyword → List ℕ
name End = codes "end"
name Put = codes "put"
name Get = codes "get"
name Freeze = codes "freeze"
name If = codes "if"
name Has = codes "has"
name Start = codes "start"
name Let = codes "let"
name Loop = codes "loop"

wordlike : (k : Keyword) → Wordlike (name k)
wordlike End = wordlike_by (name End) refl
wordlike Put = wordlike_by (name Put) refl
wordlike Get = wordlike_by (name Get) refl
wordlike Freeze = wordlike_by (name Freeze) refl
wordlike If = wordlike_by (name If) refl
wordlike Has = wordlike_by (name Has) refl
wordlike Start = wordlike_by (name Start) refl
wordlike Let = wordlike_by (name Let) refl
wordlike Loop = wordlike_by (name Loop) refl

keyword_of : (k : Keyword) → keyword_in (name k) ≡ Some k
keyword_of End = refl
keyword_of Put = refl
keyword_of Get = refl
keyword_of Freeze = refl
keyword_of If = refl
keyword_of Has = refl
keyword_of Start = refl
keyword_of Let = refl
keyword_of Loop = refl

-- a word is taken for a keyword only if it is spelled so
module _ (w : List ℕ) (k : Keyword) where
  abbrev Spelled : Option Keyword → Type 0
  Spelled o = o ≡ Some k → w ≡ name k

  or_else : (j : Keyword) (o : Option Keyword) → Spelled o → Spelled (cond (bytes_eq w (name j)) (Some j) o)
  or_else j o later = cond_both (bytes_eq w (name j)) (Some j) o Spelled (λ s e. (bytes_eq-Decides w (name j)).0 s ∙ ap name (some_same e)) (λ _. later)

  keyword_name : Spelled (keyword_in w)
  keyword_name =
      or_else End _ (or_else Put _ (or_else Get _ (or_else Freeze _ (or_else If _ (or_else Has _ (or_else Start _ (or_else Let _ (or_else Loop _ (λ e. cc)))))))))

nothing_reads : Reads nothing (λ _. []) Any Stops
nothing_reads = record {
  printed = λ line at x rest _ e stop. ap (λ (k : ℕ). Some (Some tt, k)) (sym (add-zero at));
  read = λ line at x next e. let there : at ≡ next = ap (λ (q : Option (Unit {0}) × ℕ). q.1) (some_same e) in (ap (λ (k : ℕ). drop k line) there, sym there ∙ sym (add-zero at), tt);
}

operand_reads : Reads (then cell_field code_field) (λ (z : CellOperand × CodeOperand). printed_cell z.0 ++ printed_code z.1) (λ z. Unit {0} × Unit {0}) Stops
operand_reads = then_reads cell_reads code_reads code_stops

-- a line by its first word and its fields
module _ {X : Type 0} {P : List ℕ → ℕ → Field X} {p : X → List ℕ} {G : X → Type 0} {S : List ℕ → Type 0} (one : Reads P p G S) (k : Keyword) (f : X → Statement) (by : (line : List ℕ) (at : ℕ) → statement_by k line at ≡ inside f (lastly P line at)) (form : (x : X) → printed_statement (f x) ≡ line_of (name k) (p x)) where
  line_printed : S (10 ∷ []) → (x : X) → G x → Stops (p x ++ (10 ∷ [])) → code_line (printed_statement (f x)) ≡ Some (Some (f x))
  line_printed end x good stop =
      let line = line_of (name k) (p x) in
      ap code_line (form x)
      ∙ ap (code_from line) (first_printed (name k) (p x ++ (10 ∷ [])) (wordlike k) stop)
      ∙ ap (by_keyword line (length (name k))) (keyword_of k)
      ∙ by line (length (name k))
      ∙ ap (inside f) (fields_printed one end (name k) x good)

  line_read : (line w : List ℕ) (at : ℕ) (s : Statement) → first_word line ≡ Some (w, at) → w ≡ name k → statement_by k line at ≡ Some (Some s) → (x : X) × (f x ≡ s) × (line ≡ printed_statement s) × G x
  line_read line w at s first is e =
      let found = inside_some f (lastly P line at) s (sym (by line at) ∙ e) in
      let back = fields_read one line (name k) w at found.0 first is found.1 in
      (found.0, found.2, back.0 ∙ sym (form found.0) ∙ ap printed_statement found.2, back.1)

-- GET's codes begin with a space, as every field does, and end with the line
row_begins : (vs : List CodeOperand) (rest : List ℕ) → 1 ≤ length vs → Stops (flat_map printed_code vs ++ rest)
row_begins [] rest some = absurd (omega arith)
row_begins (v ∷ vs) rest some = subst Stops (sym (append_assoc (printed_code v) (flat_map printed_code vs) rest)) (code_stops v (flat_map printed_code vs ++ rest))

cell_begins : (c : CellOperand) (more rest : List ℕ) → Stops ((printed_cell c ++ more) ++ rest)
cell_begins c more rest = subst Stops (sym (append_assoc (printed_cell c) more rest)) (cell_stops c (more ++ rest))

get_reads : Reads (then cell_field row) (λ (z : CellOperand × List CodeOperand). printed_cell z.0 ++ flat_map printed_code z.1) (λ z. Unit {0} × ((1 ≤ length z.1) × (length z.1 ≤ 8))) Ends
get_reads = then_some cell_reads row_reads (λ vs good rest. row_begins vs rest good.0)

pub statement_printed : (s : Statement) → Formed s → code_line (printed_statement s) ≡ Some (Some s)
statement_printed end_line good = line_printed nothing_reads End (λ _. end_line) (λ line at. refl) (λ x. refl) (inr refl) tt tt (inr refl)
statement_printed (put_line c v) good = line_printed operand_reads Put (λ z. put_line z.0 z.1) (λ line at. refl) (λ z. refl) (inr refl) (c, v) (tt, tt) (cell_begins c (printed_code v) (10 ∷ []))
statement_printed (get_line c vs) good = line_printed get_reads Get (λ z. get_line z.0 z.1) (λ line at. refl) (λ z. refl) refl (c, vs) (tt, good) (cell_begins c (flat_map printed_code vs) (10 ∷ []))
statement_printed (freeze_line c) good = line_printed cell_reads Freeze freeze_line (λ line at. refl) (λ z. refl) (inr refl) c tt (cell_stops c (10 ∷ []))
statement_printed (if_line n p) good = line_printed (pair_reads 15 13 (omega arith) (omega arith)) If (λ z. if_line z.0 z.1) (λ line at. refl) (λ z. refl) (inr refl) (n, p) (tt, tt) (inl refl)
statement_printed (has_line c v) good = line_printed operand_reads Has (λ z. has_line z.0 z.1) (λ line at. refl) (λ z. refl) (inr refl) (c, v) (tt, tt) (cell_begins c (printed_code v) (10 ∷ []))
statement_printed (start_line t) good = line_printed (number_reads 9 (omega arith)) Start start_line (λ line at. refl) (λ z. refl) (inr refl) t tt (inl refl)
statement_printed (let_line n) good = line_printed (number_reads 18 (omega arith)) Let let_line (λ line at. refl) (λ z. refl) (inr refl) n tt (inl refl)
statement_printed (loop_line n p) good = line_printed (pair_reads 15 13 (omega arith) (omega arith)) Loop (λ z. loop_line z.0 z.1) (λ line at. refl) (λ z. refl) (inr refl) (n, p) (tt, tt) (inl refl)

-- what a line of code was read from
module _ (line w : List ℕ) (at : ℕ) (s : Statement) (first : first_word line ≡ Some (w, at)) where
  abbrev Shown : Type 0
  Shown = (line ≡ printed_statement s) × Formed s

  read_by : (k : Keyword) → w ≡ name k → statement_by k line at ≡ Some (Some s) → Shown
  read_by End is e = let found = line_read nothing_reads End (λ _. end_line) (λ line at. refl) (λ x. refl) line w at s first is e in (found.2, subst Formed found.1 tt)
  read_by Put is e = let found = line_read operand_reads Put (λ z. put_line z.0 z.1) (λ line at. refl) (λ z. refl) line w at s first is e in (found.2, subst Formed found.1 tt)
  read_by Get is e = let found = line_read get_reads Get (λ z. get_line z.0 z.1) (λ line at. refl) (λ z. refl) line w at s first is e in (found.2, subst Formed found.1 found.3.1)
  read_by Freeze is e = let found = line_read cell_reads Freeze freeze_line (λ line at. refl) (λ z. refl) line w at s first is e in (found.2, subst Formed found.1 tt)
  read_by If is e = let found = line_read (pair_reads 15 13 (omega arith) (omega arith)) If (λ z. if_line z.0 z.1) (λ line at. refl) (λ z. refl) line w at s first is e in (found.2, subst Formed found.1 tt)
  read_by Has is e = let found = line_read operand_reads Has (λ z. has_line z.0 z.1) (λ line at. refl) (λ z. refl) line w at s first is e in (found.2, subst Formed found.1 tt)
  read_by Start is e = let found = line_read (number_reads 9 (omega arith)) Start start_line (λ line at. refl) (λ z. refl) line w at s first is e in (found.2, subst Formed found.1 tt)
  read_by Let is e = let found = line_read (number_reads 18 (omega arith)) Let let_line (λ line at. refl) (λ z. refl) line w at s first is e in (found.2, subst Formed found.1 tt)
  read_by Loop is e = let found = line_read (pair_reads 15 13 (omega arith) (omega arith)) Loop (λ z. loop_line z.0 z.1) (λ line at. refl) (λ z. refl) line w at s first is e in (found.2, subst Formed found.1 tt)

pub statement_read : (line : List ℕ) (s : Statement) → code_line line ≡ Some (Some s) → (line ≡ printed_statement s) × Formed s
statement_read line s e = go (first_word line) refl e
  where
    go : (o : Option (List ℕ × ℕ)) → first_word line ≡ o → code_from line o ≡ Some (Some s) → (line ≡ printed_statement s) × Formed s
    go None is e = cc
    go (Some q) is e = by (keyword_in q.0) refl e
      where
        by : (o : Option Keyword) → keyword_in q.0 ≡ o → by_keyword line q.1 o ≡ Some (Some s) → (line ≡ printed_statement s) × Formed s
        by None k e = cc
        by (Some j) k e = read_by line q.0 q.1 s is j (keyword_name q.0 j k) e
