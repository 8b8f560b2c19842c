-- The lines of a printed program are its lines.
use Rattle.std.proofs.Common.{◌≡◌, ℕ, ◌≤◌, Bool, true, false, cond, not, eqb, List, [], ◌∷◌, ◌++◌, map, codes, decimal, sym, refl, ap, ◌∙◌, arith}
use Rattle.std.specs.List.{flat_map, AllByRecursion}
use Rattle.std.specs.Str.Parse.{AllDigits}
use Rattle.std.proofs.ByRecursion.{All-append}
use Rattle.std.proofs.lemmas.List.{append_assoc, append-nil}
use Rattle.std.proofs.lemmas.Str.Parse.{digit_from_value}
use Rattle.std.proofs.lemmas.Bool.{cond-true, cond-false, ne_eqb, not-true}
use Rattle.bits.specs.declared.Bits.{Bits}
use Rattle.words.specs.declared.head.Head.{Head}
use Rattle.words.specs.declared.entry.Entry.{Entry}
use Rattle.words.specs.declared.instruction.CellOperand.{CellOperand}
use Rattle.words.specs.declared.instruction.CellOperand.TheVariants as cell
use Rattle.words.specs.declared.instruction.CodeOperand.{CodeOperand}
use Rattle.words.specs.declared.instruction.CodeOperand.TheVariants as code
use Rattle.lines.specs.Lines.{Statement, end_line, put_line, get_line, freeze_line, if_line, has_line, start_line, let_line, loop_line}
use Rattle.grammar.specs.Printed.{printed_number, printed_cell, printed_code, line_of, printed_head, printed_entry, printed_statement}
use Rattle.grammar.specs.Programs.{Program, printed}
use Rattle.grammar.proofs.Numerals.{decimal_digits}
use Rattle.grammar.proofs.Spelling.{passes, passes_all}
use Rattle.grammar.proofs.Fieldwise.{small}
use Rattle.text.specs.Reading.{onto, lines_of}

-- no byte is a line's end
abbrev is_inner : ℕ → Bool
is_inner c = not (eqb c 10)

abbrev Unbroken : List ℕ → Type 0
Unbroken cs = AllByRecursion (λ c. is_inner c ≡ true) cs

unbroken_append : (xs ys : List ℕ) → Unbroken xs → Unbroken ys → Unbroken (xs ++ ys)
unbroken_append xs ys a b = All-append (λ c. is_inner c ≡ true) xs ys a b

-- by a test, which computes at a word that is written out
unbroken_by : (w : List ℕ) → passes is_inner w ≡ true → Unbroken w
unbroken_by w e = passes_all is_inner w e

unbroken_digits : (ds : List ℕ) → AllDigits 10 ds → Unbroken ds
unbroken_digits [] d = tt
unbroken_digits (c ∷ ds) d = (ap not (ne_eqb c 10 (λ e. omega (arith, (digit_from_value c d.0).0))), unbroken_digits ds d.1)

unbroken_decimal : {n : ℕ} → n ≤ 18 → (b : Bits n) → Unbroken (decimal b.value)
unbroken_decimal le b = unbroken_digits (decimal b.value) (decimal_digits b.value (small le b))

unbroken_number : {n : ℕ} → n ≤ 18 → (b : Bits n) → Unbroken (printed_number b)
unbroken_number le b = (refl, unbroken_decimal le b)

unbroken_cell : (c : CellOperand) → Unbroken (printed_cell c)
unbroken_cell (cell.Fixed c) = (refl, unbroken_decimal (omega arith) c)
unbroken_cell (cell.Moved c) = (refl, (refl, unbroken_decimal (omega arith) c))

unbroken_code : (v : CodeOperand) → Unbroken (printed_code v)
unbroken_code (code.Fixed v) = (refl, unbroken_decimal (omega arith) v)
unbroken_code code.Register = (refl, (refl, tt))

unbroken_codes : (vs : List CodeOperand) → Unbroken (flat_map printed_code vs)
unbroken_codes [] = tt
unbroken_codes (v ∷ vs) = unbroken_append (printed_code v) (flat_map printed_code vs) (unbroken_code v) (unbroken_codes vs)

unbroken_pair : {m n : ℕ} → m ≤ 18 → n ≤ 18 → (a : Bits m) (b : Bits n) → Unbroken (printed_number a ++ printed_number b)
unbroken_pair l h a b = unbroken_append (printed_number a) (printed_number b) (unbroken_number l a) (unbroken_number h b)

-- a line with one LF, at its end, is the first line of a text that begins with it
lines_first : (b rest : List ℕ) → Unbroken b → lines_of ((b ++ (10 ∷ [])) ++ rest) ≡ (b ++ (10 ∷ [])) ∷ lines_of rest
lines_first [] rest u = refl
lines_first (c ∷ b) rest u = cond-false (eqb c 10) _ _ (not-true (eqb c 10) u.0) ∙ ap (onto c) (lines_first b rest u.1)

abbrev First : List ℕ → Type 0
First l = (rest : List ℕ) → lines_of (l ++ rest) ≡ l ∷ lines_of rest

line_first : (name fields : List ℕ) → Unbroken name → Unbroken fields → First (line_of name fields)
line_first name fields u v rest =
    let same : line_of name fields ≡ (name ++ fields) ++ (10 ∷ []) = sym (append_assoc name fields (10 ∷ [])) in
    ap (λ (l : List ℕ). lines_of (l ++ rest)) same ∙ lines_first (name ++ fields) rest (unbroken_append name fields u v) ∙ ap (λ (l : List ℕ). l ∷ lines_of rest) (sym same)

head_first : (h : Head) → First (printed_head h)
head_first h =
    let cells : List ℕ = codes " cells" ++ printed_number h.cells in
    let tasks : List ℕ = codes " tasks" ++ printed_number h.tasks in
    line_first (codes "lattice") (printed_number h.label ++ (cells ++ tasks)) (unbroken_by (codes "lattice") refl)
    (unbroken_append (printed_number h.label) (cells ++ tasks) (unbroken_number (omega arith) h.label)
    (unbroken_append cells tasks (unbroken_append (codes " cells") (printed_number h.cells) (unbroken_by (codes " cells") refl) (unbroken_number (omega arith) h.cells))
    (unbroken_append (codes " tasks") (printed_number h.tasks) (unbroken_by (codes " tasks") refl) (unbroken_number (omega arith) h.tasks))))

entry_first : (e : Entry) → First (printed_entry e)
entry_first e = line_first (cond e.started (codes "task") (codes "idle")) (printed_number e.place ++ printed_number e.argument) (word e.started) (unbroken_pair (omega arith) (omega arith) e.place e.argument)
  where
    word : (b : Bool) → Unbroken (cond b (codes "task") (codes "idle"))
    word true = unbroken_by (codes "task") refl
    word false = unbroken_by (codes "idle") refl

statement_first : (s : Statement) → First (printed_statement s)
statement_first end_line = line_first (codes "end") [] (unbroken_by (codes "end") refl) tt
statement_first (put_line c v) = line_first (codes "put") (printed_cell c ++ printed_code v) (unbroken_by (codes "put") refl) (unbroken_append (printed_cell c) (printed_code v) (unbroken_cell c) (unbroken_code v))
statement_first (get_line c vs) = line_first (codes "get") (printed_cell c ++ flat_map printed_code vs) (unbroken_by (codes "get") refl) (unbroken_append (printed_cell c) (flat_map printed_code vs) (unbroken_cell c) (unbroken_codes vs))
statement_first (freeze_line c) = line_first (codes "freeze") (printed_cell c) (unbroken_by (codes "freeze") refl) (unbroken_cell c)
statement_first (if_line n p) = line_first (codes "if") (printed_number n ++ printed_number p) (unbroken_by (codes "if") refl) (unbroken_pair (omega arith) (omega arith) n p)
statement_first (has_line c v) = line_first (codes "has") (printed_cell c ++ printed_code v) (unbroken_by (codes "has") refl) (unbroken_append (printed_cell c) (printed_code v) (unbroken_cell c) (unbroken_code v))
statement_first (start_line t) = line_first (codes "start") (printed_number t) (unbroken_by (codes "start") refl) (unbroken_number (omega arith) t)
statement_first (let_line n) = line_first (codes "let") (printed_number n) (unbroken_by (codes "let") refl) (unbroken_number (omega arith) n)
statement_first (loop_line n p) = line_first (codes "loop") (printed_number n ++ printed_number p) (unbroken_by (codes "loop") refl) (unbroken_pair (omega arith) (omega arith) n p)

lines_each : {X : Type 0} (print : X → List ℕ) → ((x : X) → First (print x)) → (xs : List X) (rest : List ℕ) → lines_of (flat_map print xs ++ rest) ≡ map print xs ++ lines_of rest
lines_each print each [] rest = refl
lines_each print each (x ∷ xs) rest = ap lines_of (append_assoc (print x) (flat_map print xs) rest) ∙ each x (flat_map print xs ++ rest) ∙ ap (λ (ls : List (List ℕ)). print x ∷ ls) (lines_each print each xs rest)

abbrev pub lines_for : Program → List (List ℕ)
lines_for p = printed_head p.head ∷ (map printed_entry p.entries ++ map printed_statement p.code)

pub lines_printed : (p : Program) → lines_of (printed p) ≡ lines_for p
lines_printed p =
    head_first p.head (flat_map printed_entry p.entries ++ flat_map printed_statement p.code)
    ∙ ap (λ (ls : List (List ℕ)). printed_head p.head ∷ ls)
    (lines_each printed_entry entry_first p.entries (flat_map printed_statement p.code)
    ∙ ap (λ (ls : List (List ℕ)). map printed_entry p.entries ++ ls)
    (ap lines_of (sym (append-nil (flat_map printed_statement p.code))) ∙ lines_each printed_statement statement_first p.code [] ∙ append-nil (map printed_statement p.code)))

-- a text is its lines, one after the other
pub lines_joined : (text : List ℕ) → flat_map (λ (l : List ℕ). l) (lines_of text) ≡ text
lines_joined [] = refl
lines_joined (c ∷ cs) = go (eqb c 10) refl (lines_joined cs)
  where
    led : (ls : List (List ℕ)) → flat_map (λ (l : List ℕ). l) (onto c ls) ≡ c ∷ flat_map (λ (l : List ℕ). l) ls
    led [] = refl
    led (l ∷ ls) = refl

    go : (b : Bool) → eqb c 10 ≡ b → flat_map (λ (l : List ℕ). l) (lines_of cs) ≡ cs → flat_map (λ (l : List ℕ). l) (lines_of (c ∷ cs)) ≡ c ∷ cs
    go true e more = ap (λ (ls : List (List ℕ)). flat_map (λ (l : List ℕ). l) ls) (cond-true (eqb c 10) _ _ e) ∙ ap (λ (l : List ℕ). c ∷ l) more
    go false e more = ap (λ (ls : List (List ℕ)). flat_map (λ (l : List ℕ). l) ls) (cond-false (eqb c 10) _ _ e) ∙ led (lines_of cs) ∙ ap (λ (l : List ℕ). c ∷ l) more
