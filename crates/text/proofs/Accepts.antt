-- A text is read exactly when it is a printed program.
use Rattle.std.proofs.Common.{◌≡◌, ℕ, zero, suc, ◌+◌, ◌-◌, ◌<◌, ◌≤◌, eqb, leb, List, [], ◌∷◌, ◌++◌, map, length, take, drop, Some, None, Ok, Err, Option, Result, sym, refl, ap, ◌∙◌, subst, ⊎_elim, arith}
use Rattle.std.specs.List.{flat_map, AllByRecursion}
use Rattle.std.proofs.lemmas.List.{append_assoc, length-append, length-map, take_at, drop_at}
use Rattle.std.proofs.lemmas.Bool.{cond-true, cond-false, le-leb, lt-leb, ne_eqb, cases_lt}
use Rattle.words.specs.declared.entry.Entry.{Entry}
use Rattle.words.specs.Heads.{head_word}
use Rattle.words.specs.Entries.{entry_word}
use Rattle.lines.specs.Lines.{Statement, statement_words, inside, head_line, entry_line, code_line}
use Rattle.grammar.specs.Printed.{printed_head, printed_entry, printed_statement, Formed}
use Rattle.grammar.specs.Programs.{Program, Whole, printed, program_words}
use Rattle.grammar.proofs.Linewise.{head_printed, head_read, entry_printed, entry_read}
use Rattle.grammar.proofs.Statements.{statement_printed, statement_read}
use Rattle.text.specs.declared.section.Section.{Section}
use Rattle.text.specs.declared.section.Section.TheVariants.{Head, Tasks, Code}
use Rattle.text.specs.declared.refusal.Cause.{Cause}
use Rattle.text.specs.declared.refusal.Cause.TheVariants.{Room}
use Rattle.text.specs.declared.refusal.Refusal.{Refusal}
use Rattle.text.specs.Reading.{line_by, tasks_left, head_in, entry_in, code_in, line_in, lines_of, ended, prefixed, refused, outcome_by, outcome, reading}
use Rattle.text.proofs.Writes.{one_line}
use Rattle.text.proofs.Feeds.{lines_for, lines_printed, lines_joined}

-- what each section makes of a line
line_head : (l : List ℕ) → line_in Head l ≡ head_in l
unfolding line_in
line_head l = refl

line_entry : (n : ℕ) (l : List ℕ) → line_in (Tasks n) l ≡ entry_in n l
unfolding line_in
line_entry n l = refl

line_code : (l : List ℕ) → line_in Code l ≡ code_in l
unfolding line_in
line_code l = refl

-- words that find room come out, and words that do not are refused for it
abbrev Fits : Result (List ℕ) Refusal → List ℕ → ℕ → Type 0
Fits o ws room = (length ws ≤ room → o ≡ Ok ws) × (room < length ws → (line : ℕ) × (o ≡ refused Room line))

fits_more : (ls : List (List ℕ)) (l : List ℕ) (s t : Section) (k room : ℕ) (ws more : List ℕ) → line_in s l ≡ Ok (ws, t) → Fits (outcome ls t (k + 1) (room - length ws)) more (room - length ws) → Fits (outcome (l ∷ ls) s k room) (ws ++ more) room
fits_more ls l s t k room ws more is others = (
  λ fits.
      let enough : length ws ≤ room = omega (arith, length-append ws more) in
      within enough ∙ ap (prefixed ws) (others.0 (omega (arith, length-append ws more))),
  λ short.
      ⊎_elim
      (λ full. (k, ap (outcome_by (outcome ls) k room) is ∙ cond-false (leb (length ws) room) _ _ (lt-leb (length ws) room full)))
      (λ enough. let found = others.1 (omega (arith, length-append ws more)) in (found.0, within enough ∙ ap (prefixed ws) found.1))
      (cases_lt room (length ws)),
)
  where
    within : length ws ≤ room → outcome (l ∷ ls) s k room ≡ prefixed ws (outcome ls t (k + 1) (room - length ws))
    within enough = ap (outcome_by (outcome ls) k room) is ∙ cond-true (leb (length ws) room) _ _ (le-leb (length ws) room enough)

code_fits : (ss : List Statement) (k room : ℕ) → AllByRecursion Formed ss → Fits (outcome (map printed_statement ss) Code k room) (flat_map statement_words ss) room
code_fits [] k room good = (λ _. refl, λ short. absurd (omega arith))
code_fits (s ∷ ss) k room good =
    fits_more (map printed_statement ss) (printed_statement s) Code Code k room (statement_words s) (flat_map statement_words ss)
    (line_code (printed_statement s) ∙ ap (λ (o : Option (Option Statement)). line_by (λ ws. (ws, Code)) (inside statement_words o)) (statement_printed s good.0))
    (code_fits ss (k + 1) (room - length (statement_words s)) good.1)

tasks_some : (n : ℕ) → tasks_left (suc n) ≡ Tasks (suc n)
tasks_some n = cond-false (eqb (suc n) 0) _ _ (ne_eqb (suc n) 0 (λ e. omega arith))

entry_line_read : (n : ℕ) (e : Entry) → line_in (Tasks (suc n)) (printed_entry e) ≡ Ok (entry_word e ∷ [], tasks_left n)
entry_line_read n e =
    let less : suc n - 1 ≡ n = omega arith in
    line_entry (suc n) (printed_entry e)
    ∙ ap (line_by (λ t. (entry_word t ∷ [], tasks_left (suc n - 1)))) (entry_printed e)
    ∙ ap (λ (j : ℕ). Ok (entry_word e ∷ [], tasks_left j)) less

entries_fit : (es : List Entry) (ss : List Statement) (k room : ℕ) → AllByRecursion Formed ss → Fits (outcome (map printed_entry es ++ map printed_statement ss) (tasks_left (length es)) k room) (map entry_word es ++ flat_map statement_words ss) room
entries_fit [] ss k room good = code_fits ss k room good
entries_fit (e ∷ es) ss k room good =
    fits_more (map printed_entry es ++ map printed_statement ss) (printed_entry e) (tasks_left (suc (length es))) (tasks_left (length es)) k room (entry_word e ∷ []) (map entry_word es ++ flat_map statement_words ss)
    (ap (λ (s : Section). line_in s (printed_entry e)) (tasks_some (length es)) ∙ entry_line_read (length es) e)
    (entries_fit es ss (k + 1) (room - 1) good)

program_fits : (p : Program) → Whole p → (room : ℕ) → Fits (outcome (lines_for p) Head 1 room) (program_words p) room
program_fits p whole room =
    fits_more (map printed_entry p.entries ++ map printed_statement p.code) (printed_head p.head) Head (tasks_left (length p.entries)) 1 room (head_word p.head ∷ []) (map entry_word p.entries ++ flat_map statement_words p.code)
    (line_head (printed_head p.head) ∙ ap (line_by (λ h. (head_word h ∷ [], tasks_left h.tasks.value))) (head_printed p.head) ∙ ap (λ (n : ℕ). Ok (head_word p.head ∷ [], tasks_left n)) (sym whole.tasks))
    (entries_fit p.entries p.code 2 (room - 1) whole.formed)

pub printed_fits : (text : List ℕ) (room : ℕ) (p : Program) → Whole p → text ≡ printed p → Fits (reading room text) (program_words p) room
printed_fits text room p whole e = subst (λ (ls : List (List ℕ)). Fits (outcome ls Head 1 room) (program_words p) room) (sym (ap lines_of e ∙ lines_printed p)) (program_fits p whole room)

-- what lines were read from
by_some : {X : Type 0} (f : X → List ℕ × Section) (o : Option (Option X)) (ws : List ℕ) (t : Section) → line_by f o ≡ Ok (ws, t) → (x : X) × (o ≡ Some (Some x)) × (f x ≡ (ws, t))
by_some f None ws t e = cc
by_some f (Some None) ws t e = cc
by_some f (Some (Some x)) ws t e = (x, refl, cc)

-- a line that is read, among lines that are
first_line : (l : List ℕ) (ls : List (List ℕ)) (s : Section) (k room : ℕ) (all : List ℕ) → outcome (l ∷ ls) s k room ≡ Ok all → (ws : List ℕ) × (t : Section) × (line_in s l ≡ Ok (ws, t)) × ((length ws ≤ room) × ((more : List ℕ) × (outcome ls t (k + 1) (room - length ws) ≡ Ok more) × (all ≡ ws ++ more)))
first_line l ls s k room all e = go (line_in s l) refl e
  where
    go : (r : Result (List ℕ × Section) Cause) → line_in s l ≡ r → outcome_by (outcome ls) k room r ≡ Ok all → (ws : List ℕ) × (t : Section) × (line_in s l ≡ Ok (ws, t)) × ((length ws ≤ room) × ((more : List ℕ) × (outcome ls t (k + 1) (room - length ws) ≡ Ok more) × (all ≡ ws ++ more)))
    go (Err c) is e = cc
    go (Ok p) is e = (p.0, p.1, is, one_line (outcome ls) k room all p.0 p.1 e)

abbrev text_of : List (List ℕ) → List ℕ
text_of = flat_map (λ (l : List ℕ). l)

abbrev CodeRead : List (List ℕ) → ℕ → List ℕ → Type 0
CodeRead ls room all = (ss : List Statement) × AllByRecursion Formed ss × (text_of ls ≡ flat_map printed_statement ss) × (all ≡ flat_map statement_words ss) × (length all ≤ room)

pair_left : {X Y : Type 0} {a b : X × Y} → a ≡ b → a.0 ≡ b.0
pair_left e = ap (λ p. p.0) e

pair_right : {X Y : Type 0} {a b : X × Y} → a ≡ b → a.1 ≡ b.1
pair_right e = ap (λ p. p.1) e

code_read : (ls : List (List ℕ)) (k room : ℕ) (all : List ℕ) → outcome ls Code k room ≡ Ok all → CodeRead ls room all
code_read [] k room all e = let none : [] ≡ all = cc in ([], tt, refl, sym none, omega (arith, ap length none))
code_read (l ∷ ls) k room all e =
    let found = first_line l ls Code k room all e in
    let ws = found.0 in
    let said = by_some (λ ws. (ws, Code)) (inside statement_words (code_line l)) ws found.1 (sym (line_code l) ∙ found.2) in
    let next = found.3.1 in
    let here = statement_of (code_line l) said.0 said.1 in
    let s = here.0 in
    let back = statement_read l s here.1 in
    let same : ws ≡ statement_words s = sym (pair_left said.2) ∙ sym here.2 in
    let later = code_read ls (k + 1) (room - length ws) next.0 (ap (λ (t : Section). outcome ls t (k + 1) (room - length ws)) (pair_right said.2) ∙ next.1) in (
      s ∷ later.0,
      (back.1, later.1),
      (λ i. back.0 i ++ later.2 i),
      next.2 ∙ (λ i. same i ++ later.3 i),
      omega (arith, ap length next.2, length-append ws next.0, found.3.0, later.4),
    )
  where
    statement_of : (o : Option (Option Statement)) (ws : List ℕ) → inside statement_words o ≡ Some (Some ws) → (s : Statement) × (o ≡ Some (Some s)) × (statement_words s ≡ ws)
    statement_of None ws e = cc
    statement_of (Some None) ws e = cc
    statement_of (Some (Some s)) ws e = (s, refl, cc)

abbrev TasksRead : ℕ → List (List ℕ) → ℕ → List ℕ → Type 0
TasksRead n ls room all = (es : List Entry) × (ss : List Statement) × (length es ≡ n) × AllByRecursion Formed ss × (text_of ls ≡ flat_map printed_entry es ++ flat_map printed_statement ss) × (all ≡ map entry_word es ++ flat_map statement_words ss) × (length all ≤ room)

tasks_read : (n : ℕ) (ls : List (List ℕ)) (k room : ℕ) (all : List ℕ) → outcome ls (tasks_left n) k room ≡ Ok all → TasksRead n ls room all
tasks_read zero ls k room all e = let found = code_read ls k room all e in ([], found.0, refl, found.1, found.2, found.3, found.4)
tasks_read (suc n) [] k room all e = let z = ap (λ (s : Section). ended s k) (tasks_some n) in cc
tasks_read (suc n) (l ∷ ls) k room all e =
    let found = first_line l ls (Tasks (suc n)) k room all (ap (λ (s : Section). outcome (l ∷ ls) s k room) (sym (tasks_some n)) ∙ e) in
    let ws = found.0 in
    let said = by_some (λ t. (entry_word t ∷ [], tasks_left (suc n - 1))) (entry_line l) ws found.1 (sym (line_entry (suc n) l) ∙ found.2) in
    let t = said.0 in
    let next = found.3.1 in
    let less : suc n - 1 ≡ n = omega arith in
    let same : ws ≡ entry_word t ∷ [] = sym (pair_left said.2) in
    let later = tasks_read n ls (k + 1) (room - length ws) next.0 (ap (λ (j : ℕ). outcome ls (tasks_left j) (k + 1) (room - length ws)) (sym less) ∙ ap (λ (s : Section). outcome ls s (k + 1) (room - length ws)) (pair_right said.2) ∙ next.1) in
    let es = later.0 in
    let ss = later.1 in (
      t ∷ es,
      ss,
      ap suc later.2,
      later.3,
      (λ i. entry_read l t said.1 i ++ later.4 i) ∙ sym (append_assoc (printed_entry t) (flat_map printed_entry es) (flat_map printed_statement ss)),
      next.2 ∙ (λ i. same i ++ later.5 i),
      omega (arith, ap length next.2, length-append ws next.0, found.3.0, later.6),
    )

pub program_read : (text : List ℕ) (room : ℕ) (all : List ℕ) → reading room text ≡ Ok all → (p : Program) × Whole p × (text ≡ printed p) × (all ≡ program_words p) × (length all ≤ room)
program_read text room all e = go (lines_of text) (lines_joined text) e
  where
    go : (ls : List (List ℕ)) → text_of ls ≡ text → outcome ls Head 1 room ≡ Ok all → (p : Program) × Whole p × (text ≡ printed p) × (all ≡ program_words p) × (length all ≤ room)
    go [] is e = cc
    go (l ∷ ls) is e =
        let found = first_line l ls Head 1 room all e in
        let ws = found.0 in
        let said = by_some (λ h. (head_word h ∷ [], tasks_left h.tasks.value)) (head_line l) ws found.1 (sym (line_head l) ∙ found.2) in
        let h = said.0 in
        let next = found.3.1 in
        let same : ws ≡ head_word h ∷ [] = sym (pair_left said.2) in
        let later = tasks_read h.tasks.value ls 2 (room - length ws) next.0 (ap (λ (s : Section). outcome ls s 2 (room - length ws)) (pair_right said.2) ∙ next.1) in (
          record { head = h; entries = later.0; code = later.1 },
          record { tasks = later.2; formed = later.3 },
          sym is ∙ (λ i. head_read l h said.1 i ++ later.4 i),
          next.2 ∙ (λ i. same i ++ later.5 i),
          omega (arith, ap length next.2, length-append ws next.0, found.3.0, later.6),
        )

-- a text has one reading
same_split : {X : Type 0} (xs us ys vs : List X) → length xs ≡ length us → xs ++ ys ≡ us ++ vs → (xs ≡ us) × (ys ≡ vs)
same_split xs us ys vs long e = (
  sym (take_at xs ys (length xs) refl) ∙ ap (take (length xs)) e ∙ take_at us vs (length xs) (sym long),
  sym (drop_at xs ys (length xs) refl) ∙ ap (drop (length xs)) e ∙ drop_at us vs (length xs) (sym long),
)

module _ {X : Type 0} (print : X → List ℕ) (back : List ℕ → Option (Option X)) (Good : X → Type 0) (reads : (x : X) → Good x → back (print x) ≡ Some (Some x)) where
  pub map_back : (xs ys : List X) → AllByRecursion Good xs → AllByRecursion Good ys → map print xs ≡ map print ys → xs ≡ ys
  map_back [] [] a b e = refl
  map_back [] (y ∷ ys) a b e = cc
  map_back (x ∷ xs) [] a b e = cc
  map_back (x ∷ xs) (y ∷ ys) a b e =
      let p = reads x a.0 in
      let q = reads y b.0 in
      let tails = map_back xs ys a.1 b.1 (cc) in
      cc

all_any : {X : Type 0} (xs : List X) → AllByRecursion (λ (_ : X). Unit {0}) xs
all_any [] = tt
all_any (x ∷ xs) = (tt, all_any xs)

pub same_program : (text : List ℕ) (p q : Program) → Whole p → Whole q → text ≡ printed p → text ≡ printed q → p ≡ q
same_program text p q one two a b =
    let lines : lines_for p ≡ lines_for q = sym (lines_printed p) ∙ ap lines_of (sym a ∙ b) ∙ lines_printed q in
    let read = head_printed p.head in
    let back = head_printed q.head in
    let head : p.head ≡ q.head = cc in
    let long : length (map printed_entry p.entries) ≡ length (map printed_entry q.entries) = length-map p.entries printed_entry ∙ one.tasks ∙ ap (λ h. h.tasks.value) head ∙ sym two.tasks ∙ sym (length-map q.entries printed_entry) in
    let parts = same_split (map printed_entry p.entries) (map printed_entry q.entries) (map printed_statement p.code) (map printed_statement q.code) long (cc) in
    let entries = map_back printed_entry entry_line (λ _. Unit {0}) (λ e _. entry_printed e) p.entries q.entries (all_any p.entries) (all_any q.entries) parts.0 in
    let code = map_back printed_statement code_line Formed statement_printed p.code q.code one.formed two.formed parts.1 in
    (λ i. record { head = head i; entries = entries i; code = code i })
