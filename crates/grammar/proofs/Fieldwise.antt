-- The fields of a line are read exactly where they are printed.
use Rattle.std.proofs.Common.{◌≡◌, ℕ, ◌+◌, ◌^◌, ◌<◌, ◌≤◌, Bool, true, false, cond, eqb, ltb, List, ◌∷◌, ◌++◌, length, get_or, drop, Some, None, Option, sym, refl, ap, ◌∙◌, inl, arith, pow_mono}
use Rattle.std.specs.Option.{option_map}
use Rattle.std.specs.Str.{bytes_eq}
use Rattle.std.proofs.lemmas.List.{append_assoc, drop-drop, drop_at, drop_more, length-drop, length-append}
use Rattle.std.proofs.lemmas.Slice.Eq.{bytes_eq-Decides}
use Rattle.std.proofs.lemmas.Bool.{cond-true, and_from, and_parts, lt-ltb, ltb-true, eq-eqb, eqb-true}
use Rattle.bits.specs.declared.Bits.{Bits}
use Rattle.bits.specs.Fits.{fitted}
use Rattle.bits.proofs.Same.{fitted_value, fitted_from}
use Rattle.words.specs.declared.instruction.CellOperand.{CellOperand}
use Rattle.words.specs.declared.instruction.CellOperand.TheVariants as cell
use Rattle.words.specs.declared.instruction.CodeOperand.{CodeOperand}
use Rattle.words.specs.declared.instruction.CodeOperand.TheVariants as code
use Rattle.lexer.specs.Tokens.{Said, word, plain, plus, register, Placed, token_at}
use Rattle.lexer.specs.Fields.{Field, stands, field_at, spelt, spelt_by, word_field, kept, only, number_in, cell_in, code_in, number_field, cell_field, code_field}
use Rattle.lines.specs.Forms.{both, beside, then_by, then, named_by, named}
use Rattle.grammar.specs.Printed.{printed_number, printed_cell, printed_code}
use Rattle.bits.proofs.Options.{some_same}
use Rattle.grammar.proofs.Spelling.{Stops, Wordlike, Proper, spelled, byte_first, token_printed, token_read}

-- fields that are read exactly where they are printed, with what has to stand behind them
pub record Reads {X : Type 0} (P : List ℕ → ℕ → Field X) (print : X → List ℕ) (Good : X → Type 0) (Behind : List ℕ → Type 0) : Type 0 where
  pub printed : (line : List ℕ) (at : ℕ) (x : X) (rest : List ℕ) → Good x → drop at line ≡ print x ++ rest → Behind rest → P line at ≡ Some (Some x, at + length (print x))
  pub read : (line : List ℕ) (at : ℕ) (x : X) (next : ℕ) → P line at ≡ Some (Some x, next) → (drop at line ≡ print x ++ drop next line) × (next ≡ at + length (print x)) × Good x

abbrev pub Any : {X : Type 0} → X → Type 0
Any x = Unit {0}

-- the byte at a place, and what stands behind it
pub byte_at : (line : List ℕ) (at c : ℕ) (rest : List ℕ) → drop at line ≡ c ∷ rest → (at < length line) × (get_or line at 0 ≡ c) × (drop (at + 1) line ≡ rest)
byte_at line at c rest e = (
  omega (arith, length-drop at line, ap length e),
  byte_first line at ∙ ap (λ (l : List ℕ). get_or l 0 0) e,
  sym (drop-drop 1 at line) ∙ ap (drop 1) e,
)

pub stands_at : (line : List ℕ) (at c : ℕ) (rest : List ℕ) → drop at line ≡ c ∷ rest → stands line at c ≡ true
stands_at line at c rest e = let here = byte_at line at c rest e in and_from _ _ (lt-ltb at (length line) here.0) (eq-eqb (get_or line at 0) c here.1)

stands_byte : (line : List ℕ) (at c : ℕ) → stands line at c ≡ true → drop at line ≡ c ∷ drop (at + 1) line
stands_byte line at c e =
    let parts = and_parts (ltb at (length line)) (eqb (get_or line at 0) c) e in
    drop_more line at 0 (ltb-true at (length line) parts.0) ∙ ap (λ (x : ℕ). x ∷ drop (at + 1) line) (eqb-true (get_or line at 0) c parts.1)

-- a field behind a space
field_printed : (line : List ℕ) (at : ℕ) (t : Said) (rest : List ℕ) → Proper t → drop at line ≡ 32 ∷ (spelled t ++ rest) → Stops rest → field_at line at ≡ Some (record { token = t; place = at + 1; next = at + 1 + length (spelled t) })
field_printed line at t rest p e stop = cond-true (stands line at 32) _ _ (stands_at line at 32 (spelled t ++ rest) e) ∙ token_printed line (at + 1) t rest p (byte_at line at 32 (spelled t ++ rest) e).2 stop

field_read : (line : List ℕ) (at : ℕ) (p : Placed) → field_at line at ≡ Some p → (drop at line ≡ 32 ∷ (spelled p.token ++ drop p.next line)) × (p.next ≡ at + 1 + length (spelled p.token))
field_read line at p e = go (stands line at 32) refl e
  where
    go : (b : Bool) → stands line at 32 ≡ b → cond b (token_at line (at + 1)) None ≡ Some p → (drop at line ≡ 32 ∷ (spelled p.token ++ drop p.next line)) × (p.next ≡ at + 1 + length (spelled p.token))
    go true s e = let behind = token_read line (at + 1) p e in (stands_byte line at 32 s ∙ ap (λ (l : List ℕ). 32 ∷ l) behind.0, behind.1)
    go false s e = cc

-- a kind of field, by the tokens that it takes
pub record Takes {X : Type 0} (f : Said → Option (Option X)) (print : X → List ℕ) : Type 0 where
  pub token : X → Said
  pub proper : (x : X) → Proper (token x)
  pub taken : (x : X) → f (token x) ≡ Some (Some x)
  pub shown : (x : X) → print x ≡ 32 ∷ spelled (token x)
  pub only_so : (t : Said) (x : X) → f t ≡ Some (Some x) → t ≡ token x

only_some : {X : Type 0} (f : Said → Option (Option X)) (o : Option Placed) (x : Option X) (next : ℕ) → only f o ≡ Some (x, next) → (p : Placed) × (o ≡ Some p) × (f p.token ≡ Some x) × (p.next ≡ next)
only_some f None x next e = cc
only_some f (Some p) x next e = go (f p.token) refl e
  where
    go : (v : Option (Option _)) → f p.token ≡ v → kept p.next v ≡ Some (x, next) → (q : Placed) × (Some p ≡ Some q) × (f q.token ≡ Some x) × (q.next ≡ next)
    go None is e = cc
    go (Some v) is e = (p, refl, is ∙ ap (λ (q : Option _ × ℕ). Some q.0) (some_same e), ap (λ (q : Option _ × ℕ). q.1) (some_same e))

pub takes_reads : {X : Type 0} (f : Said → Option (Option X)) (print : X → List ℕ) → Takes f print → Reads (λ line at. only f (field_at line at)) print Any Stops
takes_reads f print k = record {
  printed = λ line at x rest _ e stop.
      let t = k.token x in
      let n : at + 1 + length (spelled t) ≡ at + length (print x) = omega (arith, ap length (k.shown x)) in
      ap (only f) (field_printed line at t rest (k.proper x) (e ∙ ap (λ (l : List ℕ). l ++ rest) (k.shown x)) stop)
      ∙ ap (kept (at + 1 + length (spelled t))) (k.taken x)
      ∙ ap (λ (j : ℕ). Some (Some x, j)) n;
  read = λ line at x next e.
      let found = only_some f (field_at line at) (Some x) next e in
      let p = found.0 in
      let behind = field_read line at p found.1 in
      let is : p.token ≡ k.token x = k.only_so p.token x found.2 in
      let there : p.next ≡ next = found.3 in (
        behind.0 ∙ (λ i. 32 ∷ (spelled (is i) ++ drop (there i) line)) ∙ ap (λ (l : List ℕ). l ++ drop next line) (sym (k.shown x)),
        omega (arith, behind.1, ap (λ (t : Said). length (spelled t)) is, ap length (k.shown x)),
        tt,
      );
}

-- a number of a field has nine digits at most
pub small : {n : ℕ} → n ≤ 18 → (b : Bits n) → b.value < 10 ^ 9
small {n} le b = let f = b.fits in omega (arith, pow_mono {i = n} {j = 18} le)

mapped_from : {X Y : Type 0} (f : X → Y) (o : Option X) (y : Y) → option_map f o ≡ Some y → (x : X) × (o ≡ Some x) × (f x ≡ y)
mapped_from f None y e = cc
mapped_from f (Some x) y e = (x, refl, some_same e)

number_takes : (n : ℕ) → n ≤ 18 → Takes (number_in n) printed_number
number_takes n le = record {
  token = λ b. plain b.value;
  proper = λ b. small le b;
  taken = λ b. ap Some (fitted_value b);
  shown = λ b. refl;
  only_so = so;
}
  where
    so : (t : Said) (b : Bits n) → number_in n t ≡ Some (Some b) → t ≡ plain b.value
    so (word w) b e = cc
    so (plain v) b e = ap plain (fitted_from v b (some_same e))
    so (plus v) b e = cc
    so register b e = cc

cell_takes : Takes cell_in printed_cell
cell_takes = record { token = token; proper = proper; taken = taken; shown = shown; only_so = so }
  where
    token : CellOperand → Said
    token (cell.Fixed c) = plain c.value
    token (cell.Moved c) = plus c.value

    proper : (c : CellOperand) → Proper (token c)
    proper (cell.Fixed c) = small (omega arith) c
    proper (cell.Moved c) = small (omega arith) c

    taken : (c : CellOperand) → cell_in (token c) ≡ Some (Some c)
    taken (cell.Fixed c) = ap (λ (o : Option (Bits 8)). Some (option_map cell.Fixed o)) (fitted_value c)
    taken (cell.Moved c) = ap (λ (o : Option (Bits 8)). Some (option_map cell.Moved o)) (fitted_value c)

    shown : (c : CellOperand) → printed_cell c ≡ 32 ∷ spelled (token c)
    shown (cell.Fixed c) = refl
    shown (cell.Moved c) = refl

    so : (t : Said) (c : CellOperand) → cell_in t ≡ Some (Some c) → t ≡ token c
    so (word w) c e = cc
    so (plain v) c e = let found = mapped_from cell.Fixed (fitted 8 v) c (some_same e) in ap plain (fitted_from v found.0 found.1) ∙ ap token found.2
    so (plus v) c e = let found = mapped_from cell.Moved (fitted 8 v) c (some_same e) in ap plus (fitted_from v found.0 found.1) ∙ ap token found.2
    so register c e = cc

code_takes : Takes code_in printed_code
code_takes = record { token = token; proper = proper; taken = taken; shown = shown; only_so = so }
  where
    token : CodeOperand → Said
    token (code.Fixed v) = plain v.value
    token code.Register = register

    proper : (v : CodeOperand) → Proper (token v)
    proper (code.Fixed v) = small (omega arith) v
    proper code.Register = tt

    taken : (v : CodeOperand) → code_in (token v) ≡ Some (Some v)
    taken (code.Fixed v) = ap (λ (o : Option (Bits 18)). Some (option_map code.Fixed o)) (fitted_value v)
    taken code.Register = refl

    shown : (v : CodeOperand) → printed_code v ≡ 32 ∷ spelled (token v)
    shown (code.Fixed v) = refl
    shown code.Register = refl

    so : (t : Said) (v : CodeOperand) → code_in t ≡ Some (Some v) → t ≡ token v
    so (word w) v e = cc
    so (plain n) v e = let found = mapped_from code.Fixed (fitted 18 n) v (some_same e) in ap plain (fitted_from n found.0 found.1) ∙ ap token found.2
    so (plus n) v e = cc
    so register v e = ap token (some_same (some_same e))

pub number_reads : (n : ℕ) → n ≤ 18 → Reads (number_field n) printed_number Any Stops
number_reads n le = takes_reads (number_in n) printed_number (number_takes n le)

pub cell_reads : Reads cell_field printed_cell Any Stops
cell_reads = takes_reads cell_in printed_cell cell_takes

pub code_reads : Reads code_field printed_code Any Stops
code_reads = takes_reads code_in printed_code code_takes

-- a printed field begins with a space, so another may stand before it
pub cell_stops : (c : CellOperand) (rest : List ℕ) → Stops (printed_cell c ++ rest)
cell_stops (cell.Fixed c) rest = inl refl
cell_stops (cell.Moved c) rest = inl refl

pub code_stops : (v : CodeOperand) (rest : List ℕ) → Stops (printed_code v ++ rest)
code_stops (code.Fixed v) rest = inl refl
code_stops code.Register rest = inl refl

both_some : {X Y : Type 0} (x : Option X) (y : Option Y) (p : X × Y) → both x y ≡ Some p → (x ≡ Some p.0) × (y ≡ Some p.1)
both_some None y p e = cc
both_some (Some x) None p e = cc
both_some (Some x) (Some y) p e = (ap (λ (q : _ × _). Some q.0) (some_same e), ap (λ (q : _ × _). Some q.1) (some_same e))

beside_some : {X Y : Type 0} (x : Option X) (o : Field Y) (p : X × Y) (next : ℕ) → beside x o ≡ Some (Some p, next) → (x ≡ Some p.0) × (o ≡ Some (Some p.1, next))
beside_some x None p next e = cc
beside_some x (Some q) p next e =
    let parts = both_some x q.0 p (ap (λ (r : Option _ × ℕ). r.0) (some_same e)) in
    (parts.0, (λ i. Some (parts.1 i, ap (λ (r : Option _ × ℕ). r.1) (some_same e) i)))

-- two fields
module _ {X Y : Type 0} {P : List ℕ → ℕ → Field X} {Q : List ℕ → ℕ → Field Y} {p : X → List ℕ} {q : Y → List ℕ} {G : X → Type 0} {H : Y → Type 0} {S : List ℕ → Type 0} where
  pub then_some : Reads P p G Stops → Reads Q q H S → ((y : Y) → H y → (rest : List ℕ) → Stops (q y ++ rest)) → Reads (then P Q) (λ (z : X × Y). p z.0 ++ q z.1) (λ z. G z.0 × H z.1) S
  then_some one two stops = record { printed = printed; read = read }
    where
      printed : (line : List ℕ) (at : ℕ) (z : X × Y) (rest : List ℕ) → G z.0 × H z.1 → drop at line ≡ (p z.0 ++ q z.1) ++ rest → S rest → then P Q line at ≡ Some (Some z, at + length (p z.0 ++ q z.1))
      printed line at z rest good e stop =
          let x = z.0 in
          let y = z.1 in
          let here : drop at line ≡ p x ++ (q y ++ rest) = e ∙ append_assoc (p x) (q y) rest in
          let first = one.printed line at x (q y ++ rest) good.0 here (stops y good.1 rest) in
          let behind : drop (at + length (p x)) line ≡ q y ++ rest = sym (drop-drop (length (p x)) at line) ∙ ap (drop (length (p x))) here ∙ drop_at (p x) (q y ++ rest) (length (p x)) refl in
          let second = two.printed line (at + length (p x)) y rest good.1 behind stop in
          let n : at + length (p x) + length (q y) ≡ at + length (p x ++ q y) = omega (arith, length-append (p x) (q y)) in
          ap (then_by Q line) first
          ∙ ap (beside (Some x)) second
          ∙ ap (λ (k : ℕ). Some (Some (x, y), k)) n

      read : (line : List ℕ) (at : ℕ) (z : X × Y) (next : ℕ) → then P Q line at ≡ Some (Some z, next) → (drop at line ≡ (p z.0 ++ q z.1) ++ drop next line) × (next ≡ at + length (p z.0 ++ q z.1)) × (G z.0 × H z.1)
      read line at z next e = go (P line at) refl e
        where
          go : (o : Field X) → P line at ≡ o → then_by Q line o ≡ Some (Some z, next) → (drop at line ≡ (p z.0 ++ q z.1) ++ drop next line) × (next ≡ at + length (p z.0 ++ q z.1)) × (G z.0 × H z.1)
          go None is e = cc
          go (Some r) is e =
              let x = z.0 in
              let y = z.1 in
              let parts = beside_some r.0 (Q line r.1) z next e in
              let first = one.read line at x r.1 (is ∙ ap (λ (v : Option X). Some (v, r.1)) parts.0) in
              let second = two.read line r.1 y next parts.1 in (
                first.0 ∙ ap (λ (l : List ℕ). p x ++ l) second.0 ∙ sym (append_assoc (p x) (q y) (drop next line)),
                omega (arith, first.1, second.1, length-append (p x) (q y)),
                (first.2, second.2),
              )

  pub then_reads : Reads P p G Stops → Reads Q q H S → ((y : Y) (rest : List ℕ) → Stops (q y ++ rest)) → Reads (then P Q) (λ (z : X × Y). p z.0 ++ q z.1) (λ z. G z.0 × H z.1) S
  then_reads one two stops = then_some one two (λ y _ rest. stops y rest)

-- a field behind a word
module _ {X : Type 0} {P : List ℕ → ℕ → Field X} {p : X → List ℕ} {G : X → Type 0} {S : List ℕ → Type 0} where
  pub named_reads : (name : List ℕ) → Wordlike name → Reads P p G S → ((x : X) (rest : List ℕ) → Stops (p x ++ rest)) → Reads (named name P) (λ x. (32 ∷ name) ++ p x) G S
  named_reads name like one stops = record { printed = printed; read = read }
    where
      printed : (line : List ℕ) (at : ℕ) (x : X) (rest : List ℕ) → G x → drop at line ≡ ((32 ∷ name) ++ p x) ++ rest → S rest → named name P line at ≡ Some (Some x, at + length ((32 ∷ name) ++ p x))
      printed line at x rest good e stop =
          let here : drop at line ≡ (32 ∷ name) ++ (p x ++ rest) = e ∙ append_assoc (32 ∷ name) (p x) rest in
          let first = field_printed line at (word name) (p x ++ rest) like here (stops x rest) in
          let same : bytes_eq name name ≡ true = (bytes_eq-Decides name name).1 refl in
          let behind : drop (at + 1 + length name) line ≡ p x ++ rest = ap (λ (k : ℕ). drop k line) (omega arith) ∙ sym (drop-drop (length (32 ∷ name)) at line) ∙ ap (drop (length (32 ∷ name))) here ∙ drop_at (32 ∷ name) (p x ++ rest) (length (32 ∷ name)) refl in
          let second = one.printed line (at + 1 + length name) x rest good behind stop in
          let n : at + 1 + length name + length (p x) ≡ at + length ((32 ∷ name) ++ p x) = omega (arith, length-append (32 ∷ name) (p x)) in
          ap (λ (o : Option Placed). named_by P line (spelt_by name o)) first
          ∙ ap (named_by P line) (cond-true (bytes_eq name name) _ _ same)
          ∙ second
          ∙ ap (λ (k : ℕ). Some (Some x, k)) n

      word_some : (line : List ℕ) (at next : ℕ) (o : Option Placed) → field_at line at ≡ o → spelt_by name o ≡ Some next → (drop at line ≡ (32 ∷ name) ++ drop next line) × (next ≡ at + length (32 ∷ name))
      word_some line at next None is e = cc
      word_some line at next (Some f) is e = go f.token refl e
        where
          go : (t : Said) → f.token ≡ t → spelt name t f.next ≡ Some next → (drop at line ≡ (32 ∷ name) ++ drop next line) × (next ≡ at + length (32 ∷ name))
          go (plain v) t e = cc
          go (plus v) t e = cc
          go register t e = cc
          go (word w) t e = by (bytes_eq w name) refl e
            where
              by : (b : Bool) → bytes_eq w name ≡ b → cond b (Some f.next) None ≡ Some next → (drop at line ≡ (32 ∷ name) ++ drop next line) × (next ≡ at + length (32 ∷ name))
              by false s e = cc
              by true s e =
                  let behind = field_read line at f is in
                  let w_name : f.token ≡ word name = t ∙ ap word ((bytes_eq-Decides w name).0 s) in
                  let there : f.next ≡ next = some_same e in (
                    behind.0 ∙ (λ i. 32 ∷ (spelled (w_name i) ++ drop (there i) line)),
                    omega (arith, behind.1, ap (λ (t : Said). length (spelled t)) w_name),
                  )

      read : (line : List ℕ) (at : ℕ) (x : X) (next : ℕ) → named name P line at ≡ Some (Some x, next) → (drop at line ≡ ((32 ∷ name) ++ p x) ++ drop next line) × (next ≡ at + length ((32 ∷ name) ++ p x)) × G x
      read line at x next e = go (word_field name line at) refl e
        where
          go : (o : Option ℕ) → word_field name line at ≡ o → named_by P line o ≡ Some (Some x, next) → (drop at line ≡ ((32 ∷ name) ++ p x) ++ drop next line) × (next ≡ at + length ((32 ∷ name) ++ p x)) × G x
          go None is e = cc
          go (Some k) is e =
              let first = word_some line at k (field_at line at) refl is in
              let second = one.read line k x next e in (
                first.0 ∙ ap (λ (l : List ℕ). (32 ∷ name) ++ l) second.0 ∙ sym (append_assoc (32 ∷ name) (p x) (drop next line)),
                omega (arith, first.1, second.1, length-append (32 ∷ name) (p x)),
                second.2,
              )
