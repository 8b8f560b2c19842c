-- A token is read exactly where it is spelled out.
use Rattle.std.proofs.Common.{◌≡◌, ℕ, ◌+◌, ◌^◌, ◌<◌, ◌≤◌, Bool, true, false, cond, not, ◌&&◌, eqb, ltb, ◌⊎◌, List, [], ◌∷◌, ◌++◌, length, get_or, take, drop, Some, None, decimal, Option, sym, refl, ap, ◌∙◌, subst, inl, inr, add-zero, arith}
use Rattle.std.specs.Str.Parse.{AllDigits}
use Rattle.std.specs.Char.{is_ascii_digit, digit_value}
use Rattle.std.specs.List.{prefix_len, AllByRecursion}
use Rattle.std.proofs.lemmas.List.Sums.{prefix_len-le-length}
use Rattle.std.proofs.lemmas.List.{take_at, drop-drop, drop_more, take-append-drop, length-take-le, length-drop, get_or_append_left, get_or-drop}
use Rattle.std.proofs.lemmas.Str.Parse.{digit_from_value}
use Rattle.std.proofs.lemmas.Bool.{cond-true, cond-false, and_parts, and_left, eq-eqb, ne_eqb, eqb-true, eqb-false, cond_both, ltb-true, not-true}
use Rattle.lexer.specs.Numbers.{number_at}
use Rattle.lexer.specs.Tokens.{Said, word, plain, plus, register, Placed, in_field, whole, said_by, between, field_by, token_at}
use Rattle.bits.proofs.Options.{some_same}
use Rattle.lexer.proofs.Scans.{digit_is, leading_all, space_ends, no_space}
use Rattle.grammar.proofs.Numerals.{decimal_digits, decimal_long, number_printed, number_read}

-- every byte passes a test
abbrev pub passes : (ℕ → Bool) → List ℕ → Bool
passes p [] = true
passes p (c ∷ cs) = p c && passes p cs

pub passes_all : (p : ℕ → Bool) (cs : List ℕ) → passes p cs ≡ true → AllByRecursion (λ c. p c ≡ true) cs
passes_all p [] e = tt
passes_all p (c ∷ cs) e = let parts = and_parts (p c) (passes p cs) e in (parts.0, passes_all p cs parts.1)

-- a space or a line's end
abbrev pub Stops : List ℕ → Type 0
Stops rest = (get_or rest 0 0 ≡ 32) ⊎ (get_or rest 0 0 ≡ 10)

pub stops_digit : (rest : List ℕ) → Stops rest → is_ascii_digit (get_or rest 0 0) ≡ false
stops_digit rest (inl e) = ap is_ascii_digit e
stops_digit rest (inr e) = ap is_ascii_digit e

-- no byte is a space or a line's end
abbrev pub Clean : List ℕ → Type 0
Clean w = AllByRecursion (λ c. in_field c ≡ true) w

pub clean_digits : (ds : List ℕ) → AllDigits 10 ds → Clean ds
clean_digits [] d = tt
clean_digits (c ∷ ds) d = let range = digit_from_value c d.0 in (no_space c (λ e. omega (arith, range.0)) (λ e. omega (arith, range.0)), clean_digits ds d.1)

-- how a token is written
abbrev pub spelled : Said → List ℕ
spelled (word w) = w
spelled (plain v) = decimal v
spelled (plus v) = 43 ∷ decimal v
spelled register = 114 ∷ []

-- a word is told from the other tokens by its first byte
pub record Wordlike (w : List ℕ) : Type 0 where
  pub some : 0 < length w
  pub clean : Clean w
  pub no_plus : eqb (get_or w 0 0) 43 ≡ false
  pub no_digit : is_ascii_digit (get_or w 0 0) ≡ false
  pub no_mark : eqb (get_or w 0 0) 114 ≡ false

-- the same as one test, which computes at a word that is written out
abbrev word_test : List ℕ → Bool
word_test w = ltb 0 (length w) && (passes in_field w && (not (eqb (get_or w 0 0) 43) && (not (is_ascii_digit (get_or w 0 0)) && not (eqb (get_or w 0 0) 114))))

pub wordlike_by : (w : List ℕ) → word_test w ≡ true → Wordlike w
wordlike_by w e =
    let a = and_parts (ltb 0 (length w)) _ e in
    let b = and_parts (passes in_field w) _ a.1 in
    let c = and_parts (not (eqb (get_or w 0 0) 43)) _ b.1 in
    let d = and_parts (not (is_ascii_digit (get_or w 0 0))) _ c.1 in
    record {
      some = ltb-true 0 (length w) a.0;
      clean = passes_all in_field w b.0;
      no_plus = not-true _ c.0;
      no_digit = not-true _ d.0;
      no_mark = not-true _ d.1;
    }

abbrev pub Proper : Said → Type 0
Proper (word w) = Wordlike w
Proper (plain v) = v < 10 ^ 9
Proper (plus v) = v < 10 ^ 9
Proper register = Unit {0}

spelled_clean : (t : Said) → Proper t → Clean (spelled t)
spelled_clean (word w) p = p.clean
spelled_clean (plain v) p = clean_digits (decimal v) (decimal_digits v p)
spelled_clean (plus v) p = (refl, clean_digits (decimal v) (decimal_digits v p))
spelled_clean register p = (refl, tt)

spelled_some : (t : Said) → Proper t → 0 < length (spelled t)
spelled_some (word w) p = p.some
spelled_some (plain v) p = (decimal_long v p).0
spelled_some (plus v) p = omega arith
spelled_some register p = omega arith

-- the byte at a place is the first of what stands from there on
pub byte_first : (text : List ℕ) (at : ℕ) → get_or text at 0 ≡ get_or (drop at text) 0 0
byte_first text at = ap (λ (k : ℕ). get_or text k 0) (sym (add-zero at)) ∙ sym (get_or-drop at text 0 0)

first_is : (text : List ℕ) (at : ℕ) (w rest : List ℕ) → drop at text ≡ w ++ rest → 0 < length w → get_or text at 0 ≡ get_or w 0 0
first_is text at w rest e some = byte_first text at ∙ ap (λ (l : List ℕ). get_or l 0 0) e ∙ get_or_append_left w rest 0 0 some

first_digit : (ds : List ℕ) → AllDigits 10 ds → 0 < length ds → digit_value (get_or ds 0 0) < 10
first_digit [] d some = absurd (omega arith)
first_digit (c ∷ ds) d some = d.0

whole_is : (k : ℕ → Said) (end v next : ℕ) (o : Option (ℕ × ℕ)) → o ≡ Some (v, next) → next ≡ end → whole k end o ≡ Some (k v)
whole_is k end v next o e same = ap (whole k end) e ∙ cond-true (eqb next end) _ _ (eq-eqb next end same)

said_printed : (text : List ℕ) (at : ℕ) (t : Said) (rest : List ℕ) → Proper t → drop at text ≡ spelled t ++ rest → Stops rest → said_by text at (length (spelled t)) (get_or text at 0) ≡ Some t
said_printed text at (word w) rest p e stop =
    let first = first_is text at w rest e p.some in
    let c = get_or text at 0 in
    let n = length w in
    cond-false (eqb c 43) _ _ (ap (λ (x : ℕ). eqb x 43) first ∙ p.no_plus)
    ∙ cond-false (is_ascii_digit c) _ _ (ap is_ascii_digit first ∙ p.no_digit)
    ∙ cond-false (eqb c 114 && eqb n 1) _ _ (and_left (eqb c 114) (eqb n 1) (ap (λ (x : ℕ). eqb x 114) first ∙ p.no_mark))
    ∙ ap (λ (l : List ℕ). Some (word l)) (ap (take n) e ∙ take_at w rest n refl)
said_printed text at (plain v) rest p e stop =
    let c = get_or text at 0 in
    let d : digit_value c < 10 = subst (λ (x : ℕ). digit_value x < 10) (sym (first_is text at (decimal v) rest e (decimal_long v p).0)) (first_digit (decimal v) (decimal_digits v p) (decimal_long v p).0) in
    let range = digit_from_value c d in
    cond-false (eqb c 43) _ _ (ne_eqb c 43 (λ z. omega (arith, range.0)))
    ∙ cond-true (is_ascii_digit c) _ _ (digit_is c d)
    ∙ whole_is plain (at + length (decimal v)) v (at + length (decimal v)) (number_at text at) (number_printed v p text at rest e (stops_digit rest stop)) refl
said_printed text at (plus v) rest p e stop =
    let c = get_or text at 0 in
    let first : c ≡ 43 = first_is text at (43 ∷ decimal v) rest e (omega arith) in
    let behind : drop (at + 1) text ≡ decimal v ++ rest = sym (drop-drop 1 at text) ∙ ap (drop 1) e in
    cond-true (eqb c 43) _ _ (eq-eqb c 43 first)
    ∙ whole_is plus (at + length (43 ∷ decimal v)) v (at + 1 + length (decimal v)) (number_at text (at + 1)) (number_printed v p text (at + 1) rest behind (stops_digit rest stop)) (omega arith)
said_printed text at register rest p e stop =
    let first : get_or text at 0 ≡ 114 = first_is text at (114 ∷ []) rest e (omega arith) in
    ap (said_by text at 1) first

pub token_printed : (text : List ℕ) (at : ℕ) (t : Said) (rest : List ℕ) → Proper t → drop at text ≡ spelled t ++ rest → Stops rest → token_at text at ≡ Some (record { token = t; place = at; next = at + length (spelled t) })
token_printed text at t rest p e stop =
    let n : prefix_len in_field (drop at text) ≡ length (spelled t) = ap (prefix_len in_field) e ∙ leading_all in_field (spelled t) rest (spelled_clean t p) (space_ends (get_or rest 0 0) stop) in
    ap (field_by text at) n
    ∙ cond-false (eqb (length (spelled t)) 0) _ _ (ne_eqb (length (spelled t)) 0 (λ z. omega (arith, spelled_some t p)))
    ∙ ap (between at (at + length (spelled t))) (said_printed text at t rest p e stop)

whole_some : (k : ℕ → Said) (end : ℕ) (o : Option (ℕ × ℕ)) (t : Said) → whole k end o ≡ Some t → (v : ℕ) × (o ≡ Some (v, end)) × (t ≡ k v)
whole_some k end None t e = cc
whole_some k end (Some p) t e = go (eqb p.1 end) refl e
  where
    go : (b : Bool) → eqb p.1 end ≡ b → cond b (Some (k p.0)) None ≡ Some t → (v : ℕ) × (Some p ≡ Some (v, end)) × (t ≡ k v)
    go true same e = (p.0, ap (λ (n : ℕ). Some (p.0, n)) (eqb-true p.1 end same), sym (some_same e))
    go false same e = cc

-- what the bytes of a field say is how they are written
module _ (text : List ℕ) (at n : ℕ) (some : 0 < n) (within : n ≤ length (drop at text)) (t : Said) where
  abbrev Written : Type 0
  Written = (drop at text ≡ spelled t ++ drop (at + n) text) × (length (spelled t) ≡ n)

  head_here : drop at text ≡ get_or text at 0 ∷ drop (at + 1) text
  head_here = drop_more text at 0 (omega (arith, length-drop at text))

  said_plus : get_or text at 0 ≡ 43 → whole plus (at + n) (number_at text (at + 1)) ≡ Some t → Written
  said_plus c e =
      let found = whole_some plus (at + n) (number_at text (at + 1)) t e in
      let v = found.0 in
      let number = number_read text (at + 1) v (at + n) found.1 in
      let is = found.2 in (
        head_here ∙ (λ i. c i ∷ number.0 i) ∙ ap (λ (x : Said). spelled x ++ drop (at + n) text) (sym is),
        ap (λ (x : Said). length (spelled x)) is ∙ omega (arith, number.1),
      )

  said_plain : whole plain (at + n) (number_at text at) ≡ Some t → Written
  said_plain e =
      let found = whole_some plain (at + n) (number_at text at) t e in
      let v = found.0 in
      let number = number_read text at v (at + n) found.1 in
      let is = found.2 in (
        number.0 ∙ ap (λ (x : Said). spelled x ++ drop (at + n) text) (sym is),
        ap (λ (x : Said). length (spelled x)) is ∙ omega (arith, number.1),
      )

  said_mark : get_or text at 0 ≡ 114 → n ≡ 1 → ◌≡◌ {A = Option Said} (Some register) (Some t) → Written
  said_mark c one e =
      let is = some_same e in (
        head_here ∙ (λ i. c i ∷ drop (at + sym one i) text) ∙ ap (λ (x : Said). spelled x ++ drop (at + n) text) is,
        ap (λ (x : Said). length (spelled x)) (sym is) ∙ sym one,
      )

  said_word : ◌≡◌ {A = Option Said} (Some (word (take n (drop at text)))) (Some t) → Written
  said_word e =
      let is = some_same e in (
        sym (take-append-drop n (drop at text)) ∙ ap (λ (l : List ℕ). take n (drop at text) ++ l) (drop-drop n at text) ∙ ap (λ (x : Said). spelled x ++ drop (at + n) text) is,
        ap (λ (x : Said). length (spelled x)) (sym is) ∙ length-take-le n (drop at text) within,
      )

  said_read : said_by text at n (get_or text at 0) ≡ Some t → Written
  said_read =
      let c = get_or text at 0 in
      cond_both (eqb c 43) _ _ (λ o. o ≡ Some t → Written) (λ e. said_plus (eqb-true c 43 e))
      (λ _. cond_both (is_ascii_digit c) _ _ (λ o. o ≡ Some t → Written) (λ _. said_plain)
      (λ _. cond_both (eqb c 114 && eqb n 1) _ _ (λ o. o ≡ Some t → Written) (λ e. let parts = and_parts (eqb c 114) (eqb n 1) e in said_mark (eqb-true c 114 parts.0) (eqb-true n 1 parts.1))
      (λ _. said_word)))

pub token_read : (text : List ℕ) (at : ℕ) (p : Placed) → token_at text at ≡ Some p → (drop at text ≡ spelled p.token ++ drop p.next text) × (p.next ≡ at + length (spelled p.token))
token_read text at p e = go (eqb n 0) refl e
  where
    n : ℕ
    n = prefix_len in_field (drop at text)

    placed_at : (o : Option Said) → between at (at + n) o ≡ Some p → (o ≡ Some p.token) × (at + n ≡ p.next)
    placed_at None e = cc
    placed_at (Some t) e = (ap (λ (x : Placed). Some x.token) (some_same e), ap (λ (x : Placed). x.next) (some_same e))

    go : (b : Bool) → eqb n 0 ≡ b → cond b None (between at (at + n) (said_by text at n (get_or text at 0))) ≡ Some p → (drop at text ≡ spelled p.token ++ drop p.next text) × (p.next ≡ at + length (spelled p.token))
    go true z e = cc
    go false z e =
        let found = placed_at (said_by text at n (get_or text at 0)) e in
        let written = said_read text at n (positive n (eqb-false n 0 z)) (prefix_len-le-length in_field (drop at text)) p.token found.0 in (
          written.0 ∙ ap (λ (k : ℕ). spelled p.token ++ drop k text) found.1,
          sym found.1 ∙ ap (λ (k : ℕ). at + k) (sym written.1),
        )
      where
        positive : (n : ℕ) → (n ≡ 0 → ⊥) → 0 < n
        positive n h = omega arith
