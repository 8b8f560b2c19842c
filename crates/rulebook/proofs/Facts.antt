-- What every program has that breaks no rule, from the rules one by one.
use Rattle.std.proofs.Common.{◌≡◌, ℕ, ◌+◌, ◌-◌, ◌<◌, ◌≤◌, Bool, true, false, cond, not, ◌&&◌, ◌||◌, eqb, ltb, leb, List, length, get_or, drop, is_some, IfOk, Some, None, Ok, Err, Option, Result, sym, refl, ap, ◌∙◌, inl, inr, arith}
use Rattle.std.specs.List.{prefix_len}
use Rattle.std.proofs.lemmas.List.{get_or-take, get_or-drop, length-drop, length-take-le}
use Rattle.std.proofs.lemmas.List.Sums.{prefix_len-le-length}
use Rattle.std.proofs.lemmas.Bool.{both_ways, cases_eq, and_parts, and_from, or_parts, or_cases, not-false, ltb-true, ltb-false, leb-true, leb-false, eqb-true, eq-eqb, lt-ltb, le-leb}
use Rattle.bits.specs.declared.Bits.{Bits}
use Rattle.lattice.specs.Meaning.{Meaning}
use Rattle.words.specs.Fields.{kind}
use Rattle.words.specs.Instructions.{instruction_in, code_in}
use Rattle.words.specs.declared.entry.Entry.{Entry}
use Rattle.words.specs.declared.instruction.CellOperand.{CellOperand}
use Rattle.words.specs.declared.instruction.CodeOperand.{CodeOperand}
use Rattle.words.specs.declared.instruction.CodeOperand.TheVariants as code
use Rattle.words.specs.declared.instruction.Instruction.{Instruction}
use Rattle.words.specs.declared.instruction.Instruction.TheVariants.{End, Get, Trig, If, Start, Loop}
use Rattle.words.proofs.Trigs.{trig_read, trig_kind, code_fixed, code_register}
use Rattle.rulebook.specs.Programs.{tasks, in_tasks, in_code, entry_at, code_at, no_trigger, instruction_at, is_instruction, is_trigger, run, row_behind, counted_by}
use Rattle.rulebook.specs.Rules.{lacks_task, lacks_form, lacks_target, ill_formed, is_end, is_counted, good_row, between, none_from_register, from_register, lost_entry, lost_target, unknown_code, ambiguous, pairs_clash, trigger_value}
use Rattle.rulebook.specs.declared.Rule.TheVariants as rule
use Rattle.rulebook.specs.declared.Counts.{Counts}
use Rattle.rulebook.specs.declared.Refusal.{Refusal}
use Rattle.rulebook.specs.Judgement.{Accepted, Judgement}
use Rattle.rulebook.specs.Sound.{Sound, Trigger}
use Rattle.rulebook.proofs.Firsts.{at_some}
use Rattle.std.proofs.lemmas.List.Sums.{prefix_len_passes, prefix_len_stops, AllPass-from_list_all}
use Rattle.rulebook.proofs.Rows.{counted_get, end_is, plain, plain_or, counts_or, pairs_at}

-- of two tests that are not both passed, the second fails where the first passes
second_fails : (x y : Bool) → (x && y) ≡ false → x ≡ true → y ≡ false
second_fails true y e f = e
second_fails false y e f = absurd (both_ways false refl f)

some_is : {X : Type 0} (o : Option X) → is_some o ≡ true → (x : X) × (o ≡ Some x)
some_is None e = absurd (both_ways false refl e)
some_is (Some x) e = (x, refl)

module _ (ws : List ℕ) where
  inside : (p : ℕ) → tasks ws < p → p < length ws → in_code ws p ≡ true
  inside p h l = and_from (ltb (tasks ws) p) (ltb p (length ws)) (lt-ltb (tasks ws) p h) (lt-ltb p (length ws) l)

  code_here : (p : ℕ) → tasks ws < p → p < length ws → code_at ws p ≡ instruction_in (get_or ws p 0)
  unfolding code_at
  code_here p h l = ap (λ b. cond b (instruction_in (get_or ws p 0)) None) (inside p h l)

  -- what is read in the code stands in the code
  pub code_inside : (p : ℕ) (i : Instruction) → code_at ws p ≡ Some i → (tasks ws < p) × (p < length ws)
  unfolding code_at
  code_inside p i e = go (in_code ws p) refl e
    where
      go : (b : Bool) → in_code ws p ≡ b → cond b (instruction_in (get_or ws p 0)) None ≡ Some i → (tasks ws < p) × (p < length ws)
      go true f e = let h = and_parts (ltb (tasks ws) p) (ltb p (length ws)) f in (ltb-true (tasks ws) p h.0, ltb-true p (length ws) h.1)
      go false f e = cc

  -- a word of code of TRIG's kind is a TRIG, and no other is
  code_trig : (p : ℕ) (i : Instruction) → code_at ws p ≡ Some i → is_trigger (get_or ws p 0) ≡ true → (v : CodeOperand) × (i ≡ Trig v) × (code_in (get_or ws p 0) ≡ Some v)
  code_trig p i e k =
      let h = code_inside p i e in
      trig_read (get_or ws p 0) i (eqb-true (kind (get_or ws p 0)) 3 k) (sym (code_here p h.0 h.1) ∙ e)

  trig_code : (p : ℕ) (v : CodeOperand) → code_at ws p ≡ Some (Trig v) → (is_trigger (get_or ws p 0) ≡ true) × (code_in (get_or ws p 0) ≡ Some v)
  trig_code p v e =
      let h = code_inside p (Trig v) e in
      let w = get_or ws p 0 in
      let read = sym (code_here p h.0 h.1) ∙ e in
      let k = trig_kind w v read in
      let found = trig_read w (Trig v) k read in
      let same : ◌≡◌ {A = CodeOperand} found.0 v = let t = found.1 in cc in
      (eq-eqb (kind w) 3 k, found.2 ∙ ap Some same)

  instruction_code : (p : ℕ) (i : Instruction) → instruction_at ws p ≡ Some i → code_at ws p ≡ Some i
  instruction_code p i e = plain (code_at ws p) i e

  -- no instruction is a TRIG
  not_trig : (p : ℕ) (i : Instruction) (v : CodeOperand) → instruction_at ws p ≡ Some i → i ≡ Trig v → ⊥
  not_trig p i v e t =
      let none : no_trigger (code_at ws p) ≡ None = ap no_trigger (instruction_code p i e ∙ ap Some t) in
      cc

  module _ (M : Meaning) (a : Accepted M ws) where
    kept_tasks : (p : ℕ) → lacks_task ws p ≡ false
    kept_tasks = a rule.Tasks

    kept_form : (p : ℕ) → lacks_form ws p ≡ false
    kept_form = a rule.Form

    kept_targets : (p : ℕ) → lacks_target ws p ≡ false
    kept_targets = a rule.Targets

    kept_codes : (p : ℕ) → unknown_code M (code_at ws p) ≡ false
    kept_codes = a rule.Codes

    kept_triggers : (p : ℕ) → ambiguous M ws p (code_at ws p) ≡ false
    kept_triggers = a rule.Triggers

    long : tasks ws + 2 ≤ length ws
    long =
        let n = length ws in
        let none = (or_parts (in_tasks ws n && not (is_some (entry_at ws n))) (eqb n n && ltb n (tasks ws + 2)) (kept_tasks n)).1 in
        ltb-false n (tasks ws + 2) (second_fails (eqb n n) (ltb n (tasks ws + 2)) none (eq-eqb n n refl))

    well_formed : (p : ℕ) → tasks ws < p → p < length ws → ill_formed ws p (code_at ws p) ≡ false
    well_formed p h l =
        let n = length ws in
        let none = (or_parts (in_code ws p && ill_formed ws p (code_at ws p)) (eqb p n && not (is_end (code_at ws (n - 1)))) (kept_form p)).0 in
        second_fails (in_code ws p) (ill_formed ws p (code_at ws p)) none (inside p h l)

    -- each word of code says something
    says : (p : ℕ) → tasks ws < p → p < length ws → (i : Instruction) × (code_at ws p ≡ Some i)
    says p h l = go (code_at ws p) refl
      where
        go : (o : Option Instruction) → code_at ws p ≡ o → (i : Instruction) × (code_at ws p ≡ Some i)
        go None e = absurd (both_ways true (ap (ill_formed ws p) (sym e) ∙ well_formed p h l) refl)
        go (Some i) e = (i, e)

    last : code_at ws (length ws - 1) ≡ Some End
    last =
        let n = length ws in
        let none = (or_parts (in_code ws n && ill_formed ws n (code_at ws n)) (eqb n n && not (is_end (code_at ws (n - 1)))) (kept_form n)).1 in
        end_is (code_at ws (n - 1)) (not-false (is_end (code_at ws (n - 1))) (second_fails (eqb n n) (not (is_end (code_at ws (n - 1)))) none (eq-eqb n n refl)))

    -- the row of a GET
    module _ (p : ℕ) (c : CellOperand) (n : Bits 4) (get : code_at ws p ≡ Some (Get c n)) where
      at : (tasks ws < p) × (p < length ws)
      at = code_inside p (Get c n) get

      good : good_row n.value (row_behind ws p) ≡ true
      good = not-false (good_row n.value (row_behind ws p)) (ap (ill_formed ws p) (sym get) ∙ well_formed p at.0 at.1)

      row_parts : (between 1 n.value 8 ≡ true) × (eqb (length (row_behind ws p)) n.value ≡ true) × ((eqb n.value 1 || none_from_register (row_behind ws p)) ≡ true)
      row_parts =
          let full : Bool = eqb (length (row_behind ws p)) n.value in
          let free : Bool = eqb n.value 1 || none_from_register (row_behind ws p) in
          let one = and_parts (between 1 n.value 8) (full && free) good in
          let two = and_parts full free one.1 in
          (one.0, two.0, two.1)

      count_range : (1 ≤ n.value) × (n.value ≤ 8)
      count_range = let h = and_parts (leb 1 n.value) (leb n.value 8) row_parts.0 in (leb-true 1 n.value h.0, leb-true n.value 8 h.1)

      row_length : length (row_behind ws p) ≡ n.value
      row_length = eqb-true (length (row_behind ws p)) n.value row_parts.1

      run_is : run (drop (p + 1) ws) ≡ n.value
      unfolding run
      run_is = sym (length-take-le (prefix_len is_trigger (drop (p + 1) ws)) (drop (p + 1) ws) (prefix_len-le-length is_trigger (drop (p + 1) ws))) ∙ row_length

      row_fits : p + 1 + n.value ≤ length ws
      unfolding run
      row_fits = omega (arith, prefix_len-le-length is_trigger (drop (p + 1) ws), run_is, length-drop (p + 1) ws, at.1, count_range.0)

      row_word : (k : ℕ) → k < n.value → get_or (row_behind ws p) k 0 ≡ get_or ws (p + 1 + k) 0
      row_word k l = get_or-take (run (drop (p + 1) ws)) (drop (p + 1) ws) k 0 (omega (arith, run_is)) ∙ get_or-drop (p + 1) ws k 0

      row_kind : (k : ℕ) → k < n.value → is_trigger (get_or ws (p + 1 + k) 0) ≡ true
      unfolding run
      row_kind k l = ap is_trigger (sym (get_or-drop (p + 1) ws k 0)) ∙ prefix_len_passes is_trigger (drop (p + 1) ws) k 0 (omega (arith, run_is))

      -- the last word is no trigger, so that some word stands behind the row
      row_inside : p + 1 + n.value < length ws
      row_inside = elim (cases_eq (p + 1 + n.value) (length ws)) [
        | inl e ↦
            let k : ℕ = n.value - 1 in
            let here : p + 1 + k ≡ length ws - 1 = omega (arith, count_range.0, e) in
            let t = code_trig (p + 1 + k) End (ap (code_at ws) here ∙ last) (row_kind k (omega (arith, count_range.0))) in
            let z : ◌≡◌ {A = ℕ} 0 1 = let clash = t.1 in cc in
            absurd (omega arith)
        | inr ne ↦ omega (arith, row_fits)
      ]

      row_stops : is_trigger (get_or ws (p + 1 + n.value) 0) ≡ false
      unfolding run
      row_stops =
          let rest = drop (p + 1) ws in
          let stop = prefix_len_stops is_trigger rest 0 (omega (arith, run_is, length-drop (p + 1) ws, row_inside)) in
          ap is_trigger (sym (ap (λ (m : ℕ). get_or rest m 0) run_is ∙ get_or-drop (p + 1) ws n.value 0)) ∙ stop

      row_trigger : (k : ℕ) → k < n.value → (v : CodeOperand) × (code_at ws (p + 1 + k) ≡ Some (Trig v))
      row_trigger k l =
          let said = says (p + 1 + k) (omega (arith, at.0)) (omega (arith, row_fits)) in
          let t = code_trig (p + 1 + k) said.0 said.1 (row_kind k l) in
          (t.0, said.1 ∙ ap Some t.1)

    -- a word of code that is not of TRIG's kind is an instruction
    instruction_here : (p : ℕ) → tasks ws < p → p < length ws → ((v : CodeOperand) → code_at ws p ≡ Some (Trig v) → ⊥) → is_instruction ws p ≡ true
    instruction_here p h l none =
        let said = says p h l in
        elim (plain_or said.0) [
          | inl e ↦ ap (λ o. is_some (no_trigger o)) said.1 ∙ e
          | inr t ↦ absurd (none t.0 (said.1 ∙ ap Some t.1))
        ]

    behind_row : (p : ℕ) (c : CellOperand) (n : Bits 4) → code_at ws p ≡ Some (Get c n) → is_instruction ws (p + 1 + n.value) ≡ true
    behind_row p c n get =
        instruction_here (p + 1 + n.value) (omega (arith, (at p c n get).0)) (row_inside p c n get) (λ v t. both_ways _ (row_stops p c n get) (trig_code (p + 1 + n.value) v t).0)

    -- a TRIG is one of the words that some GET counts
    counted : (p : ℕ) (v : CodeOperand) → code_at ws p ≡ Some (Trig v) → (q : ℕ) × (q < p) × (p ≤ q + counted_by (code_at ws q))
    counted p v e =
        let h = code_inside p (Trig v) e in
        let some = not-false (is_counted ws p) (ap (ill_formed ws p) (sym e) ∙ well_formed p h.0 h.1) in
        let found = at_some (λ q. leb p (q + counted_by (code_at ws q))) p some in
        (found.0, found.1, leb-true p (found.0 + counted_by (code_at ws found.0)) found.2)

    -- no TRIG stands behind an instruction that counts nothing
    no_trig_behind : (p : ℕ) (i : Instruction) → instruction_at ws p ≡ Some i → counted_by (Some i) ≡ 0 → (v : CodeOperand) → code_at ws (p + 1) ≡ Some (Trig v) → ⊥
    no_trig_behind p i e none v t =
        let h = counted (p + 1) v t in
        let q = h.0 in
        let code = instruction_code p i e in
        elim (cases_eq q p) [
          | inl s ↦
              let nothing : counted_by (code_at ws q) ≡ 0 = ap (λ (r : ℕ). counted_by (code_at ws r)) s ∙ ap counted_by code ∙ none in
              omega (arith, h.2, nothing)
          | inr ne ↦
              let g = counted_get (code_at ws q) (omega (arith, h.1, h.2)) in
              let n = g.1 in
              let size : counted_by (code_at ws q) ≡ n.value = ap counted_by g.2 in
              let k : ℕ = p - q - 1 in
              let here : q + 1 + k ≡ p = omega (arith, h.1) in
              let kind = row_kind q g.0 n g.2 k (omega (arith, h.1, h.2, size)) in
              let found = code_trig p i code (ap (λ (r : ℕ). is_trigger (get_or ws r 0)) (sym here) ∙ kind) in
              not_trig p i found.0 e found.1
        ]

    behind_plain : (p : ℕ) (i : Instruction) → instruction_at ws p ≡ Some i → counted_by (Some i) ≡ 0 → (i ≡ End → ⊥) → is_instruction ws (p + 1) ≡ true
    behind_plain p i e none other =
        let code = instruction_code p i e in
        let h = code_inside p i code in
        let more : p + 1 < length ws = elim (cases_eq (p + 1) (length ws)) [
          | inl s ↦ absurd (other (let back : p ≡ length ws - 1 = omega arith in cc last))
          | inr ne ↦ omega (arith, h.1)
        ] in
        instruction_here (p + 1) (omega (arith, h.0)) more (no_trig_behind p i e none)

    successors : (p : ℕ) (i : Instruction) → instruction_at ws p ≡ Some i → (i ≡ End → ⊥) → is_instruction ws (p + 1 + counted_by (Some i)) ≡ true
    successors p i e other = elim (counts_or i) [
      | inl g ↦ ap (λ (j : Instruction). is_instruction ws (p + 1 + counted_by (Some j))) g.2 ∙ behind_row p g.0 g.1 (instruction_code p i e ∙ ap Some g.2)
      | inr none ↦ let here : p + 1 + counted_by (Some i) ≡ p + 1 = omega (arith, none) in ap (is_instruction ws) here ∙ behind_plain p i e none other
    ]

    entries : (t : ℕ) → t < tasks ws → (e : Entry) × (entry_at ws (t + 1) ≡ Some e) × (is_instruction ws e.place.value ≡ true)
    entries t h =
        let p : ℕ = t + 1 in
        let n = length ws in
        let here = and_from (leb 1 p) (leb p (tasks ws) && ltb p n) (le-leb 1 p (omega arith)) (and_from (leb p (tasks ws)) (ltb p n) (le-leb p (tasks ws) (omega arith)) (lt-ltb p n (omega (arith, long)))) in
        let none = (or_parts (in_tasks ws p && not (is_some (entry_at ws p))) (eqb p n && ltb n (tasks ws + 2)) (kept_tasks p)).0 in
        let some = some_is (entry_at ws p) (not-false (is_some (entry_at ws p)) (second_fails (in_tasks ws p) (not (is_some (entry_at ws p))) none here)) in
        let found = (or_parts (lost_entry ws (entry_at ws p)) (lost_target ws (code_at ws p)) (kept_targets p)).0 in
        (some.0, some.1, not-false (is_instruction ws some.0.place.value) (ap (lost_entry ws) (sym some.1) ∙ found))

    -- what an instruction names is there
    target : (p : ℕ) (i : Instruction) → instruction_at ws p ≡ Some i → lost_target ws (Some i) ≡ false
    target p i e = ap (lost_target ws) (sym (instruction_code p i e)) ∙ (or_parts (lost_entry ws (entry_at ws p)) (lost_target ws (code_at ws p)) (kept_targets p)).1

    clash : (p : ℕ) (n : Bits 4) (j k : ℕ) (v w : Bits 18) → j < k → Trigger ws p n j (code.Fixed v) → Trigger ws p n k (code.Fixed w) → M.clash (M.value v) (M.value w) ≡ true
    clash p n j k v w h s t =
        let get = instruction_code p (Get t.cell n) t.get in
        let row = row_behind ws p in
        let pairs = not-false (pairs_clash M row) (ap (ambiguous M ws p) (sym get) ∙ kept_triggers p) in
        let both = pairs_at M row j k h (omega (arith, row_length p t.cell n get, t.within)) pairs in
        let first : trigger_value M (get_or row j 0) ≡ M.value v = ap (trigger_value M) (row_word p t.cell n get j (omega (arith, t.within))) ∙ ap M.value (code_fixed _ v (trig_code (p + 1 + j) (code.Fixed v) s.word).1) in
        let second : trigger_value M (get_or row k 0) ≡ M.value w = ap (trigger_value M) (row_word p t.cell n get k t.within) ∙ ap M.value (code_fixed _ w (trig_code (p + 1 + k) (code.Fixed w) t.word).1) in
        (λ i. M.clash (sym first i) (sym second i)) ∙ both

    alone : (p : ℕ) (n : Bits 4) (k : ℕ) → Trigger ws p n k code.Register → n.value ≡ 1
    alone p n k t =
        let get = instruction_code p (Get t.cell n) t.get in
        let row = row_behind ws p in
        elim (or_cases (eqb n.value 1) (none_from_register row) (row_parts p t.cell n get).2) [
          | inl e ↦ eqb-true n.value 1 e
          | inr e ↦
              let marked = code_register (get_or ws (p + 1 + k) 0) (trig_code (p + 1 + k) code.Register t.word).1 in
              let bare = AllPass-from_list_all (λ w. not (from_register w)) row e k 0 (omega (arith, row_length p t.cell n get, t.within)) in
              let same = ap (λ (w : ℕ). not (from_register w)) (row_word p t.cell n get k t.within) in
              absurd (both_ways true (sym (sym same ∙ bare) ∙ ap not marked) refl)
        ]

    pub sound : Sound M ws
    sound = record {
      long = long;
      entries = entries;
      if_places = λ p n q e. not-false (is_instruction ws q.value) (target p (If n q) e);
      loop_places = λ p n q e. not-false (is_instruction ws q.value) (target p (Loop n q) e);
      successors = successors;
      start_tasks = λ p t e. leb-false (tasks ws) t.value (target p (Start t) e);
      get_counts = λ p c n e. count_range p c n (instruction_code p (Get c n) e);
      get_triggers = λ p c n e k l. let t = row_trigger p c n (instruction_code p (Get c n) e) k l in (t.0, record { cell = c; get = e; within = l; word = t.1 });
      admitted = λ p n k v t. not-false (M.admits v) (ap (unknown_code M) (sym t.word) ∙ kept_codes (p + 1 + k));
      clash = clash;
      alone = alone;
    }

-- a program whose judgement is its counts is sound
pub sound_made : (M : Meaning) (ws : List ℕ) (r : Result Counts Refusal) → Judgement M ws r → IfOk r (λ _. Sound M ws)
sound_made M ws (Ok c) j = sound ws M (j.accepts c refl).0
sound_made M ws (Err f) j = tt
