-- The judgement keeps its law: it refuses by the first rule of the table that is broken, at the first place.
use Rattle.std.proofs.Common.{◌≡◌, ℕ, suc, ◌+◌, ◌-◌, ◌<◌, ◌≤◌, true, false, cond, MatchOption, not, ◌&&◌, eqb, ltb, leb, List, [], ◌∷◌, ◌++◌, length, get_or, drop, is_some, Some, None, Ok, Err, Option, sym, refl, ap, ◌∙◌, subst, inl, inr, arith}
use Rattle.std.specs.List.{AllByRecursion}
use Rattle.std.proofs.lemmas.List.{at_drop_more, at_drop_all}
use Rattle.std.proofs.lemmas.Bool.{both_ways, cases_lt, le-ltb, ne_eqb, and_left, and_right, or_from}
use Rattle.words.specs.Entries.{entry_in}
use Rattle.words.specs.Instructions.{instruction_in}
use Rattle.lattice.specs.Meaning.{Meaning}
use Rattle.rulebook.specs.declared.Rule.{Rule}
use Rattle.rulebook.specs.declared.Rule.TheVariants as rule
use Rattle.rulebook.specs.declared.Refusal.{Refusal}
use Rattle.rulebook.specs.declared.Counts.{Counts}
use Rattle.rulebook.specs.Programs.{counts_of, tasks, in_tasks, in_code, entry_at, code_at}
use Rattle.rulebook.specs.Rules.{breaks, table, lost_entry, lost_target, unknown_code, ambiguous, ill_formed, is_end}
use Rattle.rulebook.specs.Judgement.{first_broken, refused_or, judged_by, judged, Kept, Accepted, Judgement}
use Rattle.rulebook.proofs.Firsts.{First, first_some, first_none, first_here, first_nowhere}

-- behind the last word there is no code and no task
pub no_code : (ws : List ℕ) (p : ℕ) → length ws ≤ p → in_code ws p ≡ false
no_code ws p l = and_right (ltb (tasks ws) p) (ltb p (length ws)) (le-ltb p (length ws) l)

pub no_task : (ws : List ℕ) (p : ℕ) → length ws ≤ p → in_tasks ws p ≡ false
no_task ws p l = and_right (leb 1 p) (leb p (tasks ws) && ltb p (length ws)) (and_right (leb p (tasks ws)) (ltb p (length ws)) (le-ltb p (length ws) l))

pub code_past : (ws : List ℕ) (p : ℕ) → length ws ≤ p → code_at ws p ≡ None
unfolding code_at
code_past ws p l = ap (λ b. cond b (instruction_in (get_or ws p 0)) None) (no_code ws p l)

pub entry_past : (ws : List ℕ) (p : ℕ) → length ws ≤ p → entry_at ws p ≡ None
unfolding entry_at
entry_past ws p l = ap (λ b. cond b (entry_in (get_or ws p 0)) None) (no_task ws p l)

module _ (M : Meaning) (ws : List ℕ) where
  -- no rule is broken behind the word count
  pub past : (k : Rule) (p : ℕ) → length ws < p → breaks M k ws p ≡ false
  past rule.WordCount p l = and_left (eqb p 0) _ (ne_eqb p 0 (λ e. omega arith))
  past rule.Head p l = and_left (eqb p 0) _ (ne_eqb p 0 (λ e. omega arith))
  past rule.Lattice p l = and_left (eqb p 0) _ (ne_eqb p 0 (λ e. omega arith))
  past rule.Tasks p l = or_from (in_tasks ws p && not (is_some (entry_at ws p))) (eqb p (length ws) && ltb (length ws) (tasks ws + 2)) (and_left (in_tasks ws p) _ (no_task ws p (omega arith))) (and_left (eqb p (length ws)) _ (ne_eqb p (length ws) (λ e. omega arith)))
  past rule.Form p l = or_from (in_code ws p && ill_formed ws p (code_at ws p)) (eqb p (length ws) && not (is_end (code_at ws (length ws - 1)))) (and_left (in_code ws p) _ (no_code ws p (omega arith))) (and_left (eqb p (length ws)) _ (ne_eqb p (length ws) (λ e. omega arith)))
  past rule.Targets p l = or_from (lost_entry ws (entry_at ws p)) (lost_target ws (code_at ws p)) (ap (lost_entry ws) (entry_past ws p (omega arith))) (ap (lost_target ws) (code_past ws p (omega arith)))
  past rule.Codes p l = ap (unknown_code M) (code_past ws p (omega arith))
  past rule.Triggers p l = ap (ambiguous M ws p) (code_past ws p (omega arith))

  -- a rule is kept where no place breaks it, and else the first place that does is found
  kept : (k : Rule) → first_broken M ws k ≡ None → Kept M ws k
  unfolding first_broken
  kept k e p = elim (cases_lt p (suc (length ws))) [
    | inl l ↦ first_none (breaks M k ws) (suc (length ws)) 0 e p (omega arith) (omega arith)
    | inr l ↦ past k p (omega arith)
  ]

  pub unbroken : (k : Rule) → Kept M ws k → first_broken M ws k ≡ None
  unfolding first_broken
  unbroken k f = first_nowhere (breaks M k ws) (suc (length ws)) 0 (λ p l m. f p)

  found : (k : Rule) (p : ℕ) → first_broken M ws k ≡ Some p → First (breaks M k ws) 0 p
  unfolding first_broken
  found k p e = first_some (breaks M k ws) (suc (length ws)) 0 p e

  pub finds : (k : Rule) (p : ℕ) → First (breaks M k ws) 0 p → first_broken M ws k ≡ Some p
  unfolding first_broken
  finds k p f = elim (cases_lt p (suc (length ws))) [
    | inl l ↦ first_here (breaks M k ws) (suc (length ws)) 0 p (omega arith) f
    | inr l ↦ absurd (both_ways (breaks M k ws p) (past k p (omega arith)) f.passes)
  ]

  -- what a search of the places up to the word count comes to
  pub searched : (k : Rule) (o : Option ℕ) → MatchOption o ((p : ℕ) → p < length ws + 1 → breaks M k ws p ≡ false) (λ p. (breaks M k ws p ≡ true) × ((q : ℕ) → q < p → breaks M k ws q ≡ false)) → o ≡ first_broken M ws k
  unfolding first_broken
  searched k None h = sym (first_nowhere (breaks M k ws) (suc (length ws)) 0 (λ p l m. h p (omega arith)))
  searched k (Some p) h = sym (finds k p (record { from = omega arith; passes = h.0; earlier = λ r l m. h.1 r m }))

  -- rules in turn
  accepts_by : (ks : List Rule) (c : Counts) → judged_by M ws ks ≡ Ok c → AllByRecursion (Kept M ws) ks × (c ≡ counts_of ws)
  unfolding judged_by
  accepts_by [] c e = (tt, cc)
  accepts_by (k ∷ ks) c e = go (first_broken M ws k) refl e (accepts_by ks c)
    where
      go : (o : Option ℕ) → first_broken M ws k ≡ o → refused_or M ws k o (judged_by M ws ks) ≡ Ok c → (judged_by M ws ks ≡ Ok c → AllByRecursion (Kept M ws) ks × (c ≡ counts_of ws)) → (Kept M ws k × AllByRecursion (Kept M ws) ks) × (c ≡ counts_of ws)
      go None s e next = let h = next e in ((kept k s, h.0), h.1)
      go (Some p) s e next = cc

  accepted_by : (ks : List Rule) → AllByRecursion (Kept M ws) ks → judged_by M ws ks ≡ Ok (counts_of ws)
  unfolding judged_by
  accepted_by [] a = refl
  accepted_by (k ∷ ks) a = ap (λ o. refused_or M ws k o (judged_by M ws ks)) (unbroken k a.0) ∙ accepted_by ks a.1

  refused_by : (before behind : List Rule) (f : Refusal) → AllByRecursion (Kept M ws) before → First (breaks M f.rule ws) 0 f.place → judged_by M ws (before ++ (f.rule ∷ behind)) ≡ Err f
  unfolding judged_by
  refused_by [] behind f a s = ap (λ o. refused_or M ws f.rule o (judged_by M ws behind)) (finds f.rule f.place s)
  refused_by (k ∷ before) behind f a s = ap (λ o. refused_or M ws k o (judged_by M ws (before ++ (f.rule ∷ behind)))) (unbroken k a.0) ∙ refused_by before behind f a.1 s

  -- how a list of rules is taken apart by a refusal
  record Apart (ks : List Rule) (f : Refusal) : Type 0 where
    pub before : List Rule
    pub behind : List Rule
    pub stands : ks ≡ before ++ (f.rule ∷ behind)
    pub others : AllByRecursion (Kept M ws) before
    pub here : First (breaks M f.rule ws) 0 f.place

  refuses_by : (ks : List Rule) (f : Refusal) → judged_by M ws ks ≡ Err f → Apart ks f
  unfolding judged_by
  refuses_by [] f e = cc
  refuses_by (k ∷ ks) f e = go (first_broken M ws k) refl e (refuses_by ks f)
    where
      go : (o : Option ℕ) → first_broken M ws k ≡ o → refused_or M ws k o (judged_by M ws ks) ≡ Err f → (judged_by M ws ks ≡ Err f → Apart ks f) → Apart (k ∷ ks) f
      go None s e next = let h = next e in record { before = k ∷ h.before; behind = h.behind; stands = ap (λ l. k ∷ l) h.stands; others = (kept k s, h.others); here = h.here }
      go (Some p) s e next =
          let same : ◌≡◌ {A = Refusal} (record { rule = k; place = p }) f = cc in
          record { before = []; behind = ks; stands = ap (λ (g : Refusal). g.rule ∷ ks) same; others = tt; here = subst (λ (g : Refusal). First (breaks M g.rule ws) 0 g.place) same (found k p s) }

  -- the table has every rule
  all_kept : AllByRecursion (Kept M ws) table → Accepted M ws
  all_kept a rule.WordCount = a.0
  all_kept a rule.Head = a.1.0
  all_kept a rule.Lattice = a.1.1.0
  all_kept a rule.Tasks = a.1.1.1.0
  all_kept a rule.Form = a.1.1.1.1.0
  all_kept a rule.Targets = a.1.1.1.1.1.0
  all_kept a rule.Codes = a.1.1.1.1.1.1.0
  all_kept a rule.Triggers = a.1.1.1.1.1.1.1.0

  each_kept : (ks : List Rule) → Accepted M ws → AllByRecursion (Kept M ws) ks
  each_kept [] a = tt
  each_kept (k ∷ ks) a = (a k, each_kept ks a)

  pub judgement : Judgement M ws (judged M ws)
  judgement = record {
    refuses = λ f e. let h = refuses_by table f e in record { before = h.before; behind = h.behind; stands = h.stands; others = h.others; broken = h.here.passes; first = λ q l. h.here.earlier q (omega arith) l };
    refused = λ f h. ap (judged_by M ws) h.stands ∙ refused_by h.before h.behind f h.others (record { from = omega arith; passes = h.broken; earlier = λ r l m. h.first r m });
    accepts = λ c e. let h = accepts_by table c e in (all_kept h.0, h.1);
    accepted = λ a. accepted_by table (each_kept table a);
  }

  -- rules in turn, as a loop goes through them
  module _ (ks : List Rule) (i : ℕ) where
    pub rules_left : i < length ks → judged_by M ws (drop i ks) ≡ refused_or M ws (get_or ks i rule.WordCount) (first_broken M ws (get_or ks i rule.WordCount)) (judged_by M ws (drop (i + 1) ks))
    unfolding judged_by
    rules_left l = at_drop_more (judged_by M ws) ks i rule.WordCount l

    pub rules_end : length ks ≤ i → judged_by M ws (drop i ks) ≡ Ok (counts_of ws)
    unfolding judged_by
    rules_end l = at_drop_all (judged_by M ws) ks i l
