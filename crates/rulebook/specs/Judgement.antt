-- The judgement of a program: which rule it breaks first, and where.
use Rattle.std.specs.Prelude.{◌≡◌, ℕ, zero, suc, ◌<◌, Bool, true, false, cond, List, [], ◌∷◌, ◌++◌, length, Some, None, Ok, Err, Option, Result}
use Rattle.std.specs.List.{AllByRecursion}
use Rattle.lattice.specs.Meaning.{Meaning}
use Rattle.rulebook.specs.declared.Rule.{Rule}
use Rattle.rulebook.specs.declared.Refusal.{Refusal}
use Rattle.rulebook.specs.declared.Counts.{Counts}
use Rattle.rulebook.specs.Programs.{counts_of}
use Rattle.rulebook.specs.Rules.{breaks, table}

-- the first of n numbers from p on that passes a test
unfoldable pub first_from : (ℕ → Bool) → ℕ → ℕ → Option ℕ
first_from test zero p = None
first_from test (suc n) p = cond (test p) (Some p) (first_from test n (suc p))

module _ (M : Meaning) (ws : List ℕ) where
  -- the first place where a program breaks a rule
  unfoldable pub first_broken : Rule → Option ℕ
  first_broken k = first_from (breaks M k ws) (suc (length ws)) 0

  abbrev pub refused_or : Rule → Option ℕ → Result Counts Refusal → Result Counts Refusal
  refused_or k (Some p) next = Err (record { rule = k; place = p })
  refused_or k None next = next

  -- what some rules, in turn, make of a program
  unfoldable pub judged_by : List Rule → Result Counts Refusal
  judged_by [] = Ok (counts_of ws)
  judged_by (k ∷ ks) = refused_or k (first_broken k) (judged_by ks)

  -- what all rules make of it: its counts, or a refusal
  abbrev pub judged : Result Counts Refusal
  judged = judged_by table

  -- a rule is broken nowhere
  abbrev pub Kept : Rule → Type 0
  Kept k = (p : ℕ) → breaks M k ws p ≡ false

  -- no rule is broken anywhere
  abbrev pub Accepted : Type 0
  Accepted = (k : Rule) → Kept k

  -- a rule is broken at a place and at no earlier one, and no rule before it in the table is broken anywhere
  pub record Refused (k : Rule) (p : ℕ) : Type 0 where
    pub before : List Rule
    pub behind : List Rule
    pub stands : table ≡ before ++ (k ∷ behind)
    pub others : AllByRecursion Kept before
    pub broken : breaks M k ws p ≡ true
    pub first : (q : ℕ) → q < p → breaks M k ws q ≡ false

  -- the judgement is this refusal exactly where it is due, and the counts exactly where no rule is broken
  pub record Judgement (r : Result Counts Refusal) : Type 0 where
    pub refuses : (f : Refusal) → r ≡ Err f → Refused f.rule f.place
    pub refused : (f : Refusal) → Refused f.rule f.place → r ≡ Err f
    pub accepts : (c : Counts) → r ≡ Ok c → Accepted × (c ≡ counts_of ws)
    pub accepted : Accepted → r ≡ Ok (counts_of ws)
