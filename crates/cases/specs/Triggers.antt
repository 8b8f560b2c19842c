-- Worked cases of the rules, one row each, and what a row says: programs with one task that waits for one of two codes.
use Rattle.std.specs.Prelude.{◌≡◌, ℕ, ◌+◌, ◌*◌, ◌^◌, List, [], ◌∷◌, Ok, Err}
use Rattle.rulebook.specs.declared.Refusal.{Refusal}
use Rattle.rulebook.specs.Refusals.{numbered}
use Rattle.rulebook.specs.Judgement.{judged}
use Rattle.cases.specs.Stacks.{Stack, set, once, meaning_of}

pub data Program : Type 0 where
  -- a program is accepted, with so many cells and tasks
  accepted : Stack → List ℕ → ℕ → ℕ → Program
  -- a program is refused, with a number at a place
  refused : Stack → List ℕ → ℕ → ℕ → Program

-- what a row says
abbrev pub Judges : Program → Type 0
Judges (accepted s ws c t) = judged (meaning_of s) ws ≡ Ok (record { cells = c; tasks = t })
Judges (refused s ws n p) = (r : Refusal) × (judged (meaning_of s) ws ≡ Err r) × (numbered r ≡ (n, p))

-- one task, from place 2, that waits for one of two codes in cell 0 and ends
abbrev pub waiting : ℕ → ℕ → ℕ → List ℕ
waiting label first second = (0xF0000401 + label * 2 ^ 20) ∷ 0xE8008000 ∷ 0x20000002 ∷ (0x30000000 + first) ∷ (0x30000000 + second) ∷ 0 ∷ []

abbrev pub programs : List Program
programs =
    accepted once (waiting 3 7 8) 1 1
    ∷ refused set (waiting 1 7 8) 11 2
    ∷ refused set (waiting 1 7 7) 11 2
    ∷ refused once (waiting 3 7 7) 11 2
    ∷ []
