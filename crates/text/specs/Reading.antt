-- What reading a text gives: its words, or a refusal's number and line.
use Rattle.std.specs.Prelude.{ℕ, Bool, ◌+◌, ◌-◌, cond, List, [], ◌∷◌, ◌++◌, length, take, drop, Ok, Err, Option, Result, ◌==◌, nat_le}
use Rattle.words.specs.Heads.{head_word}
use Rattle.words.specs.Entries.{entry_word}
use Rattle.lines.specs.declared.LineError.{LineError}
use Rattle.lines.specs.declared.LineError.TheVariants as error
use Rattle.lines.specs.declared.wording.LineWords.{LineWords}
use Rattle.lines.specs.Lines.{head_line, entry_line, code_line, statement_words, inside, judged as line_judged, told}
use Rattle.text.specs.declared.section.Section.{Section}
use Rattle.text.specs.declared.section.Section.TheVariants.{Head, Tasks, Code}
use Rattle.text.specs.declared.refusal.Cause.{Cause}
use Rattle.text.specs.declared.refusal.Cause.TheVariants.{Grammar, Range, Room}
use Rattle.text.specs.declared.refusal.Refusal.{Refusal}

-- each cause with its number
abbrev pub number : Cause → ℕ
number Grammar = 1
number Range = 2
number Room = 3

-- a refusal's number, and what it adds: the line
abbrev pub numbered : Refusal → ℕ × ℕ
numbered r = (number r.cause, r.line)

-- why a line is refused, as a cause to refuse its text
abbrev pub caused : LineError → Cause
caused error.Grammar = Grammar
caused error.Range = Range

abbrev pub of_line : {X : Type 0} → Result X LineError → Result X Cause
of_line (Ok x) = Ok x
of_line (Err e) = Err (caused e)

-- a line is refused for its grammar before it is refused for its numbers
abbrev pub judged : {X : Type 0} → Option (Option X) → Result X Cause
judged o = of_line (line_judged o)

-- what is made of what was read
abbrev pub onward : {X Y : Type 0} → (X → Y) → Result X Cause → Result Y Cause
onward f (Ok x) = Ok (f x)
onward f (Err c) = Err c

-- what a line says, in words, and what comes behind it
abbrev pub line_by : {X : Type 0} → (X → List ℕ × Section) → Option (Option X) → Result (List ℕ × Section) Cause
line_by f o = onward f (judged o)

-- so many task lines are to come, and then code
abbrev pub tasks_left : ℕ → Section
tasks_left n = cond (n == 0) Code (Tasks n)

-- the first line, a task line where n are to come, a line of code
abbrev pub head_in : List ℕ → Result (List ℕ × Section) Cause
head_in line = line_by (λ h. (head_word h ∷ [], tasks_left h.tasks.value)) (head_line line)

abbrev pub entry_in : ℕ → List ℕ → Result (List ℕ × Section) Cause
entry_in n line = line_by (λ e. (entry_word e ∷ [], tasks_left (n - 1))) (entry_line line)

abbrev pub code_in : List ℕ → Result (List ℕ × Section) Cause
code_in line = line_by (λ ws. (ws, Code)) (inside statement_words (code_line line))

-- a line, by the part of the text that it stands in
unfoldable pub line_in : Section → List ℕ → Result (List ℕ × Section) Cause
line_in Head line = head_in line
line_in (Tasks n) line = entry_in n line
line_in Code line = code_in line

abbrev pub told_line : Result (LineWords × Section) Cause → Result (List ℕ × Section) Cause
told_line (Ok p) = Ok (told p.0, p.1)
told_line (Err c) = Err c

-- the lines of a text, each with its end; what stands behind the last LF is a line that never ended
abbrev pub onto : ℕ → List (List ℕ) → List (List ℕ)
onto c [] = (c ∷ []) ∷ []
onto c (l ∷ ls) = (c ∷ l) ∷ ls

abbrev pub lines_of : List ℕ → List (List ℕ)
lines_of [] = []
lines_of (c ∷ cs) = cond (c == 10) ((c ∷ []) ∷ lines_of cs) (onto c (lines_of cs))

-- a line's end
abbrev pub ends_line : ℕ → Bool
ends_line c = c == 10

-- how long the first line is
abbrev pub line_len : List ℕ → ℕ
line_len [] = 0
line_len (c ∷ cs) = cond (c == 10) 1 (line_len cs + 1)

-- the text may end only where code may stand
abbrev pub ended : Section → ℕ → Result (List ℕ) Refusal
ended Head k = Err (record { cause = Grammar; line = k })
ended (Tasks n) k = Err (record { cause = Grammar; line = k })
ended Code k = Ok []

-- words in front of those of the lines behind
abbrev pub prefixed : List ℕ → Result (List ℕ) Refusal → Result (List ℕ) Refusal
prefixed ws (Ok more) = Ok (ws ++ more)
prefixed ws (Err e) = Err e

-- refused at line k
abbrev pub refused : Cause → ℕ → Result (List ℕ) Refusal
refused c k = Err (record { cause = c; line = k })

-- a line that is read finds room for its words, and the lines behind it follow
abbrev pub outcome_by : (Section → ℕ → ℕ → Result (List ℕ) Refusal) → ℕ → ℕ → Result (List ℕ × Section) Cause → Result (List ℕ) Refusal
outcome_by more k room (Err c) = refused c k
outcome_by more k room (Ok p) = cond (nat_le (length p.0) room) (prefixed p.0 (more p.1 (k + 1) (room - length p.0))) (refused Room k)

-- what the lines from line k on give, where so many words still find room
abbrev pub outcome : List (List ℕ) → Section → ℕ → ℕ → Result (List ℕ) Refusal
outcome [] s k room = ended s k
outcome (l ∷ ls) s k room = outcome_by (outcome ls) k room (line_in s l)

-- a text begins with its first line, which is line 1
abbrev pub reading : ℕ → List ℕ → Result (List ℕ) Refusal
reading room text = outcome (lines_of text) Head 1 room

-- how many words there are
abbrev pub counted : {E : Type 0} → Result (List ℕ) E → Result ℕ E
counted (Ok ws) = Ok (length ws)
counted (Err e) = Err e

-- words written over a buffer from a place on
abbrev pub pasted : List ℕ → ℕ → List ℕ → List ℕ
pasted out at ws = take at out ++ (ws ++ drop (at + length ws) out)

-- a buffer after reading: its front written, or as it was
abbrev pub written : {E : Type 0} → Result (List ℕ) E → List ℕ → List ℕ
written (Ok ws) out = ws ++ drop (length ws) out
written (Err e) out = out

-- the same with each refusal as its number and its line
abbrev pub answered : {X : Type 0} → Result X Refusal → Result X (ℕ × ℕ)
answered (Ok x) = Ok x
answered (Err e) = Err (numbered e)

-- what reading a text gives where so many words find room: its words, or a number and a line
abbrev pub read_text : ℕ → List ℕ → Result (List ℕ) (ℕ × ℕ)
read_text room text = answered (reading room text)
