-- What `grow` prints for what it was given.
use Rattle.std.specs.Prelude.{ℕ, zero, suc, ◌/◌, ◌%◌, cond, List, [], ◌∷◌, ◌++◌, length, Some, None, Ok, Err, codes, decimal, Option, Result, nat_lt}
use Rattle.std.specs.List.{flat_map}
use Rattle.std.specs.Char.{digit_char}
use Rattle.text.specs.Reading.{read_text}
use Rattle.hub.specs.declared.listing.Listing.{Listing}
use Rattle.hub.specs.declared.objection.Objection.{Objection}
use Rattle.hub.specs.declared.objection.Objection.TheVariants.{Size, Label}
use Rattle.hub.specs.declared.served.Served.{Served}
use Rattle.hub.specs.Objections.{objected, refusal_text}
use Rattle.hub.specs.Serving.{meaning_of, name_of, served_in}

-- the lowest n digits of a number in base 16, in lower case
unfoldable pub hex_digits : ℕ → ℕ → List ℕ
hex_digits zero w = []
hex_digits (suc n) w = hex_digits n (w / 16) ++ (digit_char (w % 16) ∷ [])

-- a word's line
abbrev pub word_line : ℕ → List ℕ
word_line w = hex_digits 8 w ++ (10 ∷ [])

-- the lines `lattice NAME width W` and `words N`
abbrev pub headed : List ℕ → ℕ → ℕ → List ℕ
headed name width count = codes "lattice " ++ (name ++ (codes " width " ++ (decimal width ++ (codes "\nwords " ++ (decimal count ++ codes "\n")))))

-- what is printed for words over a lattice
abbrev pub listed : Served → List ℕ → List ℕ
listed l ws = headed (name_of l) (meaning_of l).width (length ws) ++ flat_map word_line ws

-- the line `refused N at P`
abbrev pub refusal : ℕ × ℕ → List ℕ
refusal p = refusal_text p ++ (10 ∷ [])

abbrev pub shown_over : Option Served → List ℕ → List ℕ
shown_over (Some l) ws = listed l ws
shown_over None ws = refusal (objected Label)

-- the words of a text, over the lattice that it names
abbrev pub program_shown : List ℕ → List ℕ
program_shown ws = shown_over (served_in ws) ws

abbrev pub shown : Result (List ℕ) (ℕ × ℕ) → List ℕ
shown (Ok ws) = program_shown ws
shown (Err p) = refusal p

-- what is printed of a program, or of why there is none
abbrev pub answered : Result Listing Objection → List ℕ
answered (Ok l) = listed l.served l.words.now
answered (Err o) = refusal (objected o)

-- an input of more than 60,000 bytes is refused as a whole; a program has 8,192 words at most
abbrev pub session_bytes : List ℕ → List ℕ
session_bytes input = cond (nat_lt 60000 (length input)) (refusal (objected Size)) (shown (read_text 8192 input))
