-- The token that stands at a place of a text.
use Rattle.std.specs.Prelude.{ℕ, ◌+◌, Bool, cond, not, ◌&&◌, ◌||◌, List, take, drop, Some, None, Option, ◌==◌, slice_index}
use Rattle.std.specs.Char.{is_ascii_digit}
use Rattle.std.specs.List.{prefix_len}
use Rattle.lexer.specs.Numbers.{number_at}
use Rattle.lexer.specs.declared.Token.{Token}
use Rattle.lexer.specs.declared.Token.TheVariants.{Word, Number, PlusCell, Register}
use Rattle.lexer.specs.declared.Lexeme.{Lexeme}

-- what a token says, with the bytes that it borrows in place of the reference
pub data Said : Type 0 where
  word : List ℕ → Said
  plain : ℕ → Said
  plus : ℕ → Said
  register : Said

-- what a token of the code says
abbrev pub said : Token → Said
said (Word w) = word w.now
said (Number n) = plain n
said (PlusCell n) = plus n
said Register = register

-- what was said, with the place where it begins and the place after it
pub record Placed : Type 0 where
  pub token : Said
  pub place : ℕ
  pub next : ℕ

abbrev pub spoken : Option Token → Option Said
spoken None = None
spoken (Some t) = Some (said t)

abbrev pub placed : Option Lexeme → Option Placed
placed None = None
placed (Some x) = Some (record { token = said x.token; place = x.place; next = x.next })

-- a byte of a field: neither a space nor a line's end
abbrev pub in_field : ℕ → Bool
in_field c = not (c == 32 || c == 10)

-- what k says of a number that fills its field
abbrev pub whole : {X : Type 0} → (ℕ → X) → ℕ → Option (ℕ × ℕ) → Option X
whole k end None = None
whole k end (Some p) = cond (p.1 == end) (Some (k p.0)) None

-- what the n bytes from a place on say, by the first of them
abbrev pub said_by : List ℕ → ℕ → ℕ → ℕ → Option Said
said_by text at n c =
    cond (c == 43) (whole plus (at + n) (number_at text (at + 1)))
    (cond (is_ascii_digit c) (whole plain (at + n) (number_at text at))
    (cond (c == 114 && n == 1) (Some register)
    (Some (word (take n (drop at text))))))

-- a token from one place up to another
abbrev pub between : ℕ → ℕ → Option Said → Option Placed
between at end None = None
between at end (Some t) = Some (record { token = t; place = at; next = end })

-- a field is not empty, and goes up to a space, a line's end or the text's
abbrev pub field_by : List ℕ → ℕ → ℕ → Option Placed
field_by text at n = cond (n == 0) None (between at (at + n) (said_by text at n (slice_index text at)))

-- the token that begins at a place
abbrev pub token_at : List ℕ → ℕ → Option Placed
token_at text at = field_by text at (prefix_len in_field (drop at text))
