-- The longest words, by their bytes: the search stands near its limits there.
use Rattle.std.proofs.Common.{◌≡◌, ℕ, List, length, codes, sym, ap, arith}
use Rattle.std.proofs.lemmas.Slice.Eq.{HasBytesAt, text_from_reads}
use Rattle.lines.specs.Lines.{keyword_in}
use Rattle.lines.proofs.Keyword.named.Goals as goal

by_bytes : (word name : List ℕ) → length word ≡ length name → HasBytesAt word 0 name → keyword_in name ≡ keyword_in word
by_bytes word name long bytes = ap keyword_in (sym (text_from_reads word name long bytes))

pub returns-in-freeze : goal.returns-in-freeze
returns-in-freeze c = by_bytes c.args.word.now (codes "freeze") (omega arith) (grind arith)

pub returns-in-start : goal.returns-in-start
returns-in-start c = by_bytes c.args.word.now (codes "start") (omega arith) (grind arith)

pub returns-in-loop : goal.returns-in-loop
returns-in-loop c = by_bytes c.args.word.now (codes "loop") (omega arith) (grind arith)
