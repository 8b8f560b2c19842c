-- Widths of stacked lattices.
use Rattle.std.specs.Prelude.{ℕ, ◌+◌, min}

-- widths add up, and a sum above 64 is told as 65
abbrev pub wide : ℕ → ℕ → ℕ
wide m n = min (m + n) 65
