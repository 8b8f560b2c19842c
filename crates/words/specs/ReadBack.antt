-- Reading a word and writing it.
use Rattle.std.specs.Prelude.{◌≡◌, ℕ, Some, Option}

-- an item is read from a word exactly when it is written as that word
abbrev pub ReadBack : {X : Type 0} → (X → ℕ) → ℕ → Option X → Type 0
ReadBack spelled w o = (x : _) → (o ≡ Some x → spelled x ≡ w) × (spelled x ≡ w → o ≡ Some x)
