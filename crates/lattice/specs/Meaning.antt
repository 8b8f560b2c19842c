-- What a lattice means: a set of values with nine answers over it, and the laws of these answers.
use Rattle.std.specs.Prelude.{◌≡◌, ℕ, ◌<◌, ◌≤◌, Bool, true, false, ◌||◌}
use Rattle.bits.specs.declared.Bits.{Bits}

pub record Meaning : Type 1 where
  -- the values, whatever represents them
  pub Value : Type 0
  -- the value that nothing has been joined into
  pub bottom : Value
  -- whether a code names a value
  pub admits : Bits 18 → Bool
  -- the value that a code names
  pub value : Bits 18 → Value
  -- whether two values contradict each other
  pub clash : Value → Value → Bool
  -- what two values say together
  pub join : Value → Value → Value
  -- whether the second value says all that the first does
  pub below : Value → Value → Bool
  -- the number by which programs name the lattice
  pub label : Bits 8
  -- how many words tell a value
  pub width : ℕ
  -- a word of a value
  pub word : Value → ℕ → Bits 32

pub record Laws (M : Meaning) : Type 0 where
  -- a code that is not admitted has the value bottom
  pub value_other : (c : Bits 18) → M.admits c ≡ false → M.value c ≡ M.bottom
  -- clashing values join to the first of them
  pub join_clash : (a b : M.Value) → M.clash a b ≡ true → M.join a b ≡ a
  -- a word at or past the width is 0
  pub word_past : (a : M.Value) (i : ℕ) → M.width ≤ i → (M.word a i).value ≡ 0
  -- a value does not clash with itself, and joins itself to itself
  pub clash_self : (a : M.Value) → M.clash a a ≡ false
  pub join_self : (a : M.Value) → M.join a a ≡ a
  -- clashing is symmetric, and values that do not clash have one join in either order
  pub clash_sym : (a b : M.Value) → M.clash a b ≡ M.clash b a
  pub join_comm : (a b : M.Value) → M.clash a b ≡ false → M.join a b ≡ M.join b a
  -- three values clash under both bracketings or under neither, and under neither have one join
  pub clash_assoc : (a b c : M.Value) → (M.clash a b || M.clash (M.join a b) c) ≡ (M.clash b c || M.clash a (M.join b c))
  pub join_assoc : (a b c : M.Value) → M.clash a b ≡ false → M.clash (M.join a b) c ≡ false → M.join (M.join a b) c ≡ M.join a (M.join b c)
  -- bottom clashes with nothing, and joining it, on either side, changes nothing
  pub clash_bottom : (a : M.Value) → M.clash M.bottom a ≡ false
  pub join_bottom : (a : M.Value) → M.join M.bottom a ≡ a
  pub bottom_join : (a : M.Value) → M.join a M.bottom ≡ a
  -- a is below b exactly when they do not clash and their join is b
  pub below_is : (a b : M.Value) → M.below a b ≡ true → (M.clash a b ≡ false) × (M.join a b ≡ b)
  pub is_below : (a b : M.Value) → M.clash a b ≡ false → M.join a b ≡ b → M.below a b ≡ true
  -- at a width of at most 64, values all of whose words are equal are equal
  pub words_same : M.width ≤ 64 → (a b : M.Value) → ((i : ℕ) → i < M.width → M.word a i ≡ M.word b i) → a ≡ b
