-- What the laws give of the order of values, and of values taken together.
use Rattle.std.specs.Prelude.{◌≡◌, true, false, ◌||◌, List, Some, None, Option}
use Rattle.bits.specs.declared.Bits.{Bits}
use Rattle.std.specs.List.{AllByRecursion}
use Rattle.lattice.specs.Meaning.{Meaning}

pub record Order (M : Meaning) : Type 0 where
  -- below is a partial order
  pub below_self : (a : M.Value) → M.below a a ≡ true
  pub below_same : (a b : M.Value) → M.below a b ≡ true → M.below b a ≡ true → a ≡ b
  pub below_through : (a b c : M.Value) → M.below a b ≡ true → M.below b c ≡ true → M.below a c ≡ true
  -- two values below a third do not clash
  pub below_both : (a b c : M.Value) → M.below a c ≡ true → M.below b c ≡ true → M.clash a b ≡ false
  -- what is below a content stays below as the content grows
  pub below_grows : (a x v : M.Value) → M.below a x ≡ true → M.clash x v ≡ false → M.below a (M.join x v) ≡ true
  -- what clashes with a content clashes with it as it grows
  pub clash_grows : (a x v : M.Value) → M.clash x a ≡ true → M.clash x v ≡ false → M.clash (M.join x v) a ≡ true
  -- two values joined into a content clash in both orders or in neither, and in neither the content ends the same
  pub clash_swap : (x v w : M.Value) → (M.clash x v || M.clash (M.join x v) w) ≡ (M.clash x w || M.clash (M.join x w) v)
  pub join_swap : (x v w : M.Value) → (M.clash x v || M.clash (M.join x v) w) ≡ false → M.join (M.join x v) w ≡ M.join (M.join x w) v

-- a value that the values of all these codes are below
abbrev pub Above : (M : Meaning) → List (Bits 18) → M.Value → Type 0
Above M cs u = AllByRecursion (λ c. M.below (M.value c) u ≡ true) cs

-- the least of these
pub record Least (M : Meaning) (cs : List (Bits 18)) (a : M.Value) : Type 0 where
  pub above : Above M cs a
  pub under : (u : M.Value) → Above M cs u → M.below a u ≡ true

-- what codes come to, in whatever order they are taken: the least value that their values are below, or none where there is no such value
abbrev pub Gathered : (M : Meaning) {X : Type 0} (means : X → M.Value) → List (Bits 18) → Option X → Type 0
Gathered M means cs (Some x) = Least M cs (means x)
Gathered M means cs None = (u : M.Value) → Above M cs u → ⊥
