-- Lattices whose values never clash, and functions into them.
use Rattle.std.proofs.Common.{◌≡◌, ℕ, ◌<◌, ◌≤◌, Bool, true, false, ◌||◌, sym, ap, ◌∙◌}
use Rattle.std.proofs.lemmas.Bool.{both_ways}
use Rattle.bits.specs.declared.Bits.{Bits}
use Rattle.lattice.specs.Meaning.{Meaning, Laws}
use Rattle.meanings.specs.Every.{every}
use Rattle.meanings.proofs.Everywhere.{every_each, every_from}

pub record Joining (X : Type 0) (bottom : X) (join : X → X → X) (below : X → X → Bool) : Type 0 where
  pub self : (a : X) → join a a ≡ a
  pub comm : (a b : X) → join a b ≡ join b a
  pub assoc : (a b c : X) → join (join a b) c ≡ join a (join b c)
  pub unit : (a : X) → join bottom a ≡ a
  pub below_is : (a b : X) → below a b ≡ true → join a b ≡ b
  pub is_below : (a b : X) → join a b ≡ b → below a b ≡ true

-- slot by slot
pub pointwise : {X : Type 0} {bottom : X} {join : X → X → X} {below : X → X → Bool} {n : ℕ} → Joining X bottom join below
    → Joining (Bits n → X) (λ s. bottom) (λ a b s. join (a s) (b s)) (λ a b. every n (λ s. below (a s) (b s)))
pointwise {below = below} j = record {
  self = λ a i s. j.self (a s) i;
  comm = λ a b i s. j.comm (a s) (b s) i;
  assoc = λ a b c i s. j.assoc (a s) (b s) (c s) i;
  unit = λ a i s. j.unit (a s) i;
  below_is = λ a b e i s. j.below_is (a s) (b s) (every_each (λ t. below (a t) (b t)) e s) i;
  is_below = λ a b e. every_from (λ s. below (a s) (b s)) (λ s. j.is_below (a s) (b s) (ap (λ f. f s) e));
}

-- what remains to be shown of a lattice that never clashes
module _ (M : Meaning) (never : (a b : M.Value) → M.clash a b ≡ false) (j : Joining M.Value M.bottom M.join M.below) where
  no_clash : (a b c d : M.Value) → (M.clash a b || M.clash c d) ≡ false
  no_clash a b c d = λ i. never a b i || never c d i

  pub laws_of : ((c : Bits 18) → M.admits c ≡ false → M.value c ≡ M.bottom)
      → ((a : M.Value) (i : ℕ) → M.width ≤ i → (M.word a i).value ≡ 0)
      → (M.width ≤ 64 → (a b : M.Value) → ((i : ℕ) → i < M.width → M.word a i ≡ M.word b i) → a ≡ b)
      → Laws M
  laws_of other past same = record {
    value_other = other;
    join_clash = λ a b e. absurd (both_ways (M.clash a b) (never a b) e);
    word_past = past;
    clash_self = λ a. never a a;
    join_self = j.self;
    clash_sym = λ a b. never a b ∙ sym (never b a);
    join_comm = λ a b n. j.comm a b;
    clash_assoc = λ a b c. no_clash a b (M.join a b) c ∙ sym (no_clash b c a (M.join b c));
    join_assoc = λ a b c n m. j.assoc a b c;
    clash_bottom = λ a. never M.bottom a;
    join_bottom = j.unit;
    bottom_join = λ a. j.comm a M.bottom ∙ j.unit a;
    below_is = λ a b e. (never a b, j.below_is a b e);
    is_below = λ a b n e. j.is_below a b e;
    words_same = same;
  }
