-- Lift keeps the laws of the lattice below it.
use Rattle.std.proofs.Common.{◌≡◌, ℕ, ◌+◌, ◌-◌, ◌<◌, ◌≤◌, true, false, cond, ◌||◌, eqb, ltb, sym, refl, ap, ◌∙◌, arith}
use mathlib.Core.Bool.{or-false}
use Rattle.std.proofs.lemmas.Bool.{both_ways, cond-true, cond-false, le-ltb, lt-ltb, ne_eqb}
use Rattle.bits.specs.declared.Bits.{Bits}
use Rattle.bits.specs.Fits.{lowest}
use Rattle.lattice.specs.Meaning.{Meaning, Laws}
use Rattle.lattice.specs.Widths.{wide}
use Rattle.meanings.specs.Lifts.{Lifted, nothing_yet, told, flag, content, lift_clash, lift_join, lift_below, lift_word, lift_meaning}

module _ (M : Meaning) (l : Laws M) where
  join_clash : (a b : Lifted M.Value) → lift_clash M a b ≡ true → lift_join M a b ≡ a
  join_clash nothing_yet b e = absurd (both_ways false refl e)
  join_clash (told a) nothing_yet e = refl
  join_clash (told a) (told b) e = ap told (l.join_clash a b e)

  clash_self : (a : Lifted M.Value) → lift_clash M a a ≡ false
  clash_self nothing_yet = refl
  clash_self (told a) = l.clash_self a

  join_self : (a : Lifted M.Value) → lift_join M a a ≡ a
  join_self nothing_yet = refl
  join_self (told a) = ap told (l.join_self a)

  clash_sym : (a b : Lifted M.Value) → lift_clash M a b ≡ lift_clash M b a
  clash_sym nothing_yet nothing_yet = refl
  clash_sym nothing_yet (told b) = refl
  clash_sym (told a) nothing_yet = refl
  clash_sym (told a) (told b) = l.clash_sym a b

  join_comm : (a b : Lifted M.Value) → lift_clash M a b ≡ false → lift_join M a b ≡ lift_join M b a
  join_comm nothing_yet nothing_yet n = refl
  join_comm nothing_yet (told b) n = refl
  join_comm (told a) nothing_yet n = refl
  join_comm (told a) (told b) n = ap told (l.join_comm a b n)

  clash_assoc : (a b c : Lifted M.Value) → (lift_clash M a b || lift_clash M (lift_join M a b) c) ≡ (lift_clash M b c || lift_clash M a (lift_join M b c))
  clash_assoc nothing_yet b c = sym (or-false (lift_clash M b c))
  clash_assoc (told a) nothing_yet c = refl
  clash_assoc (told a) (told b) nothing_yet = or-false (M.clash a b)
  clash_assoc (told a) (told b) (told c) = l.clash_assoc a b c

  join_assoc : (a b c : Lifted M.Value) → lift_clash M a b ≡ false → lift_clash M (lift_join M a b) c ≡ false → lift_join M (lift_join M a b) c ≡ lift_join M a (lift_join M b c)
  join_assoc nothing_yet b c n m = refl
  join_assoc (told a) nothing_yet c n m = refl
  join_assoc (told a) (told b) nothing_yet n m = refl
  join_assoc (told a) (told b) (told c) n m = ap told (l.join_assoc a b c n m)

  bottom_join : (a : Lifted M.Value) → lift_join M a nothing_yet ≡ a
  bottom_join nothing_yet = refl
  bottom_join (told a) = refl

  below_is : (a b : Lifted M.Value) → lift_below M a b ≡ true → (lift_clash M a b ≡ false) × (lift_join M a b ≡ b)
  below_is nothing_yet b e = (refl, refl)
  below_is (told a) nothing_yet e = absurd (both_ways false refl e)
  below_is (told a) (told b) e = let d = l.below_is a b e in (d.0, ap told d.1)

  is_below : (a b : Lifted M.Value) → lift_clash M a b ≡ false → lift_join M a b ≡ b → lift_below M a b ≡ true
  is_below nothing_yet b n e = refl
  is_below (told a) nothing_yet n e = absurd (let z : ◌≡◌ {A = ℕ} 1 0 = ap (λ x. (flag M x).value) e in omega arith)
  is_below (told a) (told b) n e = l.is_below a b n (ap (content M) e)

  -- the first word, and the others
  word_first : (a : Lifted M.Value) → lift_word M a 0 ≡ flag M a
  word_first a = let some : 0 < wide 1 M.width = omega arith in cond-true (ltb 0 (wide 1 M.width)) (flag M a) (lowest 32 0) (lt-ltb 0 (wide 1 M.width) some)

  word_next : (a : Lifted M.Value) (i : ℕ) → 1 + i < wide 1 M.width → lift_word M a (1 + i) ≡ M.word (content M a) i
  word_next a i h =
      let rest : M.word (content M a) (1 + i - 1) ≡ M.word (content M a) i = ap (M.word (content M a)) (omega arith) in
      cond-true (ltb (1 + i) (wide 1 M.width)) (cond (eqb (1 + i) 0) (flag M a) (M.word (content M a) (1 + i - 1))) (lowest 32 0) (lt-ltb (1 + i) (wide 1 M.width) h)
      ∙ cond-false (eqb (1 + i) 0) (flag M a) (M.word (content M a) (1 + i - 1)) (ne_eqb (1 + i) 0 (λ e. absurd (omega arith)))
      ∙ rest

  by_content : (a b : Lifted M.Value) → flag M a ≡ flag M b → content M a ≡ content M b → a ≡ b
  by_content nothing_yet nothing_yet f e = refl
  by_content nothing_yet (told b) f e = absurd (let z : ◌≡◌ {A = ℕ} 0 1 = ap (λ (w : Bits 32). w.value) f in omega arith)
  by_content (told a) nothing_yet f e = absurd (let z : ◌≡◌ {A = ℕ} 1 0 = ap (λ (w : Bits 32). w.value) f in omega arith)
  by_content (told a) (told b) f e = ap told e

  words_same : wide 1 M.width ≤ 64 → (a b : Lifted M.Value) → ((i : ℕ) → i < wide 1 M.width → lift_word M a i ≡ lift_word M b i) → a ≡ b
  words_same w a b f =
      by_content a b (sym (word_first a) ∙ f 0 (omega arith) ∙ word_first b)
      (l.words_same (omega arith) (content M a) (content M b) (λ i h. let k : 1 + i < wide 1 M.width = omega arith in sym (word_next a i k) ∙ f (1 + i) k ∙ word_next b i k))

  pub lift_laws : Laws (lift_meaning M)
  lift_laws = record {
    value_other = λ c n. cond-false (M.admits c) (told (M.value c)) nothing_yet n;
    join_clash = join_clash;
    word_past = λ a i h. ap (λ (w : Bits 32). w.value) (cond-false (ltb i (wide 1 M.width)) (cond (eqb i 0) (flag M a) (M.word (content M a) (i - 1))) (lowest 32 0) (le-ltb i (wide 1 M.width) h));
    clash_self = clash_self;
    join_self = join_self;
    clash_sym = clash_sym;
    join_comm = join_comm;
    clash_assoc = clash_assoc;
    join_assoc = join_assoc;
    clash_bottom = λ a. refl;
    join_bottom = λ a. refl;
    bottom_join = bottom_join;
    below_is = below_is;
    is_below = is_below;
    words_same = words_same;
  }
