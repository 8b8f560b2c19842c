-- Both keeps the laws of the two lattices below it.
use Rattle.std.proofs.Common.{◌≡◌, ℕ, ◌+◌, ◌-◌, ◌<◌, ◌≤◌, Bool, true, false, cond, ◌&&◌, ◌||◌, ltb, sym, ap, ◌∙◌, arith}
use Rattle.std.proofs.lemmas.Bool.{cond-true, cond-false, le-ltb, lt-ltb, or_parts, or_from, and_parts, and_from}
use Rattle.bits.specs.declared.Bits.{Bits}
use Rattle.bits.specs.Fits.{lowest}
use Rattle.lattice.specs.Meaning.{Meaning, Laws}
use Rattle.lattice.proofs.Order.{same_tests, rotated, rotated_back}
use Rattle.lattice.specs.Widths.{wide}
use Rattle.meanings.specs.Pairs.{even, half, both_clash, both_join, both_word, both_meaning}

module _ (K L : Meaning) (k : Laws K) (l : Laws L) where
  -- sides that do not clash are joined each
  joined : (a b : K.Value × L.Value) → both_clash K L a b ≡ false → both_join K L a b ≡ (K.join a.0 b.0, L.join a.1 b.1)
  joined a b n = cond-false (both_clash K L a b) a (K.join a.0 b.0, L.join a.1 b.1) n

  kept : (a b : K.Value × L.Value) → both_clash K L a b ≡ true → both_join K L a b ≡ a
  kept a b e = cond-true (both_clash K L a b) a (K.join a.0 b.0, L.join a.1 b.1) e

  apart : (a b : K.Value × L.Value) → both_clash K L a b ≡ false → (K.clash a.0 b.0 ≡ false) × (L.clash a.1 b.1 ≡ false)
  apart a b n = or_parts (K.clash a.0 b.0) (L.clash a.1 b.1) n

  unless : (a b : K.Value × L.Value) → K.clash a.0 b.0 ≡ false → L.clash a.1 b.1 ≡ false → both_clash K L a b ≡ false
  unless a b n m = or_from (K.clash a.0 b.0) (L.clash a.1 b.1) n m

  clash_sym : (a b : K.Value × L.Value) → both_clash K L a b ≡ both_clash K L b a
  clash_sym a b = λ i. k.clash_sym a.0 b.0 i || l.clash_sym a.1 b.1 i

  join_comm : (a b : K.Value × L.Value) → both_clash K L a b ≡ false → both_join K L a b ≡ both_join K L b a
  join_comm a b n =
      let m = apart a b n in
      joined a b n ∙ (λ i. (k.join_comm a.0 b.0 m.0 i, l.join_comm a.1 b.1 m.1 i)) ∙ sym (joined b a (sym (clash_sym a b) ∙ n))

  -- where no clash is met under one bracketing, none is met under the other
  turned : (a b c : K.Value × L.Value) → both_clash K L a b ≡ false → both_clash K L (both_join K L a b) c ≡ false → (both_clash K L b c ≡ false) × (both_clash K L a (both_join K L b c) ≡ false)
  turned a b c n m =
      let s = apart a b n in
      let t = apart (K.join a.0 b.0, L.join a.1 b.1) c (sym (ap (λ x. both_clash K L x c) (joined a b n)) ∙ m) in
      let u = rotated K k a.0 b.0 c.0 s.0 t.0 in
      let v = rotated L l a.1 b.1 c.1 s.1 t.1 in
      let w = unless b c u.0 v.0 in
      (w, ap (both_clash K L a) (joined b c w) ∙ unless a (K.join b.0 c.0, L.join b.1 c.1) u.1 v.1)

  turned_back : (a b c : K.Value × L.Value) → both_clash K L b c ≡ false → both_clash K L a (both_join K L b c) ≡ false → (both_clash K L a b ≡ false) × (both_clash K L (both_join K L a b) c ≡ false)
  turned_back a b c n m =
      let s = apart b c n in
      let t = apart a (K.join b.0 c.0, L.join b.1 c.1) (sym (ap (both_clash K L a) (joined b c n)) ∙ m) in
      let u = rotated_back K k a.0 b.0 c.0 s.0 t.0 in
      let v = rotated_back L l a.1 b.1 c.1 s.1 t.1 in
      let w = unless a b u.0 v.0 in
      (w, ap (λ x. both_clash K L x c) (joined a b w) ∙ unless (K.join a.0 b.0, L.join a.1 b.1) c u.1 v.1)

  clash_assoc : (a b c : K.Value × L.Value) → (both_clash K L a b || both_clash K L (both_join K L a b) c) ≡ (both_clash K L b c || both_clash K L a (both_join K L b c))
  clash_assoc a b c = same_tests (both_clash K L a b || both_clash K L (both_join K L a b) c) (both_clash K L b c || both_clash K L a (both_join K L b c))
      (λ e. let p = or_parts (both_clash K L a b) (both_clash K L (both_join K L a b) c) e in let q = turned a b c p.0 p.1 in or_from (both_clash K L b c) (both_clash K L a (both_join K L b c)) q.0 q.1)
      (λ e. let p = or_parts (both_clash K L b c) (both_clash K L a (both_join K L b c)) e in let q = turned_back a b c p.0 p.1 in or_from (both_clash K L a b) (both_clash K L (both_join K L a b) c) q.0 q.1)

  join_assoc : (a b c : K.Value × L.Value) → both_clash K L a b ≡ false → both_clash K L (both_join K L a b) c ≡ false → both_join K L (both_join K L a b) c ≡ both_join K L a (both_join K L b c)
  join_assoc a b c n m =
      let s = apart a b n in
      let e : both_clash K L (K.join a.0 b.0, L.join a.1 b.1) c ≡ false = sym (ap (λ x. both_clash K L x c) (joined a b n)) ∙ m in
      let t = apart (K.join a.0 b.0, L.join a.1 b.1) c e in
      let r = turned a b c n m in
      let f : both_clash K L a (K.join b.0 c.0, L.join b.1 c.1) ≡ false = sym (ap (both_clash K L a) (joined b c r.0)) ∙ r.1 in
      ap (λ x. both_join K L x c) (joined a b n)
      ∙ joined (K.join a.0 b.0, L.join a.1 b.1) c e
      ∙ (λ i. (k.join_assoc a.0 b.0 c.0 s.0 t.0 i, l.join_assoc a.1 b.1 c.1 s.1 t.1 i))
      ∙ sym (ap (both_join K L a) (joined b c r.0) ∙ joined a (K.join b.0 c.0, L.join b.1 c.1) f)

  below_is : (a b : K.Value × L.Value) → (K.below a.0 b.0 && L.below a.1 b.1) ≡ true → (both_clash K L a b ≡ false) × (both_join K L a b ≡ b)
  below_is a b e =
      let p = and_parts (K.below a.0 b.0) (L.below a.1 b.1) e in
      let q = k.below_is a.0 b.0 p.0 in
      let r = l.below_is a.1 b.1 p.1 in
      let n = unless a b q.0 r.0 in
      (n, joined a b n ∙ (λ i. (q.1 i, r.1 i)))

  is_below : (a b : K.Value × L.Value) → both_clash K L a b ≡ false → both_join K L a b ≡ b → (K.below a.0 b.0 && L.below a.1 b.1) ≡ true
  is_below a b n e =
      let m = apart a b n in
      let f = sym (joined a b n) ∙ e in
      and_from (K.below a.0 b.0) (L.below a.1 b.1) (k.is_below a.0 b.0 m.0 (ap (λ x. x.0) f)) (l.is_below a.1 b.1 m.1 (ap (λ x. x.1) f))

  -- a side's words stand among those of the pair
  word_left : (a : K.Value × L.Value) (i : ℕ) → K.width + L.width ≤ 64 → i < K.width → both_word K L a i ≡ K.word a.0 i
  word_left a i w h =
      cond-true (ltb i (wide K.width L.width)) (cond (ltb i K.width) (K.word a.0 i) (L.word a.1 (i - K.width))) (lowest 32 0) (lt-ltb i (wide K.width L.width) (omega arith))
      ∙ cond-true (ltb i K.width) (K.word a.0 i) (L.word a.1 (i - K.width)) (lt-ltb i K.width h)

  word_right : (a : K.Value × L.Value) (i : ℕ) → K.width + L.width ≤ 64 → i < L.width → both_word K L a (K.width + i) ≡ L.word a.1 i
  word_right a i w h =
      let at = K.width + i in
      cond-true (ltb at (wide K.width L.width)) (cond (ltb at K.width) (K.word a.0 at) (L.word a.1 (at - K.width))) (lowest 32 0) (lt-ltb at (wide K.width L.width) (omega arith))
      ∙ cond-false (ltb at K.width) (K.word a.0 at) (L.word a.1 (at - K.width)) (le-ltb at K.width (omega arith))
      ∙ ap (L.word a.1) (omega arith)

  words_same : wide K.width L.width ≤ 64 → (a b : K.Value × L.Value) → ((i : ℕ) → i < wide K.width L.width → both_word K L a i ≡ both_word K L b i) → a ≡ b
  words_same w a b f =
      let narrow : K.width + L.width ≤ 64 = omega arith in
      let left = k.words_same (omega arith) a.0 b.0 (λ i h. sym (word_left a i narrow h) ∙ f i (omega arith) ∙ word_left b i narrow h) in
      let right = l.words_same (omega arith) a.1 b.1 (λ i h. sym (word_right a i narrow h) ∙ f (K.width + i) (omega arith) ∙ word_right b i narrow h) in
      λ i. (left i, right i)

  -- a code that its side does not admit has that side's bottom
  value_other : (c : Bits 18) → (both_meaning K L).admits c ≡ false → (both_meaning K L).value c ≡ (both_meaning K L).bottom
  value_other c n = by (even c) n
    where
      by : (b : Bool) → cond b (K.admits (half c)) (L.admits (half c)) ≡ false → ◌≡◌ {A = K.Value × L.Value} (cond {A = K.Value × L.Value} b (K.value (half c), L.bottom) (K.bottom, L.value (half c))) (K.bottom, L.bottom)
      by true m = λ i. (k.value_other (half c) m i, L.bottom)
      by false m = λ i. (K.bottom, l.value_other (half c) m i)

  clash_self : (a : K.Value × L.Value) → both_clash K L a a ≡ false
  clash_self a = unless a a (k.clash_self a.0) (l.clash_self a.1)

  clash_bottom : (a : K.Value × L.Value) → both_clash K L (K.bottom, L.bottom) a ≡ false
  clash_bottom a = unless (K.bottom, L.bottom) a (k.clash_bottom a.0) (l.clash_bottom a.1)

  join_bottom : (a : K.Value × L.Value) → both_join K L (K.bottom, L.bottom) a ≡ a
  join_bottom a = joined (K.bottom, L.bottom) a (clash_bottom a) ∙ (λ i. (k.join_bottom a.0 i, l.join_bottom a.1 i))

  pub both_laws : Laws (both_meaning K L)
  both_laws = record {
    value_other = value_other;
    join_clash = kept;
    word_past = λ a i h. ap (λ (w : Bits 32). w.value) (cond-false (ltb i (wide K.width L.width)) (cond (ltb i K.width) (K.word a.0 i) (L.word a.1 (i - K.width))) (lowest 32 0) (le-ltb i (wide K.width L.width) h));
    clash_self = clash_self;
    join_self = λ a. joined a a (clash_self a) ∙ (λ i. (k.join_self a.0 i, l.join_self a.1 i));
    clash_sym = clash_sym;
    join_comm = join_comm;
    clash_assoc = clash_assoc;
    join_assoc = join_assoc;
    clash_bottom = clash_bottom;
    join_bottom = join_bottom;
    bottom_join = λ a. join_comm a (K.bottom, L.bottom) (clash_sym a (K.bottom, L.bottom) ∙ clash_bottom a) ∙ join_bottom a;
    below_is = below_is;
    is_below = is_below;
    words_same = words_same;
  }
