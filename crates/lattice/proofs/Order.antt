-- What the laws give of the order. Rests on the laws alone.
use Rattle.std.proofs.Common.{◌≡◌, Bool, true, false, ◌||◌, sym, refl, ap, ◌∙◌}
use Rattle.lattice.specs.Meaning.{Meaning, Laws}
use Rattle.lattice.specs.Order.{Order}
use Rattle.std.proofs.lemmas.Bool.{or_parts, or_from, or_left}

-- two tests that cannot differ in one way, nor in the other
pub same_tests : (x y : Bool) → (x ≡ false → y ≡ false) → (y ≡ false → x ≡ false) → x ≡ y
same_tests true true f g = refl
same_tests true false f g = g refl
same_tests false y f g = sym (f refl)

module _ (M : Meaning) (l : Laws M) where
  -- where a and b do not clash, nor their join and c, b and c do not, nor a and their join
  pub rotated : (a b c : M.Value) → M.clash a b ≡ false → M.clash (M.join a b) c ≡ false → (M.clash b c ≡ false) × (M.clash a (M.join b c) ≡ false)
  rotated a b c e f = or_parts (M.clash b c) (M.clash a (M.join b c)) (sym (l.clash_assoc a b c) ∙ or_from (M.clash a b) (M.clash (M.join a b) c) e f)

  pub rotated_back : (a b c : M.Value) → M.clash b c ≡ false → M.clash a (M.join b c) ≡ false → (M.clash a b ≡ false) × (M.clash (M.join a b) c ≡ false)
  rotated_back a b c e f = or_parts (M.clash a b) (M.clash (M.join a b) c) (l.clash_assoc a b c ∙ or_from (M.clash b c) (M.clash a (M.join b c)) e f)

  pub below_self : (a : M.Value) → M.below a a ≡ true
  below_self a = l.is_below a a (l.clash_self a) (l.join_self a)

  pub below_same : (a b : M.Value) → M.below a b ≡ true → M.below b a ≡ true → a ≡ b
  below_same a b p q =
      let d = l.below_is b a q in
      sym d.1 ∙ l.join_comm b a d.0 ∙ (l.below_is a b p).1

  pub below_both : (a b c : M.Value) → M.below a c ≡ true → M.below b c ≡ true → M.clash a b ≡ false
  below_both a b c p q =
      let d = l.below_is a c p in
      let e = l.below_is b c q in
      let f : M.clash a (M.join b c) ≡ false = rw e.1 d.0 in
      (rotated_back a b c e.0 f).0

  pub below_grows : (a x v : M.Value) → M.below a x ≡ true → M.clash x v ≡ false → M.below a (M.join x v) ≡ true
  below_grows a x v p n =
      let b = l.below_is a x p in
      let e : M.clash (M.join a x) v ≡ false = rw b.1 n in
      l.is_below a (M.join x v) (rotated a x v b.0 e).1 (sym (l.join_assoc a x v b.0 e) ∙ ap (λ y. M.join y v) b.1)

  pub below_through : (a b c : M.Value) → M.below a b ≡ true → M.below b c ≡ true → M.below a c ≡ true
  below_through a b c p q =
      let d = l.below_is b c q in
      let e : M.below a (M.join b c) ≡ true = below_grows a b c p d.0 in
      rw d.1 at e

  pub clash_grows : (a x v : M.Value) → M.clash x a ≡ true → M.clash x v ≡ false → M.clash (M.join x v) a ≡ true
  clash_grows a x v p n =
      let m : M.clash v x ≡ false = l.clash_sym v x ∙ n in
      let e = l.clash_assoc v x a ∙ or_left (M.clash x a) (M.clash v (M.join x a)) p in
      rw (l.join_comm x v n) (rw m at e)

  -- two values that join a content one after the other join it in the other order too
  other_order : (x v w : M.Value) → M.clash x v ≡ false → M.clash (M.join x v) w ≡ false → (M.clash x w ≡ false) × (M.clash (M.join x w) v ≡ false)
  other_order x v w n m =
      let f = rotated x v w n m in
      let wv : M.clash w v ≡ false = l.clash_sym w v ∙ f.0 in
      let h : M.clash x (M.join w v) ≡ false = rw (l.join_comm w v wv) f.1 in
      rotated_back x w v wv h

  both_join : (x v w : M.Value) → (M.clash x v || M.clash (M.join x v) w) ≡ false → (M.clash x w || M.clash (M.join x w) v) ≡ false
  both_join x v w e =
      let n = or_parts (M.clash x v) (M.clash (M.join x v) w) e in
      let o = other_order x v w n.0 n.1 in
      or_from (M.clash x w) (M.clash (M.join x w) v) o.0 o.1

  pub clash_swap : (x v w : M.Value) → (M.clash x v || M.clash (M.join x v) w) ≡ (M.clash x w || M.clash (M.join x w) v)
  clash_swap x v w = same_tests (M.clash x v || M.clash (M.join x v) w) (M.clash x w || M.clash (M.join x w) v) (both_join x v w) (both_join x w v)

  pub join_swap : (x v w : M.Value) → (M.clash x v || M.clash (M.join x v) w) ≡ false → M.join (M.join x v) w ≡ M.join (M.join x w) v
  join_swap x v w e =
      let n = or_parts (M.clash x v) (M.clash (M.join x v) w) e in
      let f = rotated x v w n.0 n.1 in
      let o = other_order x v w n.0 n.1 in
      l.join_assoc x v w n.0 n.1 ∙ ap (M.join x) (l.join_comm v w f.0) ∙ sym (l.join_assoc x w v o.0 o.1)

  pub order : Order M
  order = record {
    below_self = below_self;
    below_same = below_same;
    below_through = below_through;
    below_both = below_both;
    below_grows = below_grows;
    clash_grows = clash_grows;
    clash_swap = clash_swap;
    join_swap = join_swap;
  }

  -- a join is above both of its parts, and below all that both are below
  pub join_above : (a b : M.Value) → M.clash a b ≡ false → (M.below a (M.join a b) ≡ true) × (M.below b (M.join a b) ≡ true)
  join_above a b n =
      let m : M.clash b a ≡ false = l.clash_sym b a ∙ n in
      (below_grows a a b (below_self a) n, rw (l.join_comm a b n) (below_grows b b a (below_self b) m))

  pub join_least : (a b u : M.Value) → M.below a u ≡ true → M.below b u ≡ true → M.below (M.join a b) u ≡ true
  join_least a b u p q =
      let d = l.below_is a u p in
      let e = l.below_is b u q in
      let f : M.clash a (M.join b u) ≡ false = rw e.1 d.0 in
      let r = rotated_back a b u e.0 f in
      l.is_below (M.join a b) u r.1 (l.join_assoc a b u r.0 r.1 ∙ ap (M.join a) e.1 ∙ d.1)
