use Rattle.std.proofs.Common.{◌≡◌, ℕ, ◌^◌, ◌<◌, true, false, get_or, refl, rules}
use Rattle.std.proofs.lemmas.Bool.{both_ways, false_from_ne_true}
use Rattle.std.proofs.lemmas.Iterator.{YieldsList-from_range, cases_from_all}
use Rattle.meanings.specs.Sets.{within}
use Rattle.meanings.proofs.Slotwise.{all_is}
use Rattle.set.proofs.Members.{held, inside, held_within, within_held}
use Rattle.set.proofs.SetLattice.is_below.Goals as goal

pub returns : goal.returns
returns c =
    let first = c.args.self.now.words in
    let second = c.args.other.now.words in
    let Fails : ℕ → Type 0 = λ k. (inside (get_or first k 0) (get_or second k 0) ≡ false) × (get_or first k 0 < 2 ^ 32) × (get_or second k 0 < 2 ^ 32) in
    let found = cases_from_all _ _ c.all.result (λ k. inside (get_or first k 0) (get_or second k 0) ≡ true) Fails c.all.ensures.ran (YieldsList-from_range 0 8 8 refl refl) (λ k q call. ((λ j. (call.met.1.0 j, call.met.1.1 j)), search rules)) (λ k q call. (search rules, search rules, search rules)) in
    all_is (λ k. inside (get_or first k 0) (get_or second k 0) ≡ true) Fails 8 (within (held first) (held second)) (held_within first second)
    (λ k small f. false_from_ne_true (within (held first) (held second)) (λ t. both_ways (inside (get_or first k 0) (get_or second k 0)) f.0 (within_held first second k small f.1 f.2 t)))
    c.all.result found
