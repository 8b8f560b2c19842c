use Rattle.std.proofs.Common.{◌≡◌, ℕ, true, false, leb, get_or, refl, rules}
use Rattle.std.proofs.lemmas.Iterator.{YieldsList-from_range, cases_from_all}
use Rattle.bits.specs.declared.Bits.{Bits}
use Rattle.bits.specs.Fits.{lowest}
use Rattle.meanings.specs.Every.{every}
use Rattle.meanings.proofs.Everywhere.{every_from, every_fails}
use Rattle.meanings.proofs.Slotwise.{all_is}
use Rattle.versions.proofs.VersionsLattice.is_below.Goals as goal

pub returns : goal.returns
returns c =
    let test = λ (k : ℕ). leb (get_or c.args.self.now.counts k (lowest 15 0)).value (get_or c.args.other.now.counts k (lowest 15 0)).value in
    let each = λ (s : Bits 3). test s.value in
    let found = cases_from_all _ _ c.all.result (λ k. test k ≡ true) (λ k. test k ≡ false) c.all.ensures.ran (YieldsList-from_range 0 8 8 refl refl) (λ k q call. ((λ j. (call.met.1.0 j, call.met.1.1 j)), search rules)) (λ k q call. search rules) in
    all_is (λ k. test k ≡ true) (λ k. test k ≡ false) 8 (every 3 each) (λ f. every_from each (λ s. f s.value s.fits)) (λ k small e. every_fails each (record { value = k; fits = small }) e) c.all.result found
