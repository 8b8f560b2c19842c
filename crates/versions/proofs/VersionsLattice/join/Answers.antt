use Rattle.std.proofs.Common.{ℕ, get_or, rules}
use Rattle.bits.specs.Fits.{lowest}
use Rattle.meanings.specs.Versions.{larger}
use Rattle.meanings.proofs.Slotwise.{made}
use Rattle.versions.proofs.VersionsLattice.join.Goals as goal

pub returns : goal.returns
returns c =
    let count = λ (k : ℕ). larger (get_or c.args.self.now.counts k (lowest 15 0)) (get_or c.args.other.counts k (lowest 15 0)) in
    λ i s. made _ _ count 8 (λ k x q small call. ((λ j. (call.met.1.0 j, call.met.1.1 j)), search rules)) c.from_fn-self.result (lowest 15 0) c.from_fn-self.ensures.items s.value s.fits i
