use Rattle.std.proofs.Common.{ℕ, get_or, rules}
use lib.Bits.{bit_or}
use Rattle.meanings.proofs.Slotwise.{made}
use Rattle.set.proofs.Members.{held_merged}
use Rattle.set.proofs.SetLattice.join.Goals as goal

pub returns : goal.returns
returns c =
    let first = c.args.self.now.words in
    let second = c.args.other.words in
    let word = λ (k : ℕ). bit_or (get_or first k 0) (get_or second k 0) in
    held_merged first second c.from_fn-self.result (made _ _ word 8 (λ k x q small call. ((λ j. (call.met.1.0 j, call.met.1.1 j)), search rules)) c.from_fn-self.result 0 c.from_fn-self.ensures.items)
