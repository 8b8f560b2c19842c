use Rattle.std.proofs.Common.{◌≡◌, ℕ, ◌<◌, List, length, get_or, set, replicate, ap, ◌∙◌, arith}
use Rattle.std.proofs.lemmas.Grind.{common_steps}
use Rattle.bits.specs.declared.Bits.{Bits}
use Rattle.bits.specs.Fits.{lowest}
use Rattle.meanings.specs.Versions.{single}
use Rattle.meanings.proofs.Slotwise.{blank}
use Rattle.versions.proofs.VersionsLattice.value.Goals as goal

-- one slot written among blank ones
written : (row : List (Bits 15)) (slot : ℕ) (count : Bits 15) → slot < length row → ((k : ℕ) → get_or row k (lowest 15 0) ≡ lowest 15 0) → (s : Bits 3) → get_or (set row slot count) s.value (lowest 15 0) ≡ single slot count s
written row slot count within zeros s = grind (arith, common_steps, zeros s.value)

pub returns : goal.returns
returns c =
    let row = replicate 8 c.low-counts.result in
    let zeros : (k : ℕ) → get_or row k (lowest 15 0) ≡ lowest 15 0 = λ k. ap (λ (b : Bits 15). get_or (replicate 8 b) k (lowest 15 0)) c.low-counts.ensures ∙ blank (lowest 15 0) 8 k in
    (λ i s. written row c.slot_of.result c.count_of.result (omega (arith, c.slot_of.ensures)) zeros s i) ∙ (λ i. single (c.slot_of.ensures i) (c.count_of.ensures i))
