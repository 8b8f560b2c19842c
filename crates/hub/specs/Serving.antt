-- The lattices that a session serves: what each means, how it is called, and which one a program names.
use Rattle.std.specs.Prelude.{ℕ, List, [], ◌∷◌, Some, None, codes, Option, ◌==◌}
use Rattle.std.specs.List.{find}
use Rattle.lattice.specs.Meaning.{Meaning}
use Rattle.meanings.specs.Sets.{set_meaning}
use Rattle.meanings.specs.Peaks.{peak_meaning}
use Rattle.meanings.specs.Onces.{once_meaning}
use Rattle.meanings.specs.Versions.{versions_meaning}
use Rattle.meanings.specs.Lifts.{lift_meaning}
use Rattle.meanings.specs.Pairs.{both_meaning}
use Rattle.words.specs.declared.head.Head.{Head}
use Rattle.words.specs.Heads.{head_in}
use Rattle.hub.specs.declared.served.Served.{Served}
use Rattle.hub.specs.declared.served.Served.TheVariants.{Set, Once, Versions, LiftPeak, BothSetOnce}

abbrev pub meaning_of : Served → Meaning
meaning_of Set = set_meaning
meaning_of Once = once_meaning
meaning_of Versions = versions_meaning
meaning_of LiftPeak = lift_meaning peak_meaning
meaning_of BothSetOnce = both_meaning set_meaning once_meaning

abbrev pub name_of : Served → List ℕ
name_of Set = codes "set"
name_of Once = codes "once"
name_of Versions = codes "versions"
name_of LiftPeak = codes "lift(peak)"
name_of BothSetOnce = codes "both(set,once)"

abbrev pub label_of : Served → ℕ
label_of s = (meaning_of s).label.value

-- the lattice that has a label
abbrev pub served_by : ℕ → Option Served
served_by n = find (λ s. n == label_of s) (Set ∷ Once ∷ Versions ∷ LiftPeak ∷ BothSetOnce ∷ [])

abbrev pub served_for : Option Head → Option Served
served_for None = None
served_for (Some h) = served_by h.label.value

-- the lattice that a program's first word names
abbrev pub served_in : List ℕ → Option Served
served_in [] = None
served_in (w ∷ ws) = served_for (head_in w)
