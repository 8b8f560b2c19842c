use Rattle.std.proofs.Common.{take}
use Rattle.std.specs.Fmt.{HasWritten, IsPlainFormatter}
use Rattle.std.specs.List.{flat_map}
use Rattle.hub.specs.Session.{word_line}
use Rattle.hub.proofs.listing.ListingDisplay.fmt.Given as goal

-- the lines of the words so far
abbrev pub invariant-loop-word : goal.invariant-loop-word
invariant-loop-word g l =
    IsPlainFormatter l.initial.f → HasWritten g.W.Write.write_str_gives l.initial.f (flat_map word_line (take l.word-index l.word-items)) l.f
