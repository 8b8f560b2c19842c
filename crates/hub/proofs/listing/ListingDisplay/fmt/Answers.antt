use Rattle.std.proofs.Common.{rules, [], ◌∷◌, ◌++◌, ◌^◌, ◌-◌, false, slice_index_or, arith}
use Rattle.std.specs.Fmt.{digits, format_spec, padded_integral, HasWritten}
use Rattle.std.proofs.Output.{has_written_append, has_written_of_eq}
use Rattle.hub.proofs.Hex.{lines_more}
use Rattle.hub.proofs.listing.ListingDisplay.fmt.Goals as goal

pub loop-word-preserved : goal.loop-word-preserved
loop-word-preserved g c = λ plain.
    let w = slice_index_or c.args.self.now.words.now c.loop-word.word-index 0 in
    let line : HasWritten g.W.Write.write_str_gives c.loop-word.f (padded_integral (format_spec 32 0 4 8 (2 ^ 64 - 1)) false [] (digits 16 false w) ++ (10 ∷ [])) c.writeln.new.self = search rules in
    has_written_of_eq _ _ _ _ _ (lines_more _ _ c.loop-word-test.true (omega arith)) (has_written_append _ _ _ _ _ _ (c.loop-word.invariant plain) line)
