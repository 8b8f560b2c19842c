-- What `{:08x}` prints of a number is its digits in base 16.
use Rattle.std.proofs.Common.{◌≡◌, ℕ, zero, suc, ◌+◌, ◌-◌, ◌/◌, ◌%◌, ◌^◌, ◌<◌, ◌≤◌, false, List, [], ◌∷◌, ◌++◌, length, sym, refl, ap, ◌∙◌, replicate, arith, append_assoc, append-nil, get_or, take, inl, inr}
use Rattle.std.specs.List.{flat_map}
use Rattle.std.specs.Char.{digit_char}
use Rattle.std.specs.Fmt.{digits_onto, digits, padded_integral, format_spec, char_count}
use Rattle.std.proofs.Math.Nat.{pow-suc}
use Rattle.std.proofs.lemmas.Bool.{cases_lt}
use Rattle.std.proofs.lemmas.Bool.Decides.{nat_tests}
use Rattle.std.proofs.lemmas.List.{flat_map_more, replicate_more, take_more}
use Rattle.hub.specs.Session.{hex_digits, word_line}

zeros : (k : ℕ) → hex_digits k 0 ≡ replicate k 48
unfolding hex_digits
zeros zero = refl
zeros (suc k) = ap (λ l. l ++ (48 ∷ [])) (zeros k) ∙ replicate_more k 48 ∙ ap (λ n. replicate n 48) {x = k + 1} {y = suc k} (omega arith)

-- digits in front of others, and zeros in front of those
abbrev filled : ℕ → List ℕ → List ℕ → List ℕ
filled k acc text = replicate (k + length acc - length text) 48 ++ text

module _ (j w : ℕ) (acc : List ℕ) where
  abbrev last : ℕ
  last = digit_char (w % 16)

  onto_last : w < 16 → digits_onto (suc j) 16 false w acc ≡ last ∷ acc
  onto_last low = grind (arith, nat_tests)

  onto_more : 16 ≤ w → digits_onto (suc j) 16 false w acc ≡ digits_onto j 16 false (w / 16) (last ∷ acc)
  onto_more high = grind (arith, nat_tests)

  filled_last : (k : ℕ) → w < 16 → filled (suc k) acc (digits_onto (suc j) 16 false w acc) ≡ hex_digits (suc k) w ++ acc
  unfolding hex_digits
  filled_last k low =
      let none : 0 ≡ w / 16 = omega arith in
      ap (filled (suc k) acc) (onto_last low)
      ∙ ap (λ n. replicate n 48 ++ (last ∷ acc)) {x = suc k + length acc - suc (length acc)} {y = k} (omega arith)
      ∙ ap (λ l. l ++ (last ∷ acc)) (sym (zeros k) ∙ ap (hex_digits k) none)
      ∙ sym (append_assoc (hex_digits k (w / 16)) (last ∷ []) acc)

filled_hex : (k j w : ℕ) (acc : List ℕ) → k ≤ j → w < 16 ^ suc k → filled (suc k) acc (digits_onto (suc j) 16 false w acc) ≡ hex_digits (suc k) w ++ acc
unfolding hex_digits
filled_hex zero j w acc room small = filled_last j w acc 0 (omega arith)
filled_hex (suc k) zero w acc room small = absurd (omega arith)
filled_hex (suc k) (suc j) w acc room small = elim (cases_lt w 16) [
  | inl low ↦ filled_last (suc j) w acc (suc k) low
  | inr high ↦
      let d = digit_char (w % 16) in
      let text = digits_onto (suc j) 16 false (w / 16) (d ∷ acc) in
      ap (filled (suc (suc k)) acc) (onto_more (suc j) w acc high)
      ∙ ap (λ n. replicate (n - length text) 48 ++ text) {x = suc (suc k) + length acc} {y = suc k + suc (length acc)} (omega arith)
      ∙ filled_hex k j (w / 16) (d ∷ acc) (omega arith) (omega (arith, pow-suc 16 (suc k)))
      ∙ sym (append_assoc (hex_digits (suc k) (w / 16)) (d ∷ []) acc)
]

-- eight places, filled up with zeros
abbrev eight : ℕ → List ℕ
eight w = padded_integral (format_spec 32 0 4 8 (2 ^ 64 - 1)) false [] (digits 16 false w)

hex_word : (w : ℕ) → w < 2 ^ 32 → eight w ≡ hex_digits 8 w
unfolding padded_integral char_count digits
hex_word w small =
    let text = digits 16 false w in
    ap (λ n. replicate n 48 ++ (text ++ [])) {x = 8 - length text - 0 - 0} {y = 8 + 0 - length text} (omega arith)
    ∙ ap (λ l. replicate (8 - length text) 48 ++ l) (append-nil text)
    ∙ filled_hex 7 63 w [] (omega arith) (omega arith)
    ∙ append-nil (hex_digits 8 w)

-- one line more
pub lines_more : (i : ℕ) (ws : List ℕ) → i < length ws → get_or ws i 0 < 2 ^ 32 → flat_map word_line (take i ws) ++ (eight (get_or ws i 0) ++ (10 ∷ [])) ≡ flat_map word_line (take (i + 1) ws)
lines_more i ws lt small =
    ap (λ l. flat_map word_line (take i ws) ++ (l ++ (10 ∷ []))) (hex_word (get_or ws i 0) small)
    ∙ flat_map_more word_line [] (take i ws) (get_or ws i 0)
    ∙ ap (flat_map word_line) (sym (take_more ws i 0 lt))
