-- What is printed is what was read.
use Rattle.std.proofs.Common.{◌≡◌, ℕ, ◌≤◌, List, length, take, drop, Ok, Err, Result, sym, refl, ap, ◌∙◌}
use Rattle.std.proofs.lemmas.List.{take_at}
use Rattle.std.proofs.lemmas.Bool.{cond-false, le-ltb}
use Rattle.text.specs.Reading.{read_text, counted, written}
use Rattle.hub.specs.Session.{program_shown, shown, session_bytes}

pub shown_read : (o : Result (List ℕ) (ℕ × ℕ)) (count : ℕ) (start after : List ℕ) → Ok count ≡ counted o → after ≡ written o start → program_shown (take count after) ≡ shown o
shown_read (Ok ws) count start after e left =
    let n : count ≡ length ws = cc in
    ap program_shown (ap (λ (k : ℕ). take k after) n ∙ ap (take (length ws)) left ∙ take_at ws (drop (length ws) start) (length ws) refl)
shown_read (Err p) count start after e left = cc

pub shown_session : (input : List ℕ) (room : ℕ) → length input ≤ 60000 → room ≡ 8192 → shown (read_text room input) ≡ session_bytes input
shown_session input room few e = ap (λ (n : ℕ). shown (read_text n input)) e ∙ sym (cond-false _ _ _ (le-ltb 60000 (length input) few))
