-- The state after one more byte.
use Rattle.std.proofs.Common.{◌≡◌, ℕ, ◌+◌, ◌<◌, List, [], ◌∷◌, ◌++◌, length, take, get_or, refl, sym, ap, ◌∙◌}
use Rattle.std.proofs.lemmas.List.{take_more}
use Rattle.automaton_rows.specs.Automata.{Automaton, target, goes_to, state_after}

goes_one_more : (a : Automaton) (s : ℕ) (bytes : List ℕ) (b : ℕ) → goes_to a s (bytes ++ b ∷ []) ≡ target a (goes_to a s bytes) b
goes_one_more a s [] b = refl
goes_one_more a s (c ∷ bytes) b = goes_one_more a (target a s c) bytes b

pub state_more : (a : Automaton) (bytes : List ℕ) (i s : ℕ) → i < length bytes → s ≡ state_after a (take i bytes) →
    target a s (get_or bytes i 0) ≡ state_after a (take (i + 1) bytes)
state_more a bytes i s lt at =
    ap (λ z. target a z (get_or bytes i 0)) at ∙ sym (goes_one_more a a.start (take i bytes) (get_or bytes i 0))
    ∙ ap (goes_to a a.start) (sym (take_more bytes i 0 lt))
