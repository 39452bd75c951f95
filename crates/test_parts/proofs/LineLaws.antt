-- What one more line says of a case: how many bytes are left, and that the options are those of its lines still.
use Rattle.std.proofs.Common.{◌≡◌, ◌==◌, ℕ, suc, ◌+◌, ◌≤◌, ◌++◌, ◌∷◌, [], List, Some, Bor, length, map, arith, ap}
use Rattle.std.proofs.lemmas.Grind.{common_steps}
use Rattle.std.proofs.lemmas.Option.{gets}
use Rattle.std.specs.List.{after_first, slice_get}
use Rattle.test_parts.specs.Cases.{IsOption, after_lines, line_of}

-- the options so far, each with its line
abbrev pub AreOptions : List ℕ → List (Bor (List ℕ)) → Type 0
AreOptions case options =
    (i : ℕ) (o : List ℕ) → slice_get (map (λ option. option.now) options) i ≡ Some o → IsOption (line_of (after_lines (i + 2) case)) o

pub after_lines_more : (n m : ℕ) (text : List ℕ) → m ≡ n + 1 → after_lines m text ≡ after_first (λ b. b == 10) (after_lines n text)
after_lines_more n m text e = let s : m ≡ suc n = omega arith in ap (λ k. after_lines k text) s

-- an option's line has a byte at least
pub shorter_past_option : (text o : List ℕ) → IsOption (line_of text) o → length (after_first (λ b. b == 10) text) + 1 ≤ length text
shorter_past_option text o h = grind (arith, common_steps, ap length h)

pub AreOptions_more : (case : List ℕ) (options : List (Bor (List ℕ))) (option : Bor (List ℕ)) → AreOptions case options
    → IsOption (line_of (after_lines (length options + 2) case)) option.now → AreOptions case (options ++ (option ∷ []))
AreOptions_more case options option before last i o e = grind (arith, common_steps, gets, before i o)
