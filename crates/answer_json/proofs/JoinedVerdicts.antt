-- The line of a verdict by an image, of its two parts.
use Rattle.std.proofs.Common.{◌≡◌, ℕ, ◌-◌, List, ◌∷◌, [], ◌++◌, length, take, drop, refl, ap, sym, ◌∙◌, append_assoc, arith}
use Rattle.std.specs.Prelude.{Option, Some, None, codes, decimal}
use Rattle.std.proofs.lemmas.List.{take_all}
use Rattle.names.specs.declared.verdict.Verdict.{Verdict}
use Rattle.serde_json.proofs.OnLiterals.{serde_json_on_literals}
use Rattle.serde_json.specs.Written.{compact_text}
use Rattle.answer_json.specs.Lines.{json_line}
use Rattle.answer_json.specs.Values.{match_object, number_or_null}
use Rattle.answer_json.specs.inner.Front.{front_of_match, rest_of_match}

-- all but the first, as a slice has it
pub without_first : (xs : List ℕ) → take (length xs - 1) (drop 1 xs) ≡ drop 1 xs
without_first [] = refl
without_first (x ∷ xs) = take_all (length (x ∷ xs) - 1) xs (omega arith)

-- a comma after the digits
comma : (digits others : List ℕ) → (digits ++ codes ",") ++ (others ++ codes "\n") ≡ (digits ++ 44 ∷ others) ++ codes "\n"
comma digits others = append_assoc digits (codes ",") (others ++ codes "\n") ∙ sym (append_assoc digits (44 ∷ others) (codes "\n"))

-- the first member, before the text of others
spliced : (look_ups : Option ℕ) (others : List ℕ) → front_of_match look_ups ++ (others ++ codes "\n")
    ≡ (codes "{\"lookups\":" ++ (compact_text (number_or_null look_ups) ++ 44 ∷ others)) ++ codes "\n"
unfolding serde_json_on_literals
spliced (Some n) others = ap (λ (x : List ℕ). codes "{\"lookups\":" ++ x) (comma (decimal n) others)
spliced None others = refl

pub line_of_parts : (v : Verdict) (steps : ℕ) (look_ups : Option ℕ) → front_of_match look_ups ++ drop 1 (json_line (rest_of_match v steps))
    ≡ json_line (match_object v steps look_ups)
unfolding serde_json_on_literals
line_of_parts v steps look_ups = spliced look_ups (drop 1 (compact_text (rest_of_match v steps)))
