-- Pieces of a line, appended one by one.
use Rattle.std.proofs.Common.{◌≡◌, ℕ, ◌<◌, List, [], ◌∷◌, ◌++◌, Option, length, get_or, drop, append_assoc, refl, ap, ◌∙◌, arith}
use Rattle.std.specs.Prelude.{codes}
use Rattle.std.specs.List.{flat_map}
use Rattle.names.specs.declared.kind.RuleKind.{RuleKind}
use Rattle.rule_explain.specs.Explanations.{rule_place}
use Rattle.rule_profile.specs.declared.profile.Span.{Span}
use Rattle.trace_lint.specs.Lines.{idle_text, why, work}
use Rattle.trace_lint.specs.declared.findings.Idle.{Idle}
use Rattle.trace_lint.specs.inner.Found.{or_place}

pub piece : (base front more old new : List ℕ) → old ≡ base ++ front → new ≡ old ++ more → new ≡ base ++ (front ++ more)
piece base front more old new so_far e = e ∙ ap (λ z. z ++ more) so_far ∙ append_assoc base front more

-- why, where there are stand-ins
module _ (text : List ℕ) (spans : List Span) where
  pub why_parts : (kind : RuleKind) (numbers : List ℕ) (d : ℕ) (idle : Option Idle) → 0 < length numbers → why text spans kind numbers idle
      ≡ codes " (" ++ (rule_place text spans (get_or numbers 0 d) ++ flat_map (or_place text spans) (drop 1 numbers))
      ++ work kind ++ idle_text idle ++ codes ")"
  why_parts kind [] d idle lt = absurd (omega (arith, lt))
  why_parts kind (n ∷ numbers) d idle lt = refl
