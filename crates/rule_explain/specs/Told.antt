-- What is said about a rule that an explanation names.
use Rattle.std.specs.Prelude.{◌≡◌, ℕ, List, ◌++◌, Ok}
use Rattle.names.specs.declared.permissions.Permission.{Permission}
use Rattle.rule_globs.specs.Verdict.{IsRuleAt}
use Rattle.rule_profile.specs.declared.profile.Span.{Span}
use Rattle.rule_profile.specs.Profile.{RuleValue}
use Rattle.rule_reader.specs.ReadText.{rule_at}
use Rattle.rule_reader.specs.Spans.{IsReadAgain, spans_of}
use Rattle.rule_explain.specs.declared.reason.Reason.{Reason}
use Rattle.rule_explain.specs.declared.reason.Reason.TheVariants.{Allowed, Denied, NoRule}
use Rattle.rule_explain.specs.Explanations.{line_of_rule, text_of_rule}
use Rattle.rule_explain.specs.Places.{place_at}
use Rattle.rule_explain.specs.Reasons.{IsReason}

-- The rule with this number is read again twice: in the text, from its first byte on, whose line is shown; and by itself, from its
-- text in the explanation, whatever follows.
pub record IsToldRule (text : List ℕ) (rules : List RuleValue) (n : ℕ) : Type 0 where
  pub rule : RuleValue
  pub numbered : IsRuleAt rules n rule
  pub span : Span
  pub stands : IsReadAgain text rule span
  pub line : line_of_rule text (spans_of text) n ≡ (place_at text span.start).line
  pub told : (more : List ℕ) → rule_at (text_of_rule rules n ++ more) ≡ Ok (rule, more)

-- the reason is right, and the rule that it names is shown rightly
abbrev pub IsRightlyTold : List ℕ → List RuleValue → List ℕ → Permission → Reason → Type 0
IsRightlyTold text rules name p (Allowed n) = IsReason rules name p (Allowed n) × IsToldRule text rules n
IsRightlyTold text rules name p (Denied n) = IsReason rules name p (Denied n) × IsToldRule text rules n
IsRightlyTold text rules name p NoRule = IsReason rules name p NoRule
