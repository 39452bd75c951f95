-- The code's answers as those of the definitions.
use Rattle.std.specs.Prelude.{ℕ, List, option_map}
use Rattle.trace_audit.specs.Answers as answers
use Rattle.trace_audit.specs.declared.answer.Answer.{Answer}
use Rattle.trace_audit.specs.declared.answer.Answer.TheVariants.{NoProfile, NotImported, NotJudged, AllowedBy, DeniedBy, NoRule}
use Rattle.trace_audit.specs.inner.FoundValues.{refusal_value}

abbrev pub answer_value : Answer → answers.Answer
answer_value NoProfile = answers.no_profile
answer_value (NotImported refusal) = answers.not_imported (refusal_value refusal)
answer_value NotJudged = answers.not_judged
answer_value (AllowedBy rules) = answers.allowed_by rules.items
answer_value (DeniedBy rule text) = answers.denied_by rule text.items
answer_value (NoRule missing add) = answers.no_rule missing (option_map (λ text. text.items) add)
