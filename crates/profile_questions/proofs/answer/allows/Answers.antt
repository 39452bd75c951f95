-- What is denied isn't allowed.
use Rattle.std.proofs.Common.{true≢false, sym}
use Rattle.profile_questions.proofs.answer.allows.Goals as goal

pub returns-in-Denied : goal.returns-in-Denied
returns-in-Denied c = (λ e. absurd (true≢false (sym e)), λ h. absurd (h.0 c.in-Denied.rule (c.in-Denied.ensures.0)))
