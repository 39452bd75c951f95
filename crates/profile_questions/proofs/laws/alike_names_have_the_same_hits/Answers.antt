-- A hit of one name is one of the other.
use Rattle.std.proofs.Common.{ℕ, List}
use Rattle.names.specs.declared.kind.RuleKind.{RuleKind}
use Rattle.names.specs.declared.permissions.Permission.{Permission}
use Rattle.rule_globs.specs.Rules.{RuleValue}
use Rattle.rule_globs.specs.Verdict.{Hits}
use Rattle.profile_questions.specs.Names.{IsAlike}
use Rattle.profile_questions.proofs.laws.alike_names_have_the_same_hits.Goals as goal

hits_too : (rules : List RuleValue) (one other : List ℕ) (kind : RuleKind) (p : Permission) (n : ℕ) → IsAlike rules one other →
    Hits rules kind p one n → Hits rules kind p other n
hits_too rules one other kind p n alike hit = (hit.0, hit.1, hit.2, hit.3, (alike n hit.0 hit.1).0 hit.4)

pub returns : goal.returns
returns c = λ rules one other kind p n alike. (
  hits_too rules one other kind p n alike,
  hits_too rules other one kind p n (λ m rule at. ((alike m rule at).1, (alike m rule at).0)),
)
