-- The items and their tokens stand for the same pattern.
use Rattle.std.proofs.Common.{ap, ◌∙◌}
use Rattle.rule_globs.specs.Meaning.{meaning_of}
use Rattle.rule_globs.specs.Tokens.{pattern_of}
use Rattle.rule_globs.specs.laws.TokenLaws.{same_pattern}
use Rattle.rule_globs.proofs.path.RulePath.items.Goals as goal

pub returns-clause-pattern : goal.returns-clause-pattern
returns-clause-pattern c = ap meaning_of c.deref.ensures.value ∙ same_pattern c.self.inside.items.items c.self.invariant.0
    ∙ ap pattern_of c.self.view_is
