use Rattle.std.proofs.Common.{rules}
use Rattle.rule_profile.specs.Profile.{profile_value}
use Rattle.rule_judge.proofs.LinkLaws.{is_allowed_by}
use Rattle.rule_judge.proofs.links.allowed_perms.Goals as goal

pub returns : goal.returns
returns c = c.passing.ensures (is_allowed_by (profile_value c.args.profile.now).rules c.args.name.now) (λ p passes post. search rules)
