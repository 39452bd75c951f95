use Rattle.std.proofs.Common.{◌≡◌, ◌∙◌, List, None, ap}
use Rattle.std.specs.Prelude.{bytes_eq}
use Rattle.std.specs.Option.{option_map}
use Rattle.names.specs.laws.ByteKeys.{updates_bytes}
use Rattle.rule_profile.specs.Profile.{RuleValue, profile_value}
use Rattle.rule_profile.specs.declared.profile.Profile.{Profile}
use Rattle.trace_test.proofs.Maps.{mapped_if}
use Rattle.trace_test.proofs.published.Published.remove.Goals as goal

abbrev rules : Profile → List RuleValue
rules p = (profile_value p).rules

pub returns : goal.returns
returns c =
    let old = c.args.self.now in
    let bytes = c.args.name.now in
    λ i other. (ap (option_map rules) (updates_bytes bytes old.by_name c.remove.new.self None c.remove.ensures.updates other)
    ∙ mapped_if rules (bytes_eq bytes other) None _) i
