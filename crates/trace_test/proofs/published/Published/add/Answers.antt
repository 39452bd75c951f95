use Rattle.std.proofs.Common.{◌≡◌, ◌∙◌, ℕ, List, Some, ap}
use Rattle.std.specs.Prelude.{bytes_eq, if◌then◌else◌}
use Rattle.std.specs.Option.{option_map}
use Rattle.names.specs.laws.ByteKeys.{updates_bytes}
use Rattle.rule_profile.specs.Profile.{RuleValue, profile_value}
use Rattle.rule_profile.specs.declared.profile.Profile.{Profile}
use Rattle.trace_test.specs.inner.Published.{rules_in}
use Rattle.trace_test.proofs.Maps.{mapped_if}
use Rattle.trace_test.proofs.published.Published.add.Goals as goal

abbrev rules : Profile → List RuleValue
rules p = (profile_value p).rules

pub returns : goal.returns
returns c =
    let old = c.args.self.now in
    let bytes = c.in_ok-name.name.items in
    let same : bytes ≡ (profile_value c.args.profile).name = c.in_ok-name.ensures.items ∙ c.name.ensures in
    λ i other. (ap (option_map rules) (updates_bytes bytes old.by_name c.insert.new.self (Some c.args.profile)
    c.in_ok-insert.ensures.updates other)
    ∙ mapped_if rules (bytes_eq bytes other) (Some c.args.profile) _
    ∙ ap (λ (own : List ℕ). if bytes_eq own other then Some (rules c.args.profile) else rules_in old other) same) i
