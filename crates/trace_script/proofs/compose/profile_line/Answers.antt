use Rattle.std.proofs.Common.{◌≡◌, ◌++◌, Ok, ap, ◌∙◌, refl, codes, decimal, rules}
use Rattle.rule_profile.specs.Profile.{profile_value}
use Rattle.trace_report.specs.Output.{line}
use Rattle.trace_script.specs.RunOutput.{policy_printed}
use Rattle.trace_script.proofs.Publication.{composed, published_whole}
use Rattle.trace_script.proofs.compose.profile_line.Goals as goal

pub returns-in-Ok-clause-line : goal.returns-in-Ok-clause-line
returns-in-Ok-clause-line g c limit =
    let history = g.B.Bench.history c.args.bench.now in
    let after = g.B.Bench.history c.publish.new.self in
    let profile = profile_value c.args.profile in
    let version = c.in-Ok.version in
    let done = c.in-Ok.ensures.ok in
    let start : c.in_ok-line.line.items ≡ codes "policy " ++ profile.name ++ codes " version " = search rules in
    let whole = published_whole limit history after profile version _ done.2 done.0 done.1 refl in
    composed (policy_printed limit history (Ok profile)) after _ c.numbered_line.result (ap (λ s. line (s ++ decimal version)) start
    ∙ whole.0) whole.1 c.numbered_line.ensures
