use Rattle.std.proofs.Common.{◌≡◌, ◌++◌, Bool, Some, None, sym, ap, ◌∙◌, codes, decimal, rules}
use Rattle.std.specs.Prelude.{if◌then◌else◌}
use Rattle.rule_profile.specs.Profile.{ProfileValue, profile_value}
use Rattle.trace_report.specs.Output.{line}
use Rattle.trace_test.specs.inner.Published.{rules_in, with_rules}
use Rattle.trace_test.proofs.PolicyLines.{is_not_over, kept_whole, published_whole}
use Rattle.trace_test.proofs.publication.publish_profile.Goals as goal

pub returns-in-Ok-clause-done : goal.returns-in-Ok-clause-done
returns-in-Ok-clause-done g c limit =
    let history = g.B.Bench.history c.args.bench.now in
    let after = g.B.Bench.history c.publish.new.self in
    let profile = profile_value c.args.profile in
    let version = c.in-Ok.version in
    let done = c.in-Ok.ensures.ok in
    let start : c.in_ok-line.line.items ≡ codes "policy " ++ profile.name ++ codes " version " = search rules in
    let whole = published_whole limit history after profile version _ done.2 done.0 done.1
    (c.in_ok-numbered_line-in-Ok.ensures ∙ ap (λ s. line (s ++ decimal version)) start) in
    let old = rules_in c.args.published.now in
    let kept = c.in_ok-add-in-Ok.ensures ∙ ap (λ (p : ProfileValue). with_rules old p.name p.rules) c.requires.same
    ∙ kept_whole limit profile old done.2 in (
      whole.0,
      whole.1,
      kept,
      sym (ap (λ (b : Bool). if b then Some c.args.start else None) (is_not_over limit profile.rules done.2)),
    )
