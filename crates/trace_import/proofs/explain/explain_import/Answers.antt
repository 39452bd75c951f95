use Rattle.std.proofs.Common.{ap, ◌∙◌}
use Rattle.import_origins.specs.OriginObjects.{origin_explanation}
use Rattle.rule_profile.specs.Profile.{profile_value}
use Rattle.rule_profile.specs.RuleSpans.{profile_spans}
use Rattle.trace_import.proofs.Endings.{answered_so}
use Rattle.trace_import.proofs.explain.explain_import.Goals as goal

pub returns-in-Ok : goal.returns-in-Ok
returns-in-Ok g c =
    let rules = (profile_value c.args.imported.now.profile).rules in
    let spans = profile_spans c.args.imported.now.profile in
    answered_so _ c.deref.result.now
    (origin_explanation c.args.format c.args.text.now rules spans c.args.name.now c.args.ask) c.write_answer.result
    (c.deref.ensures.value ∙ c.in-Ok.ensures
    ∙ ap (λ n. origin_explanation c.args.format c.args.text.now rules spans n c.args.ask) c.as_bytes.ensures.value) c.write_answer.ensures
