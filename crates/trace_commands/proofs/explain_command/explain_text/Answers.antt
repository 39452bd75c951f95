use Rattle.std.proofs.Common.{◌≢◌, rules}
use Rattle.rule_reader.specs.declared.fault.ReadFault.TheVariants as reading
use Rattle.rule_profile.specs.Profile.{profile_value}
use Rattle.rule_profile.specs.RuleSpans.{profile_spans}
use Rattle.trace_commands.proofs.ExplainEndings.{answered_so, forgotten, refused_so}
use Rattle.trace_commands.proofs.explain_command.explain_text.Goals as goal

pub returns-in-Ok-explanation : goal.returns-in-Ok-explanation
returns-in-Ok-explanation g c =
    answered_so c.args.format _ c.args.ask c.args.name.now c.args.text.now (profile_value c.in-Ok.profile) (profile_spans c.in-Ok.profile)
    c.as_bytes.result.now c.in-Ok-explanation.lines.items c.deref.result.now c.write_answer.result
    c.in-Ok.ensures.outcome c.in-Ok.ensures.spans c.as_bytes.ensures.value c.deref.ensures.value c.in-Ok-explanation.ensures
    c.write_answer.ensures

pub returns-in-Ok : goal.returns-in-Ok
returns-in-Ok g c = forgotten c.args.format c.args.ask c.args.name.now c.args.text.now _ _ _ c.fail.result c.fail.ensures

pub returns : goal.returns
returns g c =
    let other : c.in-Err.fault ≢ reading.NoMemory = search rules in
    refused_so c.args.format c.args.ask c.args.name.now c.args.text.now c.in-Err.fault _ _ _ c.refuse.result other c.in-Err.ensures.outcome
    c.refuse.ensures
