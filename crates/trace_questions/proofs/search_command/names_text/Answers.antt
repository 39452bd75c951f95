-- One name after another.
use Rattle.std.proofs.Common.{◌∙◌, []}
use Rattle.rule_profile.specs.Profile.{profile_value}
use Rattle.rule_profile.specs.RuleSpans.{profile_spans}
use Rattle.trace_questions.specs.Search.{name_text}
use Rattle.trace_questions.proofs.ListedLines.{line_added, lines_all}
use Rattle.trace_questions.proofs.search_command.names_text.Goals as goal

pub loop-name-preserved : goal.loop-name-preserved
loop-name-preserved c =
    let profile = c.args.profile.now in
    line_added (name_text c.args.format c.args.quantifier c.args.text.now (profile_value profile).rules (profile_spans profile) c.args.ask)
    c.args.names.now [] c.loop-name.lines.items c.put_name.new.lines.items c.loop-name.name-index c.name-item.result
    c.deref.result.now c.loop-name-test.true c.name-item.is c.deref.ensures.value c.loop-name.invariant c.in_ok-put_name.ensures

pub returns : goal.returns
returns c =
    let profile = c.args.profile.now in
    c.loop-name.invariant
    ∙ lines_all (name_text c.args.format c.args.quantifier c.args.text.now (profile_value profile).rules
    (profile_spans profile) c.args.ask)
    c.args.names.now c.loop-name.name-index c.loop-name-test.false
