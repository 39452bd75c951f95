use Rattle.std.proofs.Common.{◌∙◌}
use Rattle.rule_profile.specs.RuleSpans.{profile_spans}
use Rattle.import_origins.specs.Origins.{map_lines}
use Rattle.import_origins.proofs.PartLaws.{rule_added}
use Rattle.import_origins.proofs.map.map_lines.Goals as goal

pub loop-i-preserved : goal.loop-i-preserved
loop-i-preserved c = record {
  places = c.push_line.ensures.places ∙ c.loop-i.invariant.places;
  lines = rule_added c.args.text.now c.loop-i.places c.rules-rule-items.result.now (profile_spans c.args.profile.now) c.rule-item.result
      c.span.result c.loop-i.i c.loop-i.lines.items c.push_line.new.lines.items
      (map_lines c.args.text.now (profile_spans c.args.profile.now)) c.rules-rule-items.ensures.spans c.loop-i-test.true c.rule-item.is
      c.span.ensures c.loop-i.invariant.places c.in_ok-push_line.ensures.line c.loop-i.invariant.lines;
}
