-- The lines so far, and those of the rules that are left, are all.
use Rattle.std.proofs.Common.{◌≡◌, ◌+◌, ◌++◌, drop, map}
use Rattle.rule_profile.specs.RuleSpans.{profile_spans}
use Rattle.import_origins.specs.Origins.{map_from, map_lines}
use Rattle.import_origins.proofs.map.map_lines.Given as goal

abbrev pub invariant-loop-i : goal.invariant-loop-i
invariant-loop-i l = record {
  places : l.places ≡ l.text;
  lines : l.lines.items ++ map_from l.text (l.i + 1) (drop l.i (profile_spans l.profile)) ≡ map_lines l.text (profile_spans l.profile);
}
