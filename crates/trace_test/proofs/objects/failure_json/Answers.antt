use Rattle.std.proofs.Common.{ap, ◌∙◌}
use Rattle.serde_json.specs.View.{view}
use Rattle.serde_json.specs.Written.{has_float}
use Rattle.trace_test.proofs.NoFloats.{neither, no_float_in_option}
use Rattle.trace_test.proofs.objects.failure_json.Goals as goal

pub json_line-requires : goal.json_line-requires
json_line-requires c = record {
  integers = ap has_float c.in-Ok.ensures
      ∙ neither (has_float (view c.in_ok-expected.expected)) (has_float (view c.in_ok-got.got))
      (ap has_float c.in_ok-expected.ensures ∙ no_float_in_option _)
      (ap has_float c.in_ok-got.ensures ∙ no_float_in_option _);
}
