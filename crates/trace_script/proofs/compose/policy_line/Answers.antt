use Rattle.std.proofs.Common.{sym, subst}
use Rattle.std.specs.Prelude.{Result}
use Rattle.rule_profile.specs.Profile.{ProfileValue}
use Rattle.rule_reader.specs.declared.fault.ReadFault.{ReadFault}
use Rattle.trace_script.specs.Engine.{IsComposed}
use Rattle.trace_script.specs.RunOutput.{policy_printed}
use Rattle.trace_script.proofs.compose.policy_line.Goals as goal

pub returns-in-Ok-clause-line : goal.returns-in-Ok-clause-line
returns-in-Ok-clause-line g c limit =
    let P : Result ProfileValue ReadFault → Type 0 = λ o. IsComposed (policy_printed limit (g.B.Bench.history c.args.bench.now) o)
    (g.B.Bench.history c.profile_line.new.bench) c.profile_line.result in
    subst P (sym c.in-Ok.ensures.outcome) (c.profile_line.ensures.line limit)
