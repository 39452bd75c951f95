use Rattle.std.proofs.Common.{sym, subst}
use Rattle.std.specs.Prelude.{Result}
use Rattle.rule_profile.specs.Profile.{ProfileValue}
use Rattle.rule_reader.specs.declared.fault.ReadFault.{ReadFault}
use Rattle.trace_test.specs.inner.Published.{rules_in}
use Rattle.trace_test.specs.inner.Tests.{IsPolicyDone}
use Rattle.trace_test.proofs.publication.publish.Goals as goal

pub returns-in-Ok-read-clause-done : goal.returns-in-Ok-read-clause-done
returns-in-Ok-read-clause-done g c limit =
    let P : Result ProfileValue ReadFault → Type 0 = λ o. IsPolicyDone c.args.start limit o (g.B.Bench.history c.args.bench.now)
    (rules_in c.args.published.now) (g.B.Bench.history c.publish_profile.new.bench) (rules_in c.publish_profile.new.published)
    c.publish_profile.result in
    subst P (sym c.in-Ok.ensures.outcome) (c.publish_profile.ensures.done limit)
