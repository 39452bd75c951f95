use Rattle.std.proofs.Common.{refl}
use Rattle.trace_test.specs.Expectations.{nothing}
use Rattle.trace_test.proofs.Woven.{woven_count, woven_hold}
use Rattle.trace_test.proofs.laws.own_answers_hold.Goals as goal

pub returns-clause-count : goal.returns-clause-count
returns-clause-count c limit history number commands = woven_count limit history number nothing commands refl

pub returns-clause-hold : goal.returns-clause-hold
returns-clause-hold c limit history number commands = woven_hold limit history number nothing commands refl
