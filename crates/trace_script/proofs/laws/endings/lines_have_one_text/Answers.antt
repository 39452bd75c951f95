use Rattle.std.proofs.Common.{◌∷◌, length, ap, arith, length-append}
use Rattle.trace_script.proofs.laws.endings.lines_have_one_text.Goals as goal

pub returns-clause-not_written : goal.returns-clause-not_written
returns-clause-not_written c = λ before byte bytes done same. omega (arith, ap length same, length-append before (byte ∷ bytes))
