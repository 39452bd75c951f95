use Rattle.std.proofs.lemmas.List.Elements.{All-contains}
use Rattle.trace_lint.proofs.Caveats.{caveat_of, no_caveat}
use Rattle.trace_lint.proofs.OneLint.{IsFirst, Stand}
use Rattle.trace_lint.proofs.laws.lines_warn_of_idle_stand_ins.Goals as goal

pub returns-clause-none : goal.returns-clause-none
returns-clause-none c = λ rules decided findings f are found h. no_caveat rules decided are f
    (All-contains (Stand rules decided) findings f found.stand_ins h)
    (All-contains (IsFirst rules decided) findings f found.idle h)

pub returns-clause-some : goal.returns-clause-some
returns-clause-some c = λ rules decided findings f idle are found h is. caveat_of rules decided are f
    (All-contains (Stand rules decided) findings f found.stand_ins h)
    (All-contains (IsFirst rules decided) findings f found.idle h) idle is
