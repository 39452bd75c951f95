use Rattle.std.proofs.Common.{map}
use Rattle.trace_arguments.proofs.CommandLine.{entered_line, refused_line}
use Rattle.trace_arguments.proofs.line.matches_of.Goals as goal

pub returns-in_err-matches-clause-err : goal.returns-in_err-matches-clause-err
returns-in_err-matches-clause-err g c =
    refused_line _ (map g.S.AsStr.text c.args.words.now) c.in_err-matches.field-0.0 c.from_residual-in_err-matches.result
    c.in_ok-program.ensures c.in_err-matches.ensures.kinds c.from_residual-in_err-matches.ensures.1

pub returns-clause-ok : goal.returns-clause-ok
returns-clause-ok g c =
    entered_line _ (map g.S.AsStr.text c.args.words.now) c.in_ok-matches.matches
    c.in_ok-program.ensures c.in_ok-matches.ensures.kinds c.in_ok-matches.ensures.matches
