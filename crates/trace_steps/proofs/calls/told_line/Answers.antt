use Rattle.std.proofs.Common.{rules}
use Rattle.trace_steps.specs.StepLines.{told_text}
use Rattle.trace_steps.proofs.CallEnds.{line_behind}
use Rattle.trace_steps.proofs.calls.told_line.Goals as goal

pub returns : goal.returns
returns c =
    let text = told_text c.args.name.now c.args.told.now in
    let behind = line_behind c.args.start.now text in
    search (rules, behind)
