use Rattle.std.proofs.Common.{◌≡◌, true, map}
use Rattle.std.specs.Prelude.{is_some}
use Rattle.trace_arguments.specs.CommandLine.{line_of}
use Rattle.trace_report.specs.laws.Endings.{text_of}
use Rattle.trace_program.proofs.Runs.{memory_ends, usage_ends}
use Rattle.trace_program.proofs.program.run_spelled.Goals as goal

pub returns-in-Err-Usage-clause-output : goal.returns-in-Err-Usage-clause-output
returns-in-Err-Usage-clause-output g c limit =
    let text = text_of (g.R.Read.remaining c.args.input.now) in
    let no_line : is_some (line_of (map (λ word. word.now) c.args.words.now)) ≡ true → ⊥ = λ some. cc (c.in-Err-Usage.ensures.err some) in
    (text.0, text.1, usage_ends limit _ _ text.0 _ _ _ _ c.report_usage.result no_line c.report_usage.ensures)

pub returns-in-Err-NoMemory-clause-output : goal.returns-in-Err-NoMemory-clause-output
returns-in-Err-NoMemory-clause-output g c limit =
    let text = text_of (g.R.Read.remaining c.args.input.now) in (
      text.0,
      text.1,
      memory_ends limit (g.T.NamedTexts.known c.args.texts.now) (line_of (map (λ word. word.now) c.args.words.now)) text.0
          (g.R.Read.remaining c.args.input.now) (g.A.Write.contents c.args.answers.now) _ _ c.fail.result text.1 c.fail.ensures,
    )

pub returns-in-Ok-clause-output : goal.returns-in-Ok-clause-output
returns-in-Ok-clause-output g c limit =
    let ended = c.follow_line.ensures.output limit in
    (ended.0, ended.1, rw c.in-Ok.ensures.ok ended.2)
