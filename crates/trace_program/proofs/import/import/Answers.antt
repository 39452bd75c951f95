-- Memory was refused before asking, or the import is as it was asked for.
use Rattle.std.proofs.Common.{inr}
use Rattle.trace_arguments.specs.Values.{import_value}
use Rattle.trace_report.specs.laws.Endings.{keeps, text_of}
use Rattle.trace_program.proofs.AskedImports.{ends_for_all, ends_for_one}
use Rattle.trace_program.proofs.import.import.Goals as goal

pub returns-in_default : goal.returns-in_default
returns-in_default g c =
    let text = text_of (g.R.Read.remaining c.args.input.now) in
    (text.0, text.1, inr (record { answers = keeps (g.A.Write.contents c.args.answers.now); faults = c.fail.ensures }))

pub returns-then-asked : goal.returns-then-asked
returns-then-asked g c =
    let ran = c.import_all.ensures in (
      ran.text,
      ran.is_text,
      ends_for_all (import_value c.args.asked.now) c.account_of-account.result c.options_of-options.result ran.text _ c.import_all.result
          c.account_of-account.ensures c.options_of-options.ensures c.if-asked.true ran.ends,
    )

pub returns-in-Some : goal.returns-in-Some
returns-in-Some g c =
    let ran = c.import_with_map.ensures in (
      ran.text,
      ran.is_text,
      ends_for_one (import_value c.args.asked.now) c.account_of-account.result c.options_of-options.result ran.text _
          c.import_with_map.result c.account_of-account.ensures c.options_of-options.ensures c.if-asked.false ran.ends,
    )

pub returns : goal.returns
returns g c =
    let ran = c.import.ensures in (
      ran.text,
      ran.is_text,
      ends_for_one (import_value c.args.asked.now) c.account_of-account.result c.options_of-options.result ran.text _ c.import.result
          c.account_of-account.ensures c.options_of-options.ensures c.if-asked.false ran.ends,
    )
