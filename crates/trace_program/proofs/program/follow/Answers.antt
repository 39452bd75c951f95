-- Each command ends as its function says.
use Rattle.std.proofs.Common.{inl}
use Rattle.trace_report.specs.laws.Endings.{text_of}
use Rattle.trace_program.proofs.program.follow.Goals as goal

pub returns-in-Name-clause-output : goal.returns-in-Name-clause-output
returns-in-Name-clause-output g c limit =
    let asked = c.ask_of_name.ensures.output limit (g.T.NamedTexts.known c.args.texts.now) in
    (asked.0, asked.1, rw c.in-Name.is asked.2)

pub returns-in-Profile-clause-output : goal.returns-in-Profile-clause-output
returns-in-Profile-clause-output g c limit =
    let asked = c.ask_of_profile.ensures.output limit in
    (asked.0, asked.1, rw c.in-Profile.is asked.2)

pub returns-in-Run-clause-output : goal.returns-in-Run-clause-output
returns-in-Run-clause-output g c limit =
    let ran = c.run.ensures limit in
    (ran.0, ran.1, rw c.in-Run.is ran.2)

pub returns-in-Test-clause-output : goal.returns-in-Test-clause-output
returns-in-Test-clause-output g c limit =
    let ran = c.test.ensures limit in
    (ran.0, ran.1, rw c.in-Test.is ran.2)

pub returns-in-Steps-clause-output : goal.returns-in-Steps-clause-output
returns-in-Steps-clause-output g c limit =
    let ran = c.steps.ensures limit in
    (ran.0, ran.1, rw c.in-Steps.is ran.2)

pub returns-in-Storm-clause-output : goal.returns-in-Storm-clause-output
returns-in-Storm-clause-output g c limit =
    let text = text_of (g.R.Read.remaining c.args.input.now) in
    (text.0, text.1, rw c.in-Storm.is c.storm.ensures)

pub returns-in-ExplainFlattened-clause-output : goal.returns-in-ExplainFlattened-clause-output
returns-in-ExplainFlattened-clause-output g c limit =
    let asked = c.explain_flattened.ensures.output in
    (asked.0, asked.1, rw c.in-ExplainFlattened.is asked.2)

pub returns-in-Import-clause-output : goal.returns-in-Import-clause-output
returns-in-Import-clause-output g c limit =
    let asked = c.import.ensures in
    (asked.0, asked.1, rw c.in-Import.is asked.2)

pub returns-in-Names-clause-output : goal.returns-in-Names-clause-output
returns-in-Names-clause-output g c limit =
    let asked = c.names.ensures.output in
    (asked.0, asked.1, rw c.in-Names.is (inl asked.2))

pub returns-in-Audit-clause-output : goal.returns-in-Audit-clause-output
returns-in-Audit-clause-output g c limit =
    let asked = rw c.deref.ensures.value at c.audit.ensures in
    (asked.log, asked.is_log, rw c.in-Audit.is asked)
