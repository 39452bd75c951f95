use Rattle.std.proofs.Common.{refl, sym, ◌∙◌, ap, codes, option_map}
use Rattle.clap.specs.Words.{found_of}
use Rattle.trace_arguments.specs.CommandLine.{all_command, any_command, audit_command, check_command, compile_command, diff_command}
use Rattle.trace_arguments.specs.CommandLine.{explain_command, import_command, judge_command, lint_command, match_command, names_command}
use Rattle.trace_arguments.specs.CommandLine.{plain_line, run_command, steps_command, storm_command, test_command}
use Rattle.trace_arguments.proofs.Asked.{flag_asked}
use Rattle.trace_arguments.proofs.CommandLine.{asked, explain_line, import_given, import_line, known_command, line_given, opened_line}
use Rattle.trace_arguments.proofs.CommandLine.{own_fault}
use Rattle.trace_arguments.proofs.CommandLine.{with_notes}
use Rattle.trace_arguments.proofs.line.command_line.Goals as goal

pub name_in-requires : goal.name_in-requires
name_in-requires g c =
    let line = opened_line _ _ _ _ c.in_ok-matches.ensures.ok c.unwrap.ensures c.subcommand.ensures.name c.subcommand.ensures.rows in
    asked _ _ _ line judge_command c.in-judge.is refl

pub returns-in-judge-clause-ok : goal.returns-in-judge-clause-ok
returns-in-judge-clause-ok g c =
    let line = opened_line _ _ _ _ c.in_ok-matches.ensures.ok c.unwrap.ensures c.subcommand.ensures.name c.subcommand.ensures.rows in
    line_given _ _ _ line judge_command c.in-judge.is refl _ c.name_in.ensures.line

pub any_in-requires : goal.any_in-requires
any_in-requires g c =
    let line = opened_line _ _ _ _ c.in_ok-matches.ensures.ok c.unwrap.ensures c.subcommand.ensures.name c.subcommand.ensures.rows in
    asked _ _ _ line any_command c.in-any.is refl

pub returns-in-any-clause-ok : goal.returns-in-any-clause-ok
returns-in-any-clause-ok g c =
    let line = opened_line _ _ _ _ c.in_ok-matches.ensures.ok c.unwrap.ensures c.subcommand.ensures.name c.subcommand.ensures.rows in
    line_given _ _ _ line any_command c.in-any.is refl _ c.any_in.ensures

pub all_in-requires : goal.all_in-requires
all_in-requires g c =
    let line = opened_line _ _ _ _ c.in_ok-matches.ensures.ok c.unwrap.ensures c.subcommand.ensures.name c.subcommand.ensures.rows in
    asked _ _ _ line all_command c.in-all.is refl

pub returns-in-all-clause-ok : goal.returns-in-all-clause-ok
returns-in-all-clause-ok g c =
    let line = opened_line _ _ _ _ c.in_ok-matches.ensures.ok c.unwrap.ensures c.subcommand.ensures.name c.subcommand.ensures.rows in
    line_given _ _ _ line all_command c.in-all.is refl _ c.all_in.ensures

pub diff_in-requires : goal.diff_in-requires
diff_in-requires g c =
    let line = opened_line _ _ _ _ c.in_ok-matches.ensures.ok c.unwrap.ensures c.subcommand.ensures.name c.subcommand.ensures.rows in
    asked _ _ _ line diff_command c.in-diff.is refl

pub returns-in-diff-clause-ok : goal.returns-in-diff-clause-ok
returns-in-diff-clause-ok g c =
    let line = opened_line _ _ _ _ c.in_ok-matches.ensures.ok c.unwrap.ensures c.subcommand.ensures.name c.subcommand.ensures.rows in
    line_given _ _ _ line diff_command c.in-diff.is refl _ c.diff_in.ensures

pub lint_in-requires : goal.lint_in-requires
lint_in-requires g c =
    let line = opened_line _ _ _ _ c.in_ok-matches.ensures.ok c.unwrap.ensures c.subcommand.ensures.name c.subcommand.ensures.rows in
    asked _ _ _ line lint_command c.in-lint.is refl

pub returns-in-lint-clause-ok : goal.returns-in-lint-clause-ok
returns-in-lint-clause-ok g c =
    let line = opened_line _ _ _ _ c.in_ok-matches.ensures.ok c.unwrap.ensures c.subcommand.ensures.name c.subcommand.ensures.rows in
    line_given _ _ _ line lint_command c.in-lint.is refl _ c.lint_in.ensures

pub run_in-requires : goal.run_in-requires
run_in-requires g c =
    let line = opened_line _ _ _ _ c.in_ok-matches.ensures.ok c.unwrap.ensures c.subcommand.ensures.name c.subcommand.ensures.rows in
    asked _ _ _ line run_command c.in-run.is refl

pub returns-in-run-clause-ok : goal.returns-in-run-clause-ok
returns-in-run-clause-ok g c =
    let line = opened_line _ _ _ _ c.in_ok-matches.ensures.ok c.unwrap.ensures c.subcommand.ensures.name c.subcommand.ensures.rows in
    line_given _ _ _ line run_command c.in-run.is refl _ c.run_in.ensures.line

pub test_in-requires : goal.test_in-requires
test_in-requires g c =
    let line = opened_line _ _ _ _ c.in_ok-matches.ensures.ok c.unwrap.ensures c.subcommand.ensures.name c.subcommand.ensures.rows in
    asked _ _ _ line test_command c.in-test.is refl

pub returns-in-test-clause-ok : goal.returns-in-test-clause-ok
returns-in-test-clause-ok g c =
    let line = opened_line _ _ _ _ c.in_ok-matches.ensures.ok c.unwrap.ensures c.subcommand.ensures.name c.subcommand.ensures.rows in
    line_given _ _ _ line test_command c.in-test.is refl _ c.test_in.ensures.line

pub compile_in-requires : goal.compile_in-requires
compile_in-requires g c =
    let line = opened_line _ _ _ _ c.in_ok-matches.ensures.ok c.unwrap.ensures c.subcommand.ensures.name c.subcommand.ensures.rows in
    asked _ _ _ line compile_command c.in-compile.is refl

pub returns-in-compile-clause-ok : goal.returns-in-compile-clause-ok
returns-in-compile-clause-ok g c =
    let line = opened_line _ _ _ _ c.in_ok-matches.ensures.ok c.unwrap.ensures c.subcommand.ensures.name c.subcommand.ensures.rows in
    line_given _ _ _ line compile_command c.in-compile.is refl _ c.compile_in.ensures

pub check_in-requires : goal.check_in-requires
check_in-requires g c =
    let line = opened_line _ _ _ _ c.in_ok-matches.ensures.ok c.unwrap.ensures c.subcommand.ensures.name c.subcommand.ensures.rows in
    asked _ _ _ line check_command c.in-check.is refl

pub returns-in-check-clause-ok : goal.returns-in-check-clause-ok
returns-in-check-clause-ok g c =
    let line = opened_line _ _ _ _ c.in_ok-matches.ensures.ok c.unwrap.ensures c.subcommand.ensures.name c.subcommand.ensures.rows in
    line_given _ _ _ line check_command c.in-check.is refl _ c.check_in.ensures

pub name_in-requires-in-match : goal.name_in-requires-in-match
name_in-requires-in-match g c =
    let line = opened_line _ _ _ _ c.in_ok-matches.ensures.ok c.unwrap.ensures c.subcommand.ensures.name c.subcommand.ensures.rows in
    asked _ _ _ line match_command c.in-match.is refl

pub returns-in-match-clause-ok : goal.returns-in-match-clause-ok
returns-in-match-clause-ok g c =
    let line = opened_line _ _ _ _ c.in_ok-matches.ensures.ok c.unwrap.ensures c.subcommand.ensures.name c.subcommand.ensures.rows in
    line_given _ _ _ line match_command c.in-match.is refl _ c.name_in-in-match.ensures.line

pub steps_in-requires : goal.steps_in-requires
steps_in-requires g c =
    let line = opened_line _ _ _ _ c.in_ok-matches.ensures.ok c.unwrap.ensures c.subcommand.ensures.name c.subcommand.ensures.rows in
    asked _ _ _ line steps_command c.in-steps.is refl

pub returns-in-steps-clause-ok : goal.returns-in-steps-clause-ok
returns-in-steps-clause-ok g c =
    let line = opened_line _ _ _ _ c.in_ok-matches.ensures.ok c.unwrap.ensures c.subcommand.ensures.name c.subcommand.ensures.rows in
    line_given _ _ _ line steps_command c.in-steps.is refl _ c.steps_in.ensures.line

pub storm_in-requires : goal.storm_in-requires
storm_in-requires g c =
    let line = opened_line _ _ _ _ c.in_ok-matches.ensures.ok c.unwrap.ensures c.subcommand.ensures.name c.subcommand.ensures.rows in
    asked _ _ _ line storm_command c.in-storm.is refl

pub returns-in-storm-clause-ok : goal.returns-in-storm-clause-ok
returns-in-storm-clause-ok g c =
    let line = opened_line _ _ _ _ c.in_ok-matches.ensures.ok c.unwrap.ensures c.subcommand.ensures.name c.subcommand.ensures.rows in
    line_given _ _ _ line storm_command c.in-storm.is refl _ c.storm_in.ensures

pub names_in-requires : goal.names_in-requires
names_in-requires g c =
    let line = opened_line _ _ _ _ c.in_ok-matches.ensures.ok c.unwrap.ensures c.subcommand.ensures.name c.subcommand.ensures.rows in
    asked _ _ _ line names_command c.in-names.is refl

pub returns-in-names-clause-ok : goal.returns-in-names-clause-ok
returns-in-names-clause-ok g c =
    let line = opened_line _ _ _ _ c.in_ok-matches.ensures.ok c.unwrap.ensures c.subcommand.ensures.name c.subcommand.ensures.rows in
    line_given _ _ _ line names_command c.in-names.is refl _ c.names_in.ensures

pub explain_in-requires : goal.explain_in-requires
explain_in-requires g c =
    let line = opened_line _ _ _ _ c.in_ok-matches.ensures.ok c.unwrap.ensures c.subcommand.ensures.name c.subcommand.ensures.rows in
    asked _ _ _ line explain_command c.in-explain.is refl

pub import_in-requires : goal.import_in-requires
import_in-requires g c =
    let line = opened_line _ _ _ _ c.in_ok-matches.ensures.ok c.unwrap.ensures c.subcommand.ensures.name c.subcommand.ensures.rows in
    asked _ _ _ line import_command c.in-import.is refl

pub audit_in-requires : goal.audit_in-requires
audit_in-requires g c =
    let line = opened_line _ _ _ _ c.in_ok-matches.ensures.ok c.unwrap.ensures c.subcommand.ensures.name c.subcommand.ensures.rows in
    asked _ _ _ line audit_command c.in-audit.is refl

pub returns-in-audit-clause-ok : goal.returns-in-audit-clause-ok
returns-in-audit-clause-ok g c =
    let line = opened_line _ _ _ _ c.in_ok-matches.ensures.ok c.unwrap.ensures c.subcommand.ensures.name c.subcommand.ensures.rows in
    line_given _ _ _ line audit_command c.in-audit.is refl _ c.in_ok-audit_in-in-audit.ensures

pub returns-in-explain-clause-ok : goal.returns-in-explain-clause-ok
returns-in-explain-clause-ok g c =
    let line = opened_line _ _ _ _ c.in_ok-matches.ensures.ok c.unwrap.ensures c.subcommand.ensures.name c.subcommand.ensures.rows in
    sym (explain_line _ _ _ line c.in-explain.is) ∙ ap (option_map plain_line) c.in_ok-explain_in-in-explain.ensures.ok

pub returns-in_err-explain_in-in-explain-clause-err : goal.returns-in_err-explain_in-in-explain-clause-err
returns-in_err-explain_in-in-explain-clause-err g c =
    let line = opened_line _ _ _ _ c.in_ok-matches.ensures.ok c.unwrap.ensures c.subcommand.ensures.name c.subcommand.ensures.rows in
    own_fault _ _ _ line plain_line _ _ _ (explain_line _ _ _ line c.in-explain.is) c.in_err-explain_in-in-explain.ensures.err
    c.from_residual-in_err-explain_in-in-explain.ensures.1

pub flag_in-requires : goal.flag_in-requires
flag_in-requires g c =
    let line = opened_line _ _ _ _ c.in_ok-matches.ensures.ok c.unwrap.ensures c.subcommand.ensures.name c.subcommand.ensures.rows in
    flag_asked import_command (found_of _) (asked _ _ _ line import_command c.in-import.is refl) (codes "verbose") refl

pub returns-in-import-clause-ok : goal.returns-in-import-clause-ok
returns-in-import-clause-ok g c =
    let line = opened_line _ _ _ _ c.in_ok-matches.ensures.ok c.unwrap.ensures c.subcommand.ensures.name c.subcommand.ensures.rows in
    import_given _ _ _ line c.in-import.is _ _ c.in_ok-import_in-in-import.ensures.ok c.flag_in.ensures

pub returns-in_err-import_in-in-import-clause-err : goal.returns-in_err-import_in-in-import-clause-err
returns-in_err-import_in-in-import-clause-err g c =
    let line = opened_line _ _ _ _ c.in_ok-matches.ensures.ok c.unwrap.ensures c.subcommand.ensures.name c.subcommand.ensures.rows in
    own_fault _ _ _ line (with_notes _ _ _ line) _ _ _ (import_line _ _ _ line c.in-import.is) c.in_err-import_in-in-import.ensures.err
    c.from_residual-in_err-import_in-in-import.ensures.1

pub unreachable-requires : goal.unreachable-requires
unreachable-requires g c =
    let line = opened_line _ _ _ _ c.in_ok-matches.ensures.ok c.unwrap.ensures c.subcommand.ensures.name c.subcommand.ensures.rows in
    known_command _ _ _ line c.in_default.not-judge c.in_default.not-explain c.in_default.not-any c.in_default.not-all
    c.in_default.not-diff c.in_default.not-lint c.in_default.not-run c.in_default.not-test
    c.in_default.not-compile c.in_default.not-check c.in_default.not-match c.in_default.not-steps
    c.in_default.not-storm c.in_default.not-import c.in_default.not-names c.in_default.not-audit
