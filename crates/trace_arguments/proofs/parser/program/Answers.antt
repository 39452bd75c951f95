use Rattle.std.proofs.Common.{◌≡◌, ◌∙◌, ap, codes, true}
use Rattle.std.specs.Prelude.{fold}
use Rattle.std.proofs.lemmas.Result.{IfOk-weaker}
use Rattle.clap.specs.Words.{App, app_of, new_app}
use Rattle.clap.specs.Simple.{app_of_fields}
use Rattle.trace_arguments.specs.CommandLine.{event_commands, image_commands, list_commands, profile_commands, question_commands}
use Rattle.trace_arguments.specs.CommandLine.{script_commands}
use Rattle.trace_arguments.specs.inner.Parser.{wanted_app, with_command}
use Rattle.trace_arguments.proofs.parser.program.Goals as goal

pub returns : goal.returns
returns c =
    let about : app_of c.about.result ≡ new_app (codes "aa-trace") = ap app_of_fields c.about.ensures ∙ c.new.ensures.app in
    let bare : app_of c.after_help.result ≡ new_app (codes "aa-trace") = ap app_of_fields c.after_help.ensures ∙ about in
    let told : app_of c.version.result ≡ record (new_app (codes "aa-trace")) {
      top =
          record (new_app (codes "aa-trace")).top { has_version = true };
    } =
    ap app_of_fields c.version.ensures ∙ ap (λ (a : App). record a { top = record a.top { has_version = true } }) bare in
    let wanted : app_of c.subcommand_required-bare.result ≡ wanted_app =
    ap app_of_fields c.subcommand_required-bare.ensures ∙ ap (λ (a : App). record a { top = record a.top { subcommand_required = true } })
    told in
    let judging = c.in_ok-judging.ensures ∙ ap (λ (a : App). fold with_command a profile_commands) wanted in
    let asking = c.in_ok-asking.ensures ∙ ap (λ (a : App). fold with_command a question_commands) judging in
    let running = c.in_ok-running.ensures ∙ ap (λ (a : App). fold with_command a script_commands) asking in
    let compiling = c.in_ok-compiling.ensures ∙ ap (λ (a : App). fold with_command a image_commands) running in
    let stepping = c.in_ok-stepping.ensures ∙ ap (λ (a : App). fold with_command a event_commands) compiling in
    IfOk-weaker c.with_list_commands.result _ _ (λ program h. h ∙ ap (λ (a : App). fold with_command a list_commands) stepping)
    c.with_list_commands.ensures
