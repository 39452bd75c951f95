use Rattle.std.proofs.Common.{◌≡◌, ◌∙◌, ℕ, length, ap, ap₂, sym}
use Rattle.std.specs.Prelude.{Option}
use Rattle.std.proofs.lemmas.Result.{IfOk-weaker}
use Rattle.answer_json.specs.Lines.{json_line}
use Rattle.answer_json.specs.Values.{match_object}
use Rattle.trace_report.specs.declared.format.Format.{Format}
use Rattle.trace_commands.specs.Tables.{match_lines}
use Rattle.trace_commands.specs.inner.Counts.{counted_text}
use Rattle.trace_commands.proofs.ImageAnswers.{counted}
use Rattle.trace_commands.proofs.match_command.match_lines.Goals as goal

pub returns-in-Text : goal.returns-in-Text
returns-in-Text c =
    let t = c.args.image.now in
    let name = c.args.name.now in
    let v = c.verdict_by_image-verdict.result.verdict in
    let is = c.verdict_by_image-verdict.ensures in
    let same = ap₂ (λ (n : ℕ) (o : Option ℕ). counted_text v n o) is.steps is.look_ups
    ∙ counted t name v ∙ ap (λ (f : Format). match_lines f t name v) (sym c.in-Text.is) in
    IfOk-weaker c.counted_text.result _ _ (λ _ h. (v, is.verdict, h ∙ same)) c.counted_text.ensures

pub returns-in-Json : goal.returns-in-Json
returns-in-Json c =
    let t = c.args.image.now in
    let name = c.args.name.now in
    let v = c.verdict_by_image-verdict.result.verdict in
    let is = c.verdict_by_image-verdict.ensures in
    let same = ap₂ (λ (n : ℕ) (o : Option ℕ). json_line (match_object v n o)) is.steps
    is.look_ups
    ∙ ap (λ (f : Format). match_lines f t name v) (sym c.in-Json.is) in
    IfOk-weaker c.match_line.result _ _ (λ _ h. (v, is.verdict, h ∙ same)) c.match_line.ensures
