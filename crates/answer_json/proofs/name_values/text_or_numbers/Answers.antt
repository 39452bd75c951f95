use Rattle.std.proofs.Common.{◌∙◌}
use Rattle.std.proofs.lemmas.Result.{IfOk-weaker}
use Rattle.answer_json.proofs.NameCases.{name_of_bytes, name_of_text}
use Rattle.answer_json.proofs.name_values.text_or_numbers.Goals as goal

pub returns-in-Ok : goal.returns-in-Ok
returns-in-Ok c =
    let text = name_of_text c.args.bytes.now c.in-Ok.text.now c.in-Ok.ensures.cases.1 c.in-Ok.ensures.cases.0 in
    IfOk-weaker c.try_from_str.result _ _ (λ _ h. h ∙ text) c.try_from_str.ensures

pub returns-in-Err : goal.returns-in-Err
returns-in-Err c =
    let numbers = name_of_bytes c.args.bytes.now c.in-Err.ensures.cases.0 in
    IfOk-weaker c.byte_numbers.result _ _ (λ _ h. h ∙ numbers) c.byte_numbers.ensures
