use Rattle.std.proofs.Common.{◌≡◌, ◌++◌, List, Vec, Global, ℕ, ◌∙◌, ap, ap₂, drop}
use Rattle.answer_json.specs.Lines.{json_line}
use Rattle.answer_json.specs.inner.Front.{rest_of_match}
use Rattle.answer_json.proofs.JoinedVerdicts.{line_of_parts, without_first}
use Rattle.answer_json.proofs.lines.match_line.Goals as goal

pub returns-in-Ok : goal.returns-in-Ok
returns-in-Ok c =
    let front = ap (λ (v : Vec ℕ Global). v.items) c.into_bytes-line.ensures.value ∙ c.in_ok-front.ensures in
    let rest : c.deref.result.now ≡ json_line (rest_of_match c.args.verdict c.args.steps) = c.deref.ensures.value
    ∙ c.in_ok-rest.ensures ∙ ap json_line c.in_ok-rest_of_match.ensures.value in
    c.in-Ok.ensures.items
    ∙ ap₂ (λ (x y : List ℕ). x ++ y) front (without_first c.deref.result.now ∙ ap (drop 1) rest)
    ∙ line_of_parts c.args.verdict c.args.steps c.args.look_ups
