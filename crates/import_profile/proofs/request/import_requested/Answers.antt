use Rattle.std.proofs.Common.{◌≡◌, ℕ, List, map, Err, Option, Some, None, sym, ap, ◌∙◌}
use Rattle.std.specs.Prelude.{option_map, slice_get}
use Rattle.import_scope.specs.Scopes.{Head}
use Rattle.import_profile.specs.Faults.{which}
use Rattle.import_profile.specs.Imports.{Outcome, chosen_number, head_outcome}
use Rattle.import_profile.proofs.ToldOutcomes.{tells_same}
use Rattle.import_profile.proofs.request.import_requested.Goals as goal

pub returns-in-Some : goal.returns-in-Some
returns-in-Some c = λ s declared profiles.
    let options = c.args.options in
    let items = c.args.text.now.items in
    let number_of : List Head → Option ℕ = chosen_number (option_map (λ name. name.now) options.profile) in
    let e : number_of s.profiles ≡ Some c.in-Some.number =
    ap number_of (sym profiles) ∙ ap number_of (sym c.profiles.ensures) ∙ sym c.in_ok-number.ensures ∙ c.in-Some.is in
    let outcome_of : Option ℕ → Outcome = λ o. elim o [
      | None ↦ Err (which (map (λ head. head.name) s.profiles))
      | Some number ↦ head_outcome options s items number (slice_get s.profiles number)
    ] in
    tells_same _ _ c.import.result (sym (ap outcome_of e)) (c.import.ensures s declared profiles)
