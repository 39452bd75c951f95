use Rattle.std.proofs.Common.{◌≡◌, ◌+◌, ◌∷◌, ◌++◌, ℕ, List, Some, drop, sym, ap, ◌∙◌, append_assoc}
use Rattle.std.specs.Prelude.{slice_get, Bool}
use Rattle.std.specs.List.{flat_map}
use Rattle.std.proofs.lemmas.Result.{err_from_is_err_and}
use Rattle.apparmor_pieces.specs.Pieces.{Text}
use Rattle.apparmor_variables.specs.PathTexts.{alternative, alternatives}
use Rattle.apparmor_variables.proofs.Gets.{drop_at_get}
use Rattle.apparmor_variables.proofs.AddingSteps.{part_refused}
use Rattle.apparmor_variables.proofs.added_bytes.add_alternatives.Goals as goal

abbrev further : Bool → Bool → Text → Text
further before behind other = 44 ∷ alternative before behind other

-- the text at a place is the next that is still to come
next : (before behind : Bool) (list : List Text) (place : ℕ) (now whole text cut : Text) → slice_get list place ≡ Some text →
    cut ≡ alternative before behind text
    → now ++ flat_map (further before behind) (drop place list) ≡ whole →
    now ++ ((44 ∷ cut) ++ flat_map (further before behind) (drop (place + 1) list)) ≡ whole
next before behind list place now whole text cut at is h =
    ap (λ (x : Text). now ++ ((44 ∷ x) ++ flat_map (further before behind) (drop (place + 1) list))) is
    ∙ ap (λ (x : List Text). now ++ flat_map (further before behind) x) (sym (drop_at_get list place text at)) ∙ h

pub returns-in_err-add_further : goal.returns-in_err-add_further
returns-in_err-add_further g c =
    let before = c.args.slash_before in
    let behind = c.args.slash_behind in
    let list = c.args.list.now in
    let place = c.loop-place.place in
    let cut = c.alternative-in-loop-place.result.now in
    let p = err_from_is_err_and c.from_residual-in_err-add_further.result c.from_residual-in_err-add_further.ensures.1 in
    rw (p.1, p.2) (λ old held.
    let so_far = c.loop-place.invariant old held in
    let is = next before behind list place so_far.0 (old ++ alternatives before behind list) c.text-in-loop-place.result.now cut
    c.text-in-loop-place.ensures c.alternative-in-loop-place.ensures so_far.2 in
    part_refused c.in_err-add_further.field-0.0 old (alternatives before behind list) so_far.0 (44 ∷ cut)
    (flat_map (further before behind) (drop (place + 1) list)) is (c.in_err-add_further.ensures so_far.0 so_far.1))

pub loop-place-preserved : goal.loop-place-preserved
loop-place-preserved g c = λ old held.
    let before = c.args.slash_before in
    let behind = c.args.slash_behind in
    let list = c.args.list.now in
    let place = c.loop-place.place in
    let cut = c.alternative-in-loop-place.result.now in
    let so_far = c.loop-place.invariant old held in
    let is = next before behind list place so_far.0 (old ++ alternatives before behind list) c.text-in-loop-place.result.now cut
    c.text-in-loop-place.ensures c.alternative-in-loop-place.ensures so_far.2 in (
      so_far.0 ++ 44 ∷ cut,
      c.in_ok-add_further.ensures so_far.0 so_far.1,
      append_assoc so_far.0 (44 ∷ cut) (flat_map (further before behind) (drop (place + 1) list)) ∙ is,
    )
