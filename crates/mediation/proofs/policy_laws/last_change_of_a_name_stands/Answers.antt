use Rattle.std.proofs.Common.{◌≡◌, ◌++◌, [], ◌∷◌, ℕ, List, Some, None, Bool, true, refl, sym, ap, ◌∙◌}
use Rattle.std.proofs.lemmas.Slice.Eq.{bytes_eq-Decides}
use Rattle.std.specs.Prelude.{bytes_eq, if◌then◌else◌}
use Rattle.mediation.specs.laws.DeedLaws.{after_both}
use Rattle.mediation.specs.Deeds.{Deed, Policy, after_deed, policy_after, published, removed}
use Rattle.mediation.proofs.policy_laws.last_change_of_a_name_stands.Goals as goal

itself : (name : List ℕ) → bytes_eq name name ≡ true
itself name = (bytes_eq-Decides name name).1 refl

last : (deeds : List Deed) (deed : Deed) (name : List ℕ) → policy_after (deeds ++ deed ∷ []) name
    ≡ after_deed (policy_after deeds) deed name
last deeds deed name = ap (λ (p : Policy). p name) (after_both (λ n. None) deeds (deed ∷ []))

pub returns-clause-published : goal.returns-clause-published
returns-clause-published c = λ deeds name judge.
    last deeds (published name judge) name ∙ ap (λ (b : Bool). if b then Some judge else policy_after deeds name) (itself name)

pub returns-clause-removed_stays : goal.returns-clause-removed_stays
returns-clause-removed_stays c = λ deeds name judge stays.
    let gone : policy_after (deeds ++ removed name ∷ []) name ≡ None =
    last deeds (removed name) name ∙ ap (λ (b : Bool). if b then None else policy_after deeds name) (itself name) in
    let e : None ≡ Some judge = sym gone ∙ stays in cc
