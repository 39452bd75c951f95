-- The last deed of a list decides what is published under a name, or those before it do.
use Rattle.std.proofs.Common.{◌≡◌, ℕ, List, [], ◌∷◌, ◌++◌, map, ap, ◌∙◌, None}
use Rattle.std.proofs.lemmas.List.{map-append}
use Rattle.matcher.specs.declared.profiles.PolicyChange.{PolicyChange}
use Rattle.mediation.specs.laws.DeedLaws.{after_both}
use Rattle.mediation.specs.Deeds.{Policy, after_deed, policy_after}
use Rattle.mediation.specs.PolicyChanges.{deed_of}

pub last_deed : (changes before : List PolicyChange) (change : PolicyChange) (name : List ℕ) → changes ≡ before ++ change ∷ []
    → policy_after (map deed_of changes) name ≡ after_deed (policy_after (map deed_of before)) (deed_of change) name
last_deed changes before change name is =
    ap (λ cs. policy_after (map deed_of cs) name) is ∙ ap (λ deeds. policy_after deeds name) (map-append deed_of before (change ∷ []))
    ∙ ap (λ (p : Policy). p name) (after_both (λ n. None) (map deed_of before) (deed_of change ∷ []))
