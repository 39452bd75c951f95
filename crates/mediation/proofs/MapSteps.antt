-- What the map says after a change, after all of them, and once it is copied.
use Rattle.std.proofs.Common.{◌≡◌, ℕ, ◌+◌, ◌<◌, ◌≤◌, Bool, true, false, List, [], ◌∷◌, ◌++◌, Option, Some, None, BTreeMap, Vec, refl, sym}
use Rattle.std.proofs.Common.{ap, ◌∙◌, map, length, take, get_or}
use Rattle.std.proofs.lemmas.List.{take_more, take_all, map-append}
use Rattle.std.proofs.lemmas.List.Elements.{same_from_all_zip}
use Rattle.std.proofs.lemmas.Map.Entries.{lookup_clone}
use Rattle.std.specs.Prelude.{if◌then◌else◌, bytes_eq, vec_len}
use Rattle.std.specs.Arc.{arc_value}
use Rattle.std.specs.BTreeMap.{is_at}
use Rattle.std.specs.List.{AllZip}
use Rattle.std.specs.Map.{lookup}
use Rattle.std.specs.Option.{option_map, MatchOption, IsSomeAnd}
use Rattle.std.specs.Ordering.{nat_cmp}
use Rattle.std.specs.Cmp.Lexicographic.{slice_cmp}
use Rattle.std.specs.declared.alloc.Global.{Global}
use Rattle.std.specs.declared.sync.Arc.{Arc}
use Rattle.matcher.specs.declared.profiles.AnyProfile.{AnyProfile}
use Rattle.matcher.specs.declared.profiles.PolicyChange.{PolicyChange}
use Rattle.mediation.specs.laws.DeedLaws.{after_both}
use Rattle.mediation.specs.Deeds.{Policy, after_deed, after_deeds}
use Rattle.mediation.specs.PolicyChanges.{deed_of, judge_shared}
use Rattle.mediation.specs.Profiles.{judge_of}
use Rattle.mediation.specs.declared.published_profiles.Profiles.{Profiles}
use Rattle.mediation.specs.inner.Profiles.{policy_in}

abbrev Share : Type 0
Share = Arc AnyProfile Global

abbrev Name : Type 0
Name = Vec ℕ Global

pub mapped_if : {X Y : Type 0} (f : X → Y) (b : Bool) (x y : Option X) → option_map f (if b then x else y)
    ≡ (if b then option_map f x else option_map f y)
mapped_if f true x y = refl
mapped_if f false x y = refl

-- one more change
pub after_more : (policy so_far next : Policy) (changes : List PolicyChange) (i : ℕ) (change : PolicyChange) → i < length changes →
    change ≡ get_or changes i change
    → so_far ≡ after_deeds policy (map deed_of (take i changes)) → next ≡ after_deed so_far (deed_of change)
    → next ≡ after_deeds policy (map deed_of (take (i + 1) changes))
after_more policy so_far next changes i change low is before step =
    step ∙ ap (λ p. after_deed p (deed_of change)) before
    ∙ ap (λ x. after_deed (after_deeds policy (map deed_of (take i changes))) (deed_of x)) is
    ∙ sym (after_both policy (map deed_of (take i changes)) (deed_of (get_or changes i change) ∷ []))
    ∙ ap (after_deeds policy) (sym (map-append deed_of (take i changes) (get_or changes i change ∷ [])) ∙ ap (map deed_of)
    (sym (take_more changes i change low)))

-- a share says what the share says that it is a clone of
same_said : (o p : Option Share) → MatchOption o (p ≡ None) (λ x. IsSomeAnd p (λ y. arc_value y ≡ arc_value x)) → option_map judge_shared p
    ≡ option_map judge_shared o
same_said None p none = ap (option_map judge_shared) none
same_said (Some x) None never = absurd never
same_said (Some x) (Some y) same = ap (λ profile. Some (judge_of profile)) same

pub copied_says : (profiles copy : Profiles)
    → AllZip (λ (e f : Name × Share). (AllZip (λ (x y : ℕ). y ≡ x) e.0.items f.0.items × (vec_len f.0 ≡ vec_len e.0))
    × (arc_value f.1 ≡ arc_value e.1)) profiles.by_name.entries copy.by_name.entries
    → policy_in copy ≡ policy_in profiles
copied_says profiles copy zip = λ i name.
    same_said _ _ (lookup_clone (λ (k l : Name). AllZip (λ (x y : ℕ). y ≡ x) k.items l.items × (vec_len l ≡ vec_len k))
    (λ (x y : Share). arc_value y ≡ arc_value x) (is_at (λ (key : Name). slice_cmp nat_cmp name key.items))
    (λ k l same. ap (λ items. is_at (λ (q : List ℕ). slice_cmp nat_cmp name q) items)
    (same_from_all_zip (λ (x y : ℕ). y ≡ x) k.items l.items same.0 (λ x y e. e)))
    profiles.by_name.entries copy.by_name.entries zip) i
