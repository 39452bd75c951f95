-- A share stays that of its version while more of the policy is seen, and a reader stays in step with its publisher.
use Rattle.std.proofs.Common.{◌≡◌, ℕ, true, List, length, take, Some, None, Option, sym, ap, ◌∙◌, subst, arith}
use Rattle.std.proofs.lemmas.Bool.{eqb-true}
use Rattle.std.specs.Prelude.{nat_eq}
use Rattle.std.proofs.Math.Seq.{take-length}
use Rattle.std.specs.Option.{option_map, option_eq}
use Rattle.std.specs.declared.alloc.Global.{Global}
use Rattle.std.specs.declared.sync.Arc.{Arc}
use mathlib.Core.List.{IsPrefix}
use Rattle.justification.specs.laws.Later.{prefix_is_shorter, first_stay}
use Rattle.matcher.specs.declared.profiles.AnyProfile.{AnyProfile}
use Rattle.mediation.specs.Deeds.{Deed, policy_after}
use Rattle.mediation.specs.PolicyChanges.{judge_shared}
use Rattle.profile_registry.specs.laws.Prefixes.{prefix_whole}
use Rattle.profile_registry.specs.Views.{Reading}
use Rattle.path_session.specs.inner.Shares.{IsShareOf, IsInStep}

abbrev Share : Type 0
Share = Option (Arc AnyProfile Global)

pub share_stays : (seen more : List Deed) (name : List ℕ) (version : Option ℕ) (share : Share) → IsPrefix seen more →
    IsShareOf seen name version share → IsShareOf more name version share
share_stays seen more name None share begins is = tt
share_stays seen more name (Some version) share begins (within, is) =
    let shorter = prefix_is_shorter seen more begins in
    (omega arith, is ∙ ap (λ (deeds : List Deed). policy_after deeds name) (sym (first_stay seen more version begins within)))

-- if all that is seen is of the share's version, the share is what is published
pub share_is_current : (seen more : List Deed) (name : List ℕ) (version : ℕ) (known : Option ℕ) (share : Share) → IsPrefix seen more →
    IsShareOf seen name known share → known ≡ Some version → version ≡ length more
    → option_map judge_shared share ≡ policy_after more name
share_is_current seen more name version known share begins is known_is all =
    let (within, then) =
    share_stays seen more name (Some version) share begins (subst (λ (v : Option ℕ). IsShareOf seen name v share) known_is is) in
    then ∙ ap (λ (deeds : List Deed). policy_after deeds name) (ap (λ (n : ℕ). take n more) all ∙ take-length more)

-- what is published now is a share of the current version
pub share_begins : (seen : List Deed) (name : List ℕ) (version : ℕ) (share : Share) → version ≡ length seen →
    option_map judge_shared share ≡ policy_after seen name → IsShareOf seen name (Some version) share
share_begins seen name version share all is =
    let whole = ap (λ (n : ℕ). take n seen) all ∙ take-length seen in
    (omega arith, is ∙ ap (λ (deeds : List Deed). policy_after deeds name) (sym whole))

-- if it has read the version up to which it learned last, it has seen no more
pub same_step : (before now : Reading) (known : Option ℕ) (version : ℕ) → IsPrefix before.seen now.seen → now.learned ≡ before.learned
    → version ≡ length now.seen → IsInStep before known → option_eq nat_eq known (Some version) ≡ true → IsInStep now known
same_step before now None version longer learned whole step same = tt
same_step before now (Some v) version longer learned whole (all, counted) same =
    let version_is : v ≡ version = eqb-true v version same in
    let seen = prefix_whole before.seen now.seen longer (omega arith) in
    (sym seen ∙ all ∙ sym learned, version_is ∙ whole)
