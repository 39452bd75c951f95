-- Each step keeps the rule of the published policy.
use Rattle.std.proofs.Common.{◌≡◌, ◌≢◌, ℕ, zero, suc, ◌+◌, List, [], ◌∷◌, ◌++◌, cond, map, length, fold, set, Some, None, refl, sym, ap}
use Rattle.std.proofs.Common.{◌∙◌, subst, ⊎_elim, arith, length-append}
use Rattle.std.proofs.lemmas.List.{length-map}
use Rattle.std.proofs.lemmas.Map.Text.{is_eq-slice_cmp}
use Rattle.std.specs.Prelude.{bytes_eq}
use Rattle.std.specs.Ordering.{nat_cmp, eq_by_cmp}
use Rattle.std.specs.Cmp.Lexicographic.{slice_cmp, nat_list_cmp_total, nat_list_eq_equiv}
use Rattle.std.specs.FinMap.{empty, get, get-insert, get-remove, get-empty}
use mathlib.Core.Option.{some, some-injective, some-ne-none}
use mathlib.Core.List.{IsPrefix}
use lib.ListN.{get_elem?}
use Rattle.atomic_table.proofs.Lists.{at_set, at_snoc}
use Rattle.crossbeam_utils.specs.Register.{Admits, Turns, TurnsAt, Forks, Merges}
use Rattle.matcher.specs.declared.profiles.PolicyChange.{PolicyChange}
use Rattle.mediation.specs.Deeds.{Deed, Policy, published, removed, after_deed, after_deeds, policy_after}
use Rattle.profile_registry.specs.declared.known.Known.{Known}
use Rattle.profile_registry.specs.declared.store.Contents.{Contents}
use Rattle.profile_registry.specs.declared.store.Store.{Store}
use Rattle.mediation.specs.PolicyChanges.{deed_of}
use Rattle.profile_registry.specs.Rule.{policy_of, IsMadeBy, IsPublished, newcomer, sees, publishes, learned}
use Rattle.profile_registry.specs.inner.Contents.{contents_of, with_change}
use Rattle.profile_registry.specs.inner.Names.{Profiles, profiles_after}
use Rattle.profile_registry.specs.laws.Prefixes.{prefix_self, prefix_none, prefix_whole, prefix_more}
use Rattle.profile_registry.proofs.StoreLookUps.{got}

-- a map, as a policy
abbrev said_in : Profiles → Policy
said_in profiles name = get profiles name

same_test : (own name : List ℕ) → eq_by_cmp (slice_cmp nat_cmp) name own ≡ bytes_eq own name
same_test own name = is_eq-slice_cmp name own ∙ nat_list_eq_equiv.symm name own

after_one : (profiles : Profiles) (deed : Deed) → said_in (profiles_after profiles deed) ≡ after_deed (said_in profiles) deed
after_one profiles (published own judge) = λ i name.
    (get-insert nat_list_cmp_total profiles own judge name ∙ ap (λ b. cond b (Some judge) (get profiles name)) (same_test own name)) i
after_one profiles (removed own) = λ i name.
    (get-remove nat_list_cmp_total profiles own name ∙ ap (λ b. cond b None (get profiles name)) (same_test own name)) i

after_all : (profiles : Profiles) (deeds : List Deed) → said_in (fold profiles_after profiles deeds) ≡ after_deeds (said_in profiles) deeds
after_all profiles [] = refl
after_all profiles (deed ∷ deeds) = after_all (profiles_after profiles deed) deeds ∙ ap (λ p. after_deeds p deeds)
    (after_one profiles deed)

after_both : (policy : Policy) (first later : List Deed) → after_deeds policy (first ++ later)
    ≡ after_deeds (after_deeds policy first) later
after_both policy [] later = refl
after_both policy (deed ∷ first) later = after_both (after_deed policy deed) first later

-- all changes at once
changed_by : (contents : Contents) (changes : List PolicyChange) → (fold with_change contents changes).profiles
    ≡ fold profiles_after contents.profiles (map deed_of changes)
changed_by contents [] = refl
changed_by contents (change ∷ changes) = changed_by (with_change contents change) changes

counted_by : (contents : Contents) (changes : List PolicyChange) → (fold with_change contents changes).version
    ≡ contents.version + length changes
counted_by contents [] = omega arith
counted_by contents (change ∷ changes) = let rest = counted_by (with_change contents change) changes in omega arith

policy_said : (store : Store) → policy_of store ≡ said_in (contents_of store).profiles
policy_said store = λ i name. sym (got name store.profiles.entries) i

-- the next store is made by what the publisher knew and what was staged
made_next : (seen : List Deed) (x y : Store) (changes : List PolicyChange) → IsMadeBy seen x → contents_of y ≡ fold with_change
    (contents_of x) changes
    → IsMadeBy (seen ++ map deed_of changes) y
made_next seen x y changes made is =
    let deeds = map deed_of changes in
    let before : policy_of x ≡ policy_after seen = λ i name. made.policy name i in
    let after : policy_of y ≡ policy_after (seen ++ deeds) =
    policy_said y ∙ ap (λ (c : Contents). said_in c.profiles) is ∙ ap said_in (changed_by (contents_of x) changes)
    ∙ after_all (contents_of x).profiles deeds
    ∙ ap (λ p. after_deeds p deeds) (sym (policy_said x) ∙ before) ∙ sym (after_both (λ name. None) seen deeds) in
    let version : y.version ≡ length (seen ++ deeds) =
    let now : y.version ≡ (fold with_change (contents_of x) changes).version = ap (λ (c : Contents). c.version) is in
    let counted = counted_by (contents_of x) changes in
    let first = made.version in
    let long = length-append seen deeds in
    let mapped : length deeds ≡ length changes = length-map changes deed_of in
    omega arith in
    record { policy = λ name i. after i name; version = version }

abbrev Fits : List Deed → Known → Type 0
Fits deeds known = IsPrefix known.seen deeds

fits_set : (deeds : List Deed) (views : List Known) (id : ℕ) (new : Known) → Fits deeds new →
    ((seat : ℕ) (known : Known) → get_elem? views seat ≡ some known → Fits deeds known)
    → (seat : ℕ) (known : Known) → get_elem? (set views id new) seat ≡ some known → Fits deeds known
fits_set deeds views id new mine others seat known e =
    ⊎_elim (λ (t : (seat ≡ id) × (new ≡ known)). subst (Fits deeds) t.1 mine)
    (λ (t : (seat ≢ id) × (get_elem? views seat ≡ some known)). others seat known t.1) (at_set views id seat new known e)

pub admits : Admits IsPublished newcomer
admits x views h = (
  h.0,
  h.1,
  λ seat known e. ⊎_elim (h.2 seat known) (λ (t : newcomer ≡ known). subst (Fits h.0) t (prefix_none h.0))
      (at_snoc views newcomer known seat e),
)

abbrev knowing : List Deed → Known
knowing deeds = record { marker = record {}; seen = deeds; entries = 0; learned = [] }

-- what a reader knows that was let in once more
abbrev after_entry : List Deed → Known → Known
after_entry deeds known = record { marker = record {}; seen = deeds; entries = known.entries + 1; learned = known.learned }

pub turns : (id : ℕ) (known : Known) → Turns IsPublished id known (λ x. x) sees
turns id known x views h at = (
  after_entry h.0 known,
  (h.0, h.1, fits_set h.0 views id (after_entry h.0 known) (prefix_self h.0) h.2),
  (h.2 id known at, h.1, refl, refl),
)

pub brings : (id : ℕ) (known : Known) (x y : Store) (changes : List PolicyChange) → length known.seen ≡ x.version → contents_of y
    ≡ fold with_change (contents_of x) changes
    → TurnsAt IsPublished id known x y (publishes (map deed_of changes))
brings id known x y changes long is views h at =
    let begins : IsPrefix known.seen h.0 = h.2 id known at in
    let counted : x.version ≡ length h.0 = h.1.version in
    let whole : known.seen ≡ h.0 = prefix_whole known.seen h.0 begins (omega arith) in
    let deeds : List Deed = known.seen ++ map deed_of changes in
    let made : IsMadeBy deeds y = made_next known.seen x y changes (subst (λ l. IsMadeBy l x) (sym whole) h.1) is in
    let longer : (seen : List Deed) → IsPrefix seen h.0 → IsPrefix seen deeds =
    λ seen p. prefix_more seen known.seen (map deed_of changes) (subst (IsPrefix seen) (sym whole) p) in (
      knowing deeds,
      (deeds, made, fits_set deeds views id (knowing deeds) (prefix_self deeds) (λ seat other e. longer other.seen (h.2 seat other e))),
      (refl, made),
    )

pub forks : (id : ℕ) (known : Known) → Forks IsPublished id known known known
forks id known x views h at = (
  h.0,
  h.1,
  λ seat other e. ⊎_elim (λ (l : get_elem? (set views id known) seat ≡ some other). fits_set h.0 views id known
      (h.2 id known at) h.2 seat other l) (λ (t : known ≡ other). subst (Fits h.0) t (h.2 id known at))
      (at_snoc (set views id known) known other seat e),
)

pub merges : (id : ℕ) (known : Known) (other : ℕ) (note : Known) → Merges IsPublished id known other note (learned known note) newcomer
merges id known other note x views h at away there =
    let both = learned known note in
    let told : Fits h.0 note = ⊎_elim (λ (t : (other ≡ id) × (both ≡ note)). absurd (away t.0))
    (λ (t : (other ≢ id) × (get_elem? views other ≡ some note)). h.2 other note t.1) (at_set views id other both note there) in
    (h.0, h.1, fits_set h.0 (set views id both) other newcomer (prefix_none h.0) (fits_set h.0 views id both told h.2))

only : (seat : ℕ) (known : Known) → get_elem? (newcomer ∷ []) seat ≡ some known → Fits [] known
only zero known e = subst (Fits []) (some-injective newcomer known e) (prefix_self [])
only (suc seat) known e = absurd (some-ne-none known (sym e))

pub starts : (x : Store) → contents_of x ≡ record { version = 0; profiles = empty } → IsPublished x (newcomer ∷ [])
starts x is =
    let policy : policy_of x ≡ policy_after [] = policy_said x ∙ ap (λ (c : Contents). said_in c.profiles) is
    ∙ (λ i name. get-empty (slice_cmp nat_cmp) name i) in
    ([], record { policy = λ name i. policy i name; version = ap (λ (c : Contents). c.version) is }, only)
