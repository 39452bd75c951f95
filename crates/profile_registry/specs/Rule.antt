-- The rule of the published policy: what is always true of the store that readers read, and of all that publisher and readers
-- know. Readers may come at any time, and know nothing then.
use Rattle.std.specs.Prelude.{◌≡◌, ℕ, ◌+◌, List, [], ◌++◌, length}
use Rattle.std.specs.Ordering.{nat_cmp}
use Rattle.std.specs.Cmp.Lexicographic.{slice_cmp}
use Rattle.std.specs.BTreeMap.{get_by}
use Rattle.std.specs.Option.{option_map}
use mathlib.Core.Option.{some}
use mathlib.Core.List.{IsPrefix}
use lib.ListN.{get_elem?}
use Rattle.mediation.specs.Deeds.{Deed, Policy, policy_after}
use Rattle.mediation.specs.PolicyChanges.{judge_shared}
use Rattle.profile_registry.specs.declared.known.Known.{Known}
use Rattle.profile_registry.specs.declared.store.Store.{Store}

-- what the profile of each name says
abbrev pub policy_of : Store → Policy
policy_of store name = option_map judge_shared (get_by (λ key. slice_cmp nat_cmp name key.items) store.profiles)

-- the store is what these changes made, the first of them first, and its version is their number
pub record IsMadeBy (deeds : List Deed) (store : Store) : Type 0 where
  pub policy : (name : List ℕ) → policy_of store name ≡ policy_after deeds name
  pub version : store.version ≡ length deeds

-- There is one list of all changes that were ever published. They made the store, and they begin with what each seat has seen.
abbrev pub IsPublished : Store → List Known → Type 0
IsPublished store views =
    (deeds : List Deed) × IsMadeBy deeds store
    × ((seat : ℕ) (known : Known) → get_elem? views seat ≡ some known → IsPrefix known.seen deeds)

abbrev pub newcomer : Known
newcomer = record { marker = record {}; seen = []; entries = 0; learned = [] }

-- A reader's entry, at a store: it sees at least what it had seen, and it is all that made the store. The entry is counted, and
-- nothing is learned from a note.
abbrev pub sees : Known → Store → Store → Known → Type 0
sees before store after now =
    IsPrefix before.seen now.seen × IsMadeBy now.seen store × (now.entries ≡ before.entries + 1) × (now.learned ≡ before.learned)

-- The publisher's step, from a store to the next one: what it knew to be published, and after it what was staged.
abbrev pub publishes : List Deed → Known → Store → Store → Known → Type 0
publishes staged before store after now = (now.seen ≡ before.seen ++ staged) × IsMadeBy now.seen after

-- a publisher's note says what it knows, and a reader that learns it knows that from then on
abbrev pub noted : Known → Known
noted publisher = publisher

abbrev pub learned : Known → Known → Known
learned reader note = record reader { seen = note.seen; learned = note.seen }
