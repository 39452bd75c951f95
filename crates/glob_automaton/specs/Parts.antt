-- Parts of a list of rules: those with numbers above `first`, up to `last`. Their live places, their sets, and their automaton.
use Rattle.std.specs.Prelude.{◌≡◌, ◌↔◌, ℕ, ◌+◌, ◌<◌, ◌≤◌, List, [], length, All, Some, IsTrue, slice_get, slice_index_or}
use Rattle.names.specs.Bytes.{are_bytes}
use Rattle.names.specs.declared.permissions.Permission.{Permission}
use Rattle.rule_profile.specs.Profile.{RuleValue}
use Rattle.rule_profile.specs.Readable.{begins_with_slash}
use Rattle.rule_globs.specs.Verdict.{Hits}
use Rattle.names.specs.declared.kind.RuleKind.{RuleKind}
use Rattle.names.specs.declared.kind.RuleKind.TheVariants.{Allow, Deny}
use Rattle.names.specs.declared.record.Record.{Record}
use Rattle.names.specs.Least.{IsLeastOrNone, hits_of}
use Rattle.names.specs.Hits.{no_hits}
use Rattle.automaton_rows.specs.Automata.{Automaton, IsWhole, state_after}
use Rattle.glob_automaton.specs.Sets.{IsLive, IsPrefixOfName}

-- after both the same places of these rules are live
abbrev pub SameIn : List RuleValue → ℕ → ℕ → List ℕ → List ℕ → Type 0
SameIn rules first last one other = (n p : ℕ) → first < n → n ≤ last → IsLive rules one n p ↔ IsLive rules other n p

-- no place of these rules is live
abbrev pub NoneIn : List RuleValue → ℕ → ℕ → List ℕ → Type 0
NoneIn rules first last bytes = (n p : ℕ) → first < n → n ≤ last → ¬ (IsLive rules bytes n p)

-- n is the number of one of these rules, and it hits
abbrev pub HitsIn : List RuleValue → ℕ → ℕ → RuleKind → Permission → List ℕ → ℕ → Type 0
HitsIn rules first last kind p name n = (first < n) × (n ≤ last) × Hits rules kind p name n

abbrev pub IsLeastIn : List RuleValue → ℕ → ℕ → List ℕ → Record → Type 0
IsLeastIn rules first last name r = (p : Permission) →
    IsLeastOrNone (HitsIn rules first last Allow p name) (hits_of r p).allow × IsLeastOrNone (HitsIn rules first last Deny p name)
    (hits_of r p).deny

-- no two of these prefixes of names have the same set of places of these rules, and none has the empty one
pub record AreDifferentIn (rules : List RuleValue) (first last : ℕ) (prefixes : List (List ℕ)) : Type 0 where
  pub prefixes_of_names : All IsPrefixOfName prefixes
  pub some_live : All (λ bytes. ¬ (NoneIn rules first last bytes)) prefixes
  pub different : (i j : ℕ) → i < j → j < length prefixes →
      ¬ (SameIn rules first last (slice_index_or prefixes i []) (slice_index_or prefixes j []))

-- there are more than n
abbrev pub AreMoreThanIn : List RuleValue → ℕ → ℕ → ℕ → Type 0
AreMoreThanIn rules first last n = (prefixes : List (List ℕ)) × AreDifferentIn rules first last prefixes × (n < length prefixes + 1)

-- The automaton of these rules: a state for each set of their places that some bytes have, and state 0 for the empty set. For
-- every list of bytes it leads to the least of their hits.
pub record IsAutomatonOfPart (rules : List RuleValue) (first last : ℕ) (a : Automaton) : Type 0 where
  pub whole : IsWhole a
  pub least : (bytes : List ℕ) → are_bytes bytes → (r : Record) × (slice_get a.records (state_after a bytes) ≡ Some r)
      × IsLeastIn rules first last bytes r
  pub one_each : (x y : List ℕ) → are_bytes x → are_bytes y → (state_after a x ≡ state_after a y) ↔ SameIn rules first last x y
  pub dead : (bytes : List ℕ) → are_bytes bytes → (state_after a bytes ≡ 0) ↔ NoneIn rules first last bytes
  pub hits_nothing : slice_get a.records 0 ≡ Some no_hits
  pub met : (s : ℕ) → 0 < s → s < length a.rows → (bytes : List ℕ) × are_bytes bytes × (state_after a bytes ≡ s)

-- each rule's path begins with a slash
abbrev pub BeginWithSlashes : List RuleValue → Type 0
BeginWithSlashes rules = (i : ℕ) (rule : RuleValue) → slice_get rules i ≡ Some rule → IsTrue (begins_with_slash rule.items)
