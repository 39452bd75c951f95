-- The first fault of a flattened text apart from its grammar, in reading order.
use Rattle.std.specs.Prelude.{◌≡◌, ◌<◌, ◌≤◌, ◌==◌, ℕ, ◌+◌, List, [], ◌∷◌, length, Result, Ok, Err, Option, Some, None}
use Rattle.std.specs.Prelude.{option_map, unwrap_or, Bool, true, false}
use Rattle.std.specs.Option.{option_map_or}
use Rattle.apparmor_text.specs.declared.part.ItemKind.{ItemKind}
use Rattle.apparmor_text.specs.declared.part.ItemKind.TheVariants as items
use Rattle.apparmor_text.specs.Parts.{PartValue, ItemValue}
use Rattle.apparmor_rules.specs.RuleWords.{content, first_bytes, is_path}
use Rattle.apparmor_variables.specs.Counts.{OthersCount}
use Rattle.apparmor_variables.specs.PathTexts.{IsSubstituted, PathProblem}
use Rattle.apparmor_variables.specs.Problems.{Problem}
use Rattle.apparmor_variables.specs.Variables.{Variable}
use Rattle.import_scope.specs.ItemWords.{bytes_before}
use Rattle.import_scope.specs.Scopes.{ScopeState, Fault, in_path, too_much, profile_name, innermost, first_number, behind, head_fault}

-- the variables as they are in a profile with this full name: profile_name, and then these
abbrev pub variables_within : List Variable → List ℕ → List Variable
variables_within variables name = record { name = profile_name; values = name ∷ [] } ∷ variables

-- a rule's path, the number of its profile, the variables that are known to it, and how many bytes of the text come before it
pub record Question : Type 0 where
  pub profile : ℕ
  pub variables : List Variable
  pub path : List ℕ
  pub place : ℕ

-- the path of an item, if it is a rule with one in a profile
abbrev pub question_of : ItemKind → ScopeState → List PartValue → Option Question
question_of items.Rule s parts = elim (innermost s) [
  | None ↦ None
  | Some head ↦ option_map (λ bytes. record {
    profile = unwrap_or (first_number s.within) 0;
    variables = variables_within s.declared head.name;
    path = content bytes;
    place = s.before + bytes_before is_path parts;
  }) (first_bytes is_path parts)
]
question_of _ s parts = None

-- ---- how much the texts of paths and the lists of variables may be together

-- the maximum number of bytes (our choice): as many as 1,024 path texts of 16,384 bytes have
abbrev pub most_together : ℕ
most_together = 16777216

-- What was counted of the paths so far: bytes, and the number of the profile of the last path.
pub record Counted : Type 0 where
  pub bytes : ℕ
  pub profile : Option ℕ

abbrev pub nothing_counted : Counted
nothing_counted = record { bytes = 0; profile = None }

-- the last path was in the profile with this number
abbrev pub is_last : Option ℕ → ℕ → Bool
is_last profile number = option_map_or (λ n. n == number) profile false

-- What the variables count before a path: where it's in another profile than the path before it, all that are declared, as they
-- are in its profile.
abbrev pub CountBefore : Bool → List Variable → ℕ → Type 0
CountBefore true variables n = n ≡ 0
CountBefore false variables n = OthersCount variables n

abbrev pub IsBefore : Counted → Question → ℕ → Type 0
IsBefore c q n = CountBefore (is_last c.profile q.profile) q.variables n

abbrev pub too_much_at : Question → Fault
too_much_at q = record { kind = too_much; place = q.place }

-- A path has a fault, or this was counted with it: the variables before it, and the text that it has with variables in place.
pub data Answers (c : Counted) (q : Question) : Result Counted Fault → Type 0 where
  lists_too_long : (n : ℕ) → IsBefore c q n → most_together < c.bytes + n → Answers c q (Err (too_much_at q))
  no_text : (n : ℕ) (problem : Problem) → IsBefore c q n → c.bytes + n ≤ most_together →
      PathProblem q.variables q.path problem → Answers c q (Err (record { kind = in_path problem; place = q.place }))
  text_too_long : (n : ℕ) (text : List ℕ) → IsBefore c q n → IsSubstituted q.variables q.path text →
      most_together < c.bytes + n + length text → Answers c q (Err (too_much_at q))
  answered : (n : ℕ) (text : List ℕ) → IsBefore c q n → IsSubstituted q.variables q.path text →
      c.bytes + n + length text ≤ most_together →
      Answers c q (Ok (record { bytes = c.bytes + n + length text; profile = Some q.profile }))

-- what was counted with an item, whose path has no fault if it has one
abbrev pub IsPast : Counted → Option Question → Counted → Type 0
IsPast c None next = next ≡ c
IsPast c (Some q) next = Answers c q (Ok next)

-- ---- the first fault

-- The first fault of items that come after others, if they have one.
pub data FirstFaultFrom : ScopeState → Counted → List ItemValue → Option Fault → Type 0 where
  none_left : (s : ScopeState) (c : Counted) → FirstFaultFrom s c [] None
  at_head : (s : ScopeState) (c : Counted) (item : ItemValue) (others : List ItemValue) (fault : Fault) →
      head_fault item.kind s item.parts ≡ Some fault → FirstFaultFrom s c (item ∷ others) (Some fault)
  at_path : (s : ScopeState) (c : Counted) (item : ItemValue) (others : List ItemValue) (q : Question) (fault : Fault) →
      question_of item.kind s item.parts ≡ Some q → Answers c q (Err fault) → FirstFaultFrom s c (item ∷ others) (Some fault)
  later : (s : ScopeState) (c next : Counted) (item : ItemValue) (others : List ItemValue) (end : Option Fault) →
      head_fault item.kind s item.parts ≡ None → IsPast c (question_of item.kind s item.parts) next →
      FirstFaultFrom (behind s item) next others end → FirstFaultFrom s c (item ∷ others) end

-- The first fault of the items of a text, if they have one.
abbrev pub FirstFault : ScopeState → List ItemValue → Option Fault → Type 0
FirstFault s items end = FirstFaultFrom s nothing_counted items end
