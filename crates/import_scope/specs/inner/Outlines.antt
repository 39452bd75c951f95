-- Declarations, names and questions of a text, up to its first fault of a declaration or of a name.
use Rattle.std.specs.Prelude.{◌≡◌, ℕ, ◌+◌, List, [], ◌∷◌, ◌++◌, map, reverse, Result, Ok, Err, Option, Some, None}
use Rattle.apparmor_text.specs.declared.part.ItemKind.{ItemKind}
use Rattle.apparmor_text.specs.declared.part.ItemKind.TheVariants as items
use Rattle.apparmor_text.specs.Parts.{PartValue, ItemValue}
use Rattle.apparmor_rules.specs.RuleWords.{content, first_bytes, is_path}
use Rattle.import_scope.specs.declared.fault.ScopeFailure.{ScopeFailure}
use Rattle.import_scope.specs.declared.fault.ScopeFailure.TheVariants as failures
use Rattle.import_scope.specs.declared.outline.Asked as code
use Rattle.import_scope.specs.declared.outline.Outline.{Outline}
use Rattle.import_scope.specs.ItemWords.{bytes_before}
use Rattle.import_scope.specs.Scopes.{ScopeState, Fault, innermost, first_number, behind, head_fault}
use Rattle.import_scope.specs.Told.{fault_value}

-- a path that is asked, in the profile with this number
pub record AskedValue : Type 0 where
  pub profile : ℕ
  pub path : List ℕ
  pub place : ℕ

abbrev pub asked_value : code.Asked → AskedValue
asked_value q = record { profile = q.profile; path = q.path.now; place = q.place }

abbrev pub state_of : Outline → ScopeState
state_of o = record { declared = o.variables; profiles = o.profiles.items; within = reverse o.within.items; before = o.before }

abbrev pub asked_of : Outline → List AskedValue
asked_of o = map asked_value o.asked.items

abbrev pub asked_path : ScopeState → List PartValue → List AskedValue
asked_path s parts = elim (innermost s) [
  | None ↦ []
  | Some head ↦ elim (first_number s.within) [
    | None ↦ []
    | Some n ↦ elim (first_bytes is_path parts) [
      | None ↦ []
      | Some bytes ↦ record { profile = n; path = content bytes; place = s.before + bytes_before is_path parts } ∷ []
    ]
  ]
]

-- what an item asks
abbrev pub asks : ItemKind → ScopeState → List PartValue → List AskedValue
asks items.Rule s parts = asked_path s parts
asks _ s parts = []

-- What a step returned, what it changed, and what it should have: its fault, or the state after it.
abbrev pub Steps : {X : Type 0} → Result X ScopeFailure → Option Fault → ScopeState → ScopeState → ScopeState → Type 0
Steps (Ok x) fault old new next = (fault ≡ None) × (new ≡ next)
Steps (Err failures.NoMemory) fault old new next = Unit {0}
Steps (Err (failures.At f)) fault old new next = (fault ≡ Some (fault_value f)) × (new ≡ old)

-- the state at the end of the items, or at their first fault
abbrev pub last_state : ScopeState → List ItemValue → ScopeState
last_state s [] = s
last_state s (item ∷ items) = elim (head_fault item.kind s item.parts) [ None ↦ last_state (behind s item) items | Some fault ↦ s ]

-- that fault
abbrev pub head_stop : ScopeState → List ItemValue → Option Fault
head_stop s [] = None
head_stop s (item ∷ items) = elim (head_fault item.kind s item.parts) [ None ↦ head_stop (behind s item) items | Some fault ↦ Some fault ]

-- what was asked up to there
abbrev pub all_asked : ScopeState → List ItemValue → List AskedValue
all_asked s [] = []
all_asked s (item ∷ items) = elim (head_fault item.kind s item.parts) [
  | None ↦ asks item.kind s item.parts ++ all_asked (behind s item)
      items
  | Some fault ↦ []
]
