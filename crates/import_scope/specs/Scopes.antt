-- What a flattened text has declared and opened so far (apparmor.d(5), "Variables" and "Format"), item by item.
use Rattle.std.specs.Prelude.{ℕ, ◌+◌, ◌==◌, List, [], ◌∷◌, ◌++◌, length, drop, codes, bytes_eq, slice_get, not, ◌||◌, Option, Some, None}
use Rattle.std.specs.Prelude.{option_and_then, Bool, true, false, if◌then◌else◌, ◌&&◌, nat_eq, nat_le}
use Rattle.std.specs.List.{list_any, ends_with}
use Rattle.rule_profile.specs.Readable.{is_name}
use Rattle.apparmor_text.specs.declared.part.ItemKind.{ItemKind}
use Rattle.apparmor_text.specs.declared.part.ItemKind.TheVariants as items
use Rattle.apparmor_text.specs.Parts.{PartValue, ItemValue, bytes_of_parts}
use Rattle.apparmor_variables.specs.Problems.{Problem}
use Rattle.apparmor_variables.specs.Variables.{Variable}
use Rattle.import_scope.specs.declared.assigned.Define.{Define}
use Rattle.import_scope.specs.ItemWords.{assigned_name, assigned_values, is_adding, own_name, before_name}

-- A profile's head: its full name, whether it is a hat, and the number of the outermost profile around it, or its own.
pub record Head : Type 0 where
  pub name : List ℕ
  pub is_hat : Bool
  pub outermost : ℕ

-- The variables and the heads so far, the numbers of the profiles that are open, the innermost first, and how many bytes of the
-- text come before.
pub record ScopeState : Type 0 where
  pub declared : List Variable
  pub profiles : List Head
  pub within : List ℕ
  pub before : ℕ

pub data FaultKind : Type 0 where
  -- a variable is declared twice, or added to before it is declared; or it is profile_name; or a profile comes before it
  declared_wrongly : FaultKind
  -- the full name isn't a name
  no_name : FaultKind
  -- a rule's path has no text with its variables in place
  in_path : Problem → FaultKind
  -- there are too many variables, or texts are too long together
  too_much : FaultKind

-- a fault, and how many bytes of the text come before its place
pub record Fault : Type 0 where
  pub kind : FaultKind
  pub place : ℕ

-- ---- variables

abbrev pub profile_name : List ℕ
profile_name = codes "profile_name"

abbrev pub is_declared : List Variable → List ℕ → Bool
is_declared variables name = list_any (λ v. bytes_eq v.name name) variables

-- one more variable
abbrev pub with_variable : List Variable → List ℕ → List (List ℕ) → List Variable
with_variable variables name values = variables ++ (record { name = name; values = values } ∷ [])

-- the variables, where the one with this name gets these values after its own
abbrev pub with_values : List Variable → List ℕ → List (List ℕ) → List Variable
with_values [] name values = []
with_values (v ∷ variables) name values =
    if bytes_eq v.name name then record { name = v.name; values = v.values ++ values } ∷ variables
    else v ∷ with_values variables name values

-- what is given beforehand, one value after another
abbrev pub with_defines : List Variable → List Define → List Variable
with_defines variables [] = variables
with_defines variables (d ∷ defines) =
    with_defines (if is_declared variables d.name.now then with_values variables d.name.now (d.value.now ∷ []) else with_variable variables
    d.name.now (d.value.now ∷ [])) defines

abbrev pub assigned : ScopeState → List PartValue → ScopeState
assigned s parts = record {
  declared = if is_adding parts then with_values s.declared (assigned_name parts) (assigned_values parts) else with_variable s.declared
      (assigned_name parts) (assigned_values parts);
  profiles = s.profiles;
  within = s.within;
  before = s.before;
}

-- += needs the variable to exist, and = needs it not to
abbrev pub is_assigned_wrongly : ScopeState → Bool → List ℕ → Bool
is_assigned_wrongly s adding name =
    not (length s.profiles == 0)
    || (bytes_eq name profile_name
    || (if adding then not (is_declared s.declared name) else is_declared s.declared name))

-- the maximum number of variables, with those that are given beforehand (our choice; AppArmor has no bound)
abbrev pub most_variables : ℕ
most_variables = 1024

-- an assignment would declare one variable too many
abbrev pub is_one_too_many : ScopeState → Bool → Bool
is_one_too_many s adding = not adding && nat_le most_variables (length s.declared)

abbrev pub assignment_fault : ScopeState → List PartValue → Option Fault
assignment_fault s parts =
    if is_assigned_wrongly s (is_adding parts) (assigned_name parts) then Some (record { kind = declared_wrongly; place = s.before })
    else if is_one_too_many s (is_adding parts) then Some (record { kind = too_much; place = s.before })
    else None

-- ---- profiles

abbrev pub first_number : List ℕ → Option ℕ
first_number [] = None
first_number (n ∷ more) = Some n

-- the head of the innermost profile that is open
abbrev pub innermost : ScopeState → Option Head
innermost s = option_and_then (λ n. slice_get s.profiles n) (first_number s.within)

-- the full name of a profile with this own name, in a profile or in none
abbrev pub full_name : Option Head → List ℕ → List ℕ
full_name None own = own
full_name (Some around) own = around.name ++ (codes "//" ++ own)

-- the number of the outermost profile around the profile with this number
abbrev pub outermost_around : Option Head → ℕ → ℕ
outermost_around None number = number
outermost_around (Some around) number = around.outermost

-- the head of the profile with this number and own name, in a profile or in none
abbrev pub head_within : Option Head → ℕ → Bool → List ℕ → Head
head_within around number hat own = record { name = full_name around own; is_hat = hat; outermost = outermost_around around number }

abbrev pub opened : ScopeState → Bool → List PartValue → ScopeState
opened s hat parts = record {
  declared = s.declared;
  profiles = s.profiles ++ (head_within (innermost s) (length s.profiles) hat (own_name parts) ∷ []);
  within = length s.profiles ∷ s.within;
  before = s.before;
}

-- A profile can have the name, and its canonical text is read again with it: a quoted word ends at the first quote that has no
-- backslash directly before it.
abbrev pub can_be_said : List ℕ → Bool
can_be_said name = is_name name && not (ends_with nat_eq name (codes "\\"))

abbrev pub name_fault : ScopeState → List PartValue → Option Fault
name_fault s parts =
    if can_be_said (full_name (innermost s) (own_name parts)) then None
    else Some (record { kind = no_name; place = s.before + before_name parts })

abbrev pub closed : ScopeState → ScopeState
closed s = record { declared = s.declared; profiles = s.profiles; within = drop 1 s.within; before = s.before }

-- ---- items

-- what an item of a kind and of these parts changes
abbrev pub changed : ItemKind → ScopeState → List PartValue → ScopeState
changed items.Assignment s parts = assigned s parts
changed items.Profile s parts = opened s false parts
changed items.Hat s parts = opened s true parts
changed items.Close s parts = closed s
changed items.Blank s parts = s
changed items.Statement s parts = s
changed items.Rule s parts = s

abbrev pub past : ℕ → ScopeState → ScopeState
past before s = record { declared = s.declared; profiles = s.profiles; within = s.within; before = before }

-- after an item
abbrev pub behind : ScopeState → ItemValue → ScopeState
behind s item = past (s.before + length (bytes_of_parts item.parts)) (changed item.kind s item.parts)

-- the fault of an item, if it is one of a declaration or of a name
abbrev pub head_fault : ItemKind → ScopeState → List PartValue → Option Fault
head_fault items.Assignment s parts = assignment_fault s parts
head_fault items.Profile s parts = name_fault s parts
head_fault items.Hat s parts = name_fault s parts
head_fault items.Close s parts = None
head_fault items.Blank s parts = None
head_fault items.Statement s parts = None
head_fault items.Rule s parts = None

-- before the text: what is given beforehand is declared
abbrev pub at_start : List Define → ScopeState
at_start defines = record { declared = with_defines [] defines; profiles = []; within = []; before = 0 }

-- after items
abbrev pub behind_all : ScopeState → List ItemValue → ScopeState
behind_all s [] = s
behind_all s (item ∷ items) = behind_all (behind s item) items
