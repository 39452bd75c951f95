-- Why a flattened profile text isn't imported: each fault has a number, and its place in the text, if it has one.
use Rattle.std.specs.Prelude.{ℕ, ◌-◌, List, [], Option, Some, None}
use Rattle.apparmor_words.specs.Steps as steps
use Rattle.apparmor_words.specs.Steps.{Stop}
use Rattle.import_scope.specs.Scopes as scopes
use Rattle.apparmor_variables.specs.Problems.{Problem, undefined, cycle, too_long}

pub data ImportFault : Type 0 where
  -- the grammar doesn't allow what follows
  syntax : ℕ → ImportFault
  -- an include: the text is not flattened
  include : ℕ → ImportFault
  -- a word, a byte or a flag that is not supported
  left_out : ℕ → List ℕ → ImportFault
  -- letters that are no permissions, or not allowed in this rule
  permissions : ℕ → ImportFault
  -- a variable that isn't declared, or that needs itself
  undefined_variable : ℕ → List ℕ → ImportFault
  cyclic_variable : ℕ → List ℕ → ImportFault
  -- a variable that is declared twice, or added to before it is declared
  declared : ℕ → ImportFault
  -- a name that no profile can have
  bad_name : ℕ → ImportFault
  too_many_rules : ℕ → ImportFault
  -- a path, or the list of a variable
  too_long_path : ℕ → ImportFault
  -- no profile has the requested name, or several have it; lists the names of all
  which : List (List ℕ) → ImportFault
  -- the first change for the chosen subject, where none is allowed
  not_exact : ℕ → ImportFault
  -- there are too many variables, or the texts of paths and the lists of variables are too long together
  too_much : ℕ → ImportFault

-- the fault at which reading a text of `all` bytes stopped
abbrev pub stop_fault : ℕ → Stop → ImportFault
stop_fault all stop = elim stop.kind [
  | steps.syntax ↦ syntax (all - stop.left)
  | steps.include ↦ include (all - stop.left)
  | steps.left_out word ↦ left_out (all - stop.left) word
  | steps.permissions ↦ permissions (all - stop.left)
]

abbrev pub problem_fault : ℕ → Problem → ImportFault
problem_fault place (undefined name) = undefined_variable place name
problem_fault place (cycle name) = cyclic_variable place name
problem_fault place too_long = too_long_path place

-- the fault for one that isn't the grammar's
abbrev pub scope_fault : scopes.Fault → ImportFault
scope_fault fault = elim fault.kind [
  | scopes.declared_wrongly ↦ declared fault.place
  | scopes.no_name ↦ bad_name fault.place
  | scopes.in_path problem ↦ problem_fault fault.place problem
  | scopes.too_much ↦ too_much fault.place
]

-- the number by which it is reported
abbrev pub fault_number : ImportFault → ℕ
fault_number (syntax place) = 1
fault_number (include place) = 2
fault_number (left_out place word) = 3
fault_number (permissions place) = 4
fault_number (undefined_variable place name) = 5
fault_number (cyclic_variable place name) = 6
fault_number (declared place) = 7
fault_number (bad_name place) = 8
fault_number (too_many_rules place) = 9
fault_number (too_long_path place) = 10
fault_number (which names) = 11
fault_number (not_exact place) = 12
fault_number (too_much place) = 13

-- the byte offset of its place in the text
abbrev pub fault_place : ImportFault → Option ℕ
fault_place (syntax place) = Some place
fault_place (include place) = Some place
fault_place (left_out place word) = Some place
fault_place (permissions place) = Some place
fault_place (undefined_variable place name) = Some place
fault_place (cyclic_variable place name) = Some place
fault_place (declared place) = Some place
fault_place (bad_name place) = Some place
fault_place (too_many_rules place) = Some place
fault_place (too_long_path place) = Some place
fault_place (which names) = None
fault_place (not_exact place) = Some place
fault_place (too_much place) = Some place

-- the word or the name that it is about
abbrev pub fault_word : ImportFault → Option (List ℕ)
fault_word (left_out place word) = Some word
fault_word (undefined_variable place name) = Some name
fault_word (cyclic_variable place name) = Some name
fault_word _ = None

-- the names that it lists
abbrev pub fault_names : ImportFault → List (List ℕ)
fault_names (which names) = names
fault_names _ = []
