-- The imports of all profiles of a flattened text, children and hats too (our own).
use Rattle.std.specs.Prelude.{◌≡◌, ℕ, suc, List, [], ◌∷◌, length, Result, Ok, Err, Option, Some, None}
use Rattle.apparmor_text.specs.Parts.{ItemValue}
use Rattle.apparmor_text.specs.Texts.{ReadsItems}
use Rattle.apparmor_variables.specs.Variables.{Variable}
use Rattle.apparmor_words.specs.Steps.{Stop}
use Rattle.import_scope.specs.FirstFaults.{FirstFault}
use Rattle.import_scope.specs.Scopes as scopes
use Rattle.import_scope.specs.Scopes.{Head, ScopeState, at_start}
use Rattle.import_profile.specs.declared.options.ImportOptions.{ImportOptions}
use Rattle.import_profile.specs.Faults.{ImportFault, stop_fault, scope_fault}
use Rattle.import_profile.specs.Imports.{ImportValue, Outcome, declared_by, head_outcome, items_seen}

-- ---- texts that were read

-- what a text has: its items, the variables that it declares, and the heads of its profiles
pub record TextValue : Type 0 where
  pub items : List ItemValue
  pub declared : List Variable
  pub profiles : List Head

-- the text has no fault, and this is what it has
pub record IsFaultless (options : ImportOptions) (text : List ℕ) (value : TextValue) : Type 0 where
  pub read : ReadsItems text value.items None
  pub first : FirstFault (at_start options.defines.now) (items_seen options value.items) None
  pub declared : value.declared ≡ (declared_by options value.items).declared
  pub profiles : value.profiles ≡ (declared_by options value.items).profiles

-- the fault of a text of `all` bytes: of what its items say, or at which reading stopped
abbrev pub text_fault : ℕ → Option scopes.Fault → Option Stop → Option ImportFault
text_fault all (Some fault) end = Some (scope_fault fault)
text_fault all None (Some stop) = Some (stop_fault all stop)
text_fault all None None = None

-- the text has this fault, whatever profile of it is requested
pub record IsTextFault (options : ImportOptions) (text : List ℕ) (f : ImportFault) : Type 0 where
  pub items : List ItemValue
  pub end : Option Stop
  pub fault : Option scopes.Fault
  pub read : ReadsItems text items end
  pub first : FirstFault (at_start options.defines.now) (items_seen options items) fault
  pub is : text_fault (length text) fault end ≡ Some f

-- ---- all profiles

abbrev pub AllOutcome : Type 0
AllOutcome = Result (List ImportValue) ImportFault

-- the first fault, or all of them
abbrev pub with_first : Outcome → AllOutcome → AllOutcome
with_first (Err f) others = Err f
with_first (Ok value) (Err f) = Err f
with_first (Ok value) (Ok values) = Ok (value ∷ values)

-- of the profiles with these heads, which are numbered from `number` on
abbrev pub all_outcome : ImportOptions → ScopeState → List ItemValue → ℕ → List Head → AllOutcome
all_outcome options s items number [] = Ok []
all_outcome options s items number (head ∷ heads) =
    with_first (head_outcome options s items number (Some head)) (all_outcome options s items (suc number) heads)

-- The outcome of an import of all profiles of the text: the fault of the text; else, in the order of the text, what each profile
-- is imported as, or the first fault of one.
pub data ImportsAll (options : ImportOptions) (text : List ℕ) : AllOutcome → Type 0 where
  text_refused : (f : ImportFault) → IsTextFault options text f → ImportsAll options text (Err f)
  each_imported : (value : TextValue) → IsFaultless options text value →
      ImportsAll options text (all_outcome options (declared_by options value.items) value.items 0 value.profiles)
