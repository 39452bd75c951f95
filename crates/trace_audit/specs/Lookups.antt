-- Which rules a profile's name leads to, among the texts that are given (our own).
use Rattle.std.specs.Prelude.{◌≡◌, ℕ, Bool, false, ◌==◌, List, [], ◌∷◌, bytes_eq, Option, Some, None, Result, Ok, Err, if◌then◌else◌}
use Rattle.std.specs.Prelude.{option_map}
use Rattle.apparmor_rules.specs.declared.subject.Subject.{Subject}
use Rattle.apparmor_rules.specs.declared.subject.Subject.TheVariants.{Owner, Other}
use Rattle.import_profile.specs.declared.options.ImportOptions.{ImportOptions}
use Rattle.import_profile.specs.Faults.{ImportFault, fault_number}
use Rattle.import_profile.specs.Imports.{Imports, Outcome}
use Rattle.rule_profile.specs.Profile.{ProfileValue, RuleValue}
use Rattle.rule_reader.specs.ReadText.{outcome_of}
use Rattle.rule_reader.specs.declared.fault.ReadFault.{ReadFault}

-- a text that may have profiles, and the name of its file
pub record TextValue : Type 0 where
  pub name : List ℕ
  pub text : List ℕ

-- a file that can't be imported, and the number of the fault
pub record RefusalValue : Type 0 where
  pub file : List ℕ
  pub number : ℕ

-- what one text has under a name
pub data Held : Type 0 where
  -- a profile with these rules
  rules : List RuleValue → Held
  -- it can't be imported, for the fault with this number
  faulty : ℕ → Held
  -- no profile of this name, or several
  nothing : Held

-- what a name leads to
pub data Found : Type 0 where
  -- a profile with these rules
  leads_to : List RuleValue → Found
  -- no text has the profile, and this one, the first such, can't be imported
  refused : RefusalValue → Found
  -- no text has the profile
  absent : Found

abbrev pub subject_of : Bool → Subject
subject_of by_owner = if by_owner then Owner else Other

-- an import of the profile of this name for this subject, as it is written
pub record Asks (name : List ℕ) (by_owner : Bool) (options : ImportOptions) : Type 0 where
  pub profile : option_map (λ asked. asked.now) options.profile ≡ Some name
  pub subject : options.subject ≡ subject_of by_owner
  pub defines : options.defines.now ≡ []
  pub overriding : options.overrides ≡ false
  pub strict : options.strict ≡ false

-- what an import found: that the text has no such profile, or more than one, is fault 11
abbrev pub held_by : Outcome → Held
held_by (Ok value) = rules value.profile.rules
held_by (Err fault) = if fault_number fault == 11 then nothing else faulty (fault_number fault)

-- what a text has that is a profile in this program's language
abbrev pub held_by_profile : List ℕ → ProfileValue → Held
held_by_profile name profile = if bytes_eq profile.name name then rules profile.rules else nothing

-- what a text has under a name: itself if it can be read, otherwise what an import of it finds
abbrev pub IsHeldBy : List ℕ → List ℕ → Bool → Result ProfileValue ReadFault → Held → Type 0
IsHeldBy text name by_owner (Ok profile) held = held ≡ held_by_profile name profile
IsHeldBy text name by_owner (Err fault) held =
    (options : ImportOptions) × Asks name by_owner options × (outcome : Outcome) × Imports options text outcome × (held ≡ held_by outcome)

abbrev pub IsHeld : List ℕ → List ℕ → Bool → Held → Type 0
IsHeld text name by_owner held = IsHeldBy text name by_owner (outcome_of text) held

-- no text has the profile: the first that couldn't be imported, if there is one
abbrev pub not_found : Option RefusalValue → Found
not_found None = absent
not_found (Some first) = refused first

-- the first of two
abbrev pub first_of_both : Option RefusalValue → RefusalValue → Option RefusalValue
first_of_both None refusal = Some refusal
first_of_both (Some first) refusal = Some first

-- the first file that can't be imported, after one with this name
abbrev pub first_after : List ℕ → Option RefusalValue → Held → Option RefusalValue
first_after file first (rules r) = first
first_after file first (faulty number) = first_of_both first (record { file = file; number = number })
first_after file first nothing = first

-- a text that has the profile decides, and otherwise the others do
abbrev pub Decides : Held → Type 0 → Found → Type 0
Decides (rules r) Others to = to ≡ leads_to r
Decides (faulty number) Others to = Others
Decides nothing Others to = Others

-- What a name leads to in these texts, given the first file before them that can't be imported: the first text that has the
-- profile decides.
abbrev pub IsFoundAmong : List ℕ → Bool → Option RefusalValue → List TextValue → Found → Type 0
IsFoundAmong name by_owner first [] to = to ≡ not_found first
IsFoundAmong name by_owner first (t ∷ texts) to = (held : Held) × IsHeld t.text name by_owner held
    × Decides held (IsFoundAmong name by_owner (first_after t.name first held) texts to) to

-- what a name leads to
abbrev pub IsFound : List TextValue → List ℕ → Bool → Found → Type 0
IsFound texts name by_owner to = IsFoundAmong name by_owner None texts to
