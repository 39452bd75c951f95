-- What a name leads to in the code, as in the definitions.
use Rattle.std.specs.Prelude.{◌≡◌, ℕ, Bool, List}
use Rattle.import_profile.specs.declared.options.ImportOptions.{ImportOptions}
use Rattle.import_profile.specs.Imports.{Imports, Outcome}
use Rattle.rule_profile.specs.Profile.{profile_value}
use Rattle.trace_audit.specs.Lookups as looked
use Rattle.trace_audit.specs.declared.lookup.ProfileText.{ProfileText}
use Rattle.trace_audit.specs.declared.lookup.Refusal.{Refusal}
use Rattle.trace_audit.specs.declared.lookup.Held.{Held}
use Rattle.trace_audit.specs.declared.lookup.Held.TheVariants as held
use Rattle.trace_audit.specs.declared.lookup.Found.{Found}
use Rattle.trace_audit.specs.declared.lookup.Found.TheVariants as found

abbrev pub text_value : ProfileText → looked.TextValue
text_value t = record { name = t.name.now; text = t.text.items }

abbrev pub refusal_value : Refusal → looked.RefusalValue
refusal_value r = record { file = r.file.now; number = r.number }

abbrev pub held_value : Held → looked.Held
held_value (held.Rules profile) = looked.rules (profile_value profile).rules
held_value (held.Faulty number) = looked.faulty number
held_value held.Nothing = looked.nothing

abbrev pub found_value : Found → looked.Found
found_value (found.Profile profile) = looked.leads_to (profile_value profile).rules
found_value (found.Refused refusal) = looked.refused (refusal_value refusal)
found_value found.Absent = looked.absent

-- what an import of a text finds
abbrev pub IsImported : List ℕ → List ℕ → Bool → looked.Held → Type 0
IsImported text name by_owner to = (options : ImportOptions) × looked.Asks name by_owner options
    × (outcome : Outcome) × Imports options text outcome × (to ≡ looked.held_by outcome)

-- a text has no profile of a name
abbrev pub HasNoRules : looked.Held → Type 0
HasNoRules (looked.rules r) = ⊥
HasNoRules (looked.faulty number) = Unit {0}
HasNoRules looked.nothing = Unit {0}
