-- What the parts of questions return, compared with what is asked and what is to be written.
use Rattle.std.specs.Prelude.{◌≡◌, ◌⊎◌, ℕ, List, Result, Ok, Err}
use Rattle.derived_profiles.specs.Pattern.{profile_of_path}
use Rattle.rule_globs.specs.Tokens.{Token}
use Rattle.rule_profile.specs.Profile.{profile_value}
use Rattle.rule_profile.specs.declared.profile.Profile.{Profile}
use Rattle.trace_questions.specs.Asked.{asked_of, path_asked}
use Rattle.trace_questions.specs.declared.answer.Answer.{Answer}
use Rattle.trace_questions.specs.declared.questions.Asked.{Asked}
use Rattle.trace_report.specs.Fault.{IsFaultOfAnswer, fault_text}
use Rattle.trace_report.specs.Output.{Output, finding}
use Rattle.trace_report.specs.declared.fault.Fault.{Fault}
use Rattle.trace_report.specs.declared.fault.Fault.TheVariants.{Memory, Pattern, Permissions}

-- the profile's one rule takes what the path does
abbrev pub IsOfPath : List Token → Profile → Type 0
IsOfPath path profile = profile_value profile ≡ profile_of_path path

-- what is asked, or which of the arguments is bad, or no memory where both are good
abbrev pub IsAskedOf : List ℕ → List ℕ → Result Asked Fault → Type 0
IsAskedOf perms pattern (Ok asked) = (path : List Token) × (asked_of perms pattern ≡ Ok (asked.ask, path)) × IsOfPath path asked.pattern
IsAskedOf perms pattern (Err f) = (asked_of perms pattern ≡ Err (fault_text f)) × (f ≡ Permissions ⊎ f ≡ Pattern) ⊎ (f ≡ Memory)

abbrev pub IsPatternOf : List ℕ → Result Profile Fault → Type 0
IsPatternOf pattern (Ok profile) = (path : List Token) × (path_asked pattern ≡ Ok path) × IsOfPath path profile
IsPatternOf pattern (Err f) = (path_asked pattern ≡ Err (fault_text f)) × (f ≡ Pattern) ⊎ (f ≡ Memory)

-- an answer that may be written, or a fault in its place
abbrev pub IsAnswered : (Output → Type 0) → Result Answer Fault → Type 0
IsAnswered Wanted (Ok answer) = Wanted (finding answer.text.items answer.found)
IsAnswered Wanted (Err f) = IsFaultOfAnswer Wanted f
