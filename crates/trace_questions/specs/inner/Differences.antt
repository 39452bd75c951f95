-- What the parts of a comparison of two profiles return, compared with what is asked and what is to be written.
use Rattle.std.specs.Prelude.{◌≡◌, ◌⊎◌, ℕ, Bool, List, ◌++◌, Option, Result, Ok, Err}
use Rattle.profile_questions.specs.Names.{ComparisonValue}
use Rattle.question_answers.specs.declared.side.Side.{Side}
use Rattle.rule_globs.specs.Tokens.{Token}
use Rattle.glob_automaton.specs.Automata.{most_sets}
use Rattle.glob_automaton.specs.Sets.{AreMoreThan}
use Rattle.matcher.specs.declared.fault.MakeFault.TheVariants as making
use Rattle.rule_globs.specs.Rules.{RuleValue}
use Rattle.rule_profile.specs.Profile.{profile_value}
use Rattle.rule_profile.specs.declared.profile.Profile.{Profile}
use Rattle.rule_reader.specs.ReadText.{outcome_of}
use Rattle.rule_reader.specs.declared.fault.ReadFault.{ReadFault}
use Rattle.rule_profile.specs.RuleSpans.{profile_spans}
use Rattle.rule_reader.specs.Spans.{spans_of}
use Rattle.trace_questions.specs.Differences.{Versions, below_asked, side_text, versions_of}
use Rattle.question_answers.specs.Below.{is_given, rules_below}
use Rattle.trace_questions.specs.declared.answer.Answer.{Answer}
use Rattle.trace_questions.specs.declared.changes.Versions as declared
use Rattle.trace_questions.specs.declared.difference.Below.{Below}
use Rattle.trace_questions.specs.declared.sides.SideFault.{SideFault}
use Rattle.trace_questions.specs.declared.sides.SideFault.TheVariants.{Neither, Of}
use Rattle.trace_report.specs.Fault.{IsFaultOfAnswer, fault_status, fault_text}
use Rattle.trace_report.specs.Output.{Output, fault, finding}
use Rattle.trace_report.specs.declared.fault.Fault.{Fault}
use Rattle.trace_report.specs.declared.fault.Fault.TheVariants.{Compiling, Memory, Pattern, Text}
use Rattle.trace_report.specs.declared.status.Status.TheVariants.{Refused}

-- the profile has the path's rule, or none
pub record IsOfBelow (path : Option (List Token)) (below : Below) : Type 0 where
  pub rules : (profile_value below.profile).rules ≡ rules_below path
  pub restricted : below.restricted ≡ is_given path

abbrev pub IsBelowAsked : Option (List ℕ) → Result Below Fault → Type 0
IsBelowAsked pattern (Ok below) = (path : Option (List Token)) × (below_asked pattern ≡ Ok path) × IsOfBelow path below
IsBelowAsked pattern (Err f) = (below_asked pattern ≡ Err (fault_text f)) × (f ≡ Pattern) ⊎ (f ≡ Memory)

-- a fault of neither profile, or the message about one of them, which is refused
abbrev pub IsSideFaultOf : (Output → Type 0) → SideFault → Type 0
IsSideFaultOf Wanted (Neither f) = IsFaultOfAnswer Wanted f
IsSideFaultOf Wanted (Of side f) = (fault_status f ≡ Refused) × Wanted (fault (fault_text f ++ side_text side) Refused)

-- an answer that may be written, or a fault in its place
abbrev pub IsDiffAnswer : (Output → Type 0) → Result Answer SideFault → Type 0
IsDiffAnswer Wanted (Ok answer) = Wanted (finding answer.text.items answer.found)
IsDiffAnswer Wanted (Err f) = IsSideFaultOf Wanted f

abbrev pub versions_value : declared.Versions → Versions
versions_value v = versions_of v.before.now (profile_value v.old.now).rules v.after.now (profile_value v.new.now).rules

-- what is compared are these profiles, by names below the path
pub record AreCompared (c : ComparisonValue) (v : declared.Versions) (restricted : Bool) (below : Option (List Token)) : Type 0 where
  pub first : c.first ≡ (profile_value v.old.now).rules
  pub second : c.second ≡ (profile_value v.new.now).rules
  pub third : c.third ≡ rules_below below
  pub given : restricted ≡ is_given below
  pub before : profile_spans v.old.now ≡ spans_of v.before.now
  pub after : profile_spans v.new.now ≡ spans_of v.after.now

-- the profile of one of two texts, or its fault
abbrev pub IsProfileIn : Side → List ℕ → Result Profile SideFault → Type 0
IsProfileIn side text (Ok profile) = (outcome_of text ≡ Ok (profile_value profile)) × (profile_spans profile ≡ spans_of text)
IsProfileIn side text (Err f) = (f ≡ Neither Memory) ⊎ ((fault : ReadFault) × (outcome_of text ≡ Err fault) × (f ≡ Of side (Text fault)))

-- the rules of one of two profiles have too many states, or memory was refused
abbrev pub IsCompileRefusalIn : Side → List RuleValue → SideFault → Type 0
IsCompileRefusalIn side rules f = (f ≡ Neither Memory) ⊎ (AreMoreThan most_sets rules × (f ≡ Of side (Compiling making.TooManyStates)))
