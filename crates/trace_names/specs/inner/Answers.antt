-- What the parts of the command return, compared with what is to be written.
use Rattle.std.specs.Prelude.{◌≡◌, ℕ, List, Option, Some, None, Result, Ok, Err, Vec}
use Rattle.std.specs.declared.alloc.Global.{Global}
use Rattle.glob_automaton.specs.Automata.{most_sets}
use Rattle.glob_automaton.specs.Sets.{AreMoreThan}
use Rattle.matcher.specs.declared.compiled.CompiledProfile.{CompiledProfile}
use Rattle.names.specs.declared.permissions.Perms.{Perms}
use Rattle.rule_profile.specs.Profile.{profile_value}
use Rattle.rule_reader.specs.ReadText.{outcome_of}
use Rattle.trace_names.specs.Names.{IsNamesOutputOf}
use Rattle.trace_names.specs.declared.choice.NamesChoice.{NamesChoice}
use Rattle.trace_report.specs.Fault.{IsFaultOfOne}
use Rattle.trace_report.specs.Output.{Output, whole_answer}
use Rattle.trace_report.specs.declared.fault.Fault.{Fault}
use Rattle.trace_report.specs.declared.fault.Fault.TheVariants.{Permissions}

-- the permissions asked for, or that there are none
abbrev pub IsAsked : Option Perms → Result Perms Fault → Type 0
IsAsked asked (Ok ask) = asked ≡ Some ask
IsAsked asked (Err f) = (asked ≡ None) × (f ≡ Permissions)

-- the bytes of an answer that may be written, or a fault in its place
abbrev pub IsAnswered : (Output → Type 0) → Result (Vec ℕ Global) Fault → Type 0
IsAnswered Wanted (Ok bytes) = Wanted (whole_answer bytes.items)
IsAnswered Wanted (Err f) = IsFaultOfOne Wanted f

-- the profile of a text, whose rules don't have too many states; or a fault that is reported in place of every answer by the text
abbrev pub IsCompiledText : List ℕ → Result CompiledProfile Fault → Type 0
IsCompiledText text (Ok compiled) =
    (outcome_of text ≡ Ok (profile_value compiled.profile)) × ¬ (AreMoreThan most_sets (profile_value compiled.profile).rules)
IsCompiledText text (Err f) = (choice : NamesChoice) (ask : Perms) (list : List ℕ) →
    IsFaultOfOne (IsNamesOutputOf choice ask list (outcome_of text)) f
