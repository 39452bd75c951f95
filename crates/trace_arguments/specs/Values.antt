-- A command, with what it is asked for.
use Rattle.std.specs.Prelude.{ℕ, Bool, List, map, Option, option_map}
use Rattle.trace_arguments.specs.declared.choice.Define.{Define}
use Rattle.trace_arguments.specs.declared.choice.ImportChoice.{ImportChoice}
use Rattle.trace_arguments.specs.declared.choice.OwnerRules.{OwnerRules}
use Rattle.trace_arguments.specs.declared.import.Account.{Account}
use Rattle.trace_arguments.specs.declared.import.ImportOptions.{ImportOptions}
use Rattle.trace_arguments.specs.declared.line.Command.{Command}
use Rattle.trace_arguments.specs.declared.line.Command.TheVariants.{Audit, Check, Compile, ExplainFlattened, Import, Name, Names, Profile}
use Rattle.trace_arguments.specs.declared.line.Command.TheVariants.{Run, Steps, Storm, Test}
use Rattle.trace_arguments.specs.declared.line.Line.{Line}
use Rattle.trace_arguments.specs.declared.line.LineFault.{LineFault}
use Rattle.trace_arguments.specs.declared.line.LineFault.TheVariants.{NoMemory, Usage}
use Rattle.trace_arguments.specs.declared.line.StormSize.{StormSize}
use Rattle.trace_arguments.specs.declared.questions.AuditQuestion.{AuditQuestion}
use Rattle.trace_arguments.specs.declared.questions.DiffQuestion.{DiffQuestion}
use Rattle.trace_arguments.specs.declared.questions.FlattenedQuestion.{FlattenedQuestion}
use Rattle.trace_arguments.specs.declared.questions.NameCommand.{NameCommand}
use Rattle.trace_arguments.specs.declared.questions.NameCommand.TheVariants.{Explain, Judge, Match}
use Rattle.trace_arguments.specs.declared.questions.NameQuestion.{NameQuestion}
use Rattle.trace_arguments.specs.declared.questions.NamesQuestion.{NamesQuestion}
use Rattle.trace_arguments.specs.declared.questions.ProfileQuestion.{ProfileQuestion}
use Rattle.trace_arguments.specs.declared.questions.ProfileQuestion.TheVariants.{All, Any, Diff, Lint}
use Rattle.trace_report.specs.declared.format.Format.{Format}

-- a profile of a flattened text
pub record ChoiceValue : Type 0 where
  -- its name, where the text has several
  pub profile : Option (List ℕ)
  -- what becomes of rules for owners
  pub owners : OwnerRules
  -- variables with their values, in the order of the words
  pub defines : List (List ℕ × List ℕ)
  -- whether these values replace those that the text gives
  pub overrides : Bool

pub record ImportValue : Type 0 where
  pub choice : ChoiceValue
  -- whether each profile of the text is imported
  pub all : Bool
  -- whether a profile that isn't exact for the chosen subject is refused
  pub strict : Bool
  -- of which rules an account is given
  pub account : Account
  -- the name of the file for the places that the rules come from
  pub map : Option (List ℕ)

pub record NamesValue : Type 0 where
  pub perms : List ℕ
  -- the name of the profile
  pub profile : List ℕ
  -- whether the names that aren't allowed are written, and not those that are
  pub not_allowed : Bool
  -- whether each name is written with its verdict
  pub verdicts : Bool
  -- whether names end with byte 0, and not with line feeds
  pub null : Bool

-- a command, with what it is asked for
pub data CommandValue : Type 0 where
  -- PERMS and NAME, how the answer is written, and whether nothing is
  judge : List ℕ → List ℕ → Format → Bool → CommandValue
  match_name : List ℕ → List ℕ → Format → Bool → CommandValue
  -- PERMS and NAME, and how the answer is written
  explain : List ℕ → List ℕ → Format → CommandValue
  -- PERMS and NAME, how the answer is written, and the profile of the flattened text
  explain_flattened : List ℕ → List ℕ → Format → ChoiceValue → CommandValue
  -- PERMS and PATTERN, whether a name is requested for each rule, and how the answer is written
  any_name : List ℕ → List ℕ → Bool → Format → CommandValue
  -- PERMS and PATTERN, and how the answer is written
  all_names : List ℕ → List ℕ → Format → CommandValue
  -- OLD, NEW, the pattern of the names that are compared, whether a name is requested for each pair of reasons, and how the answer is
  -- written
  diff : List ℕ → Option (List ℕ) → Option (List ℕ) → Bool → Format → CommandValue
  -- how the answer is written
  lint : Format → CommandValue
  -- how many entries the tree has room for
  run : ℕ → CommandValue
  -- how many entries the tree has room for, how the answer is written, and whether each answer of the script is
  test : ℕ → Format → Bool → CommandValue
  -- at how many defaults a byte may be looked up again
  compile : ℕ → CommandValue
  check : CommandValue
  -- how many entries the tree has room for
  steps : ℕ → CommandValue
  -- how many sessions, opens of each, and changes of the tree and of the policy
  storm : ℕ → ℕ → ℕ → CommandValue
  import_text : ImportValue → CommandValue
  names : NamesValue → CommandValue
  -- the names of the profiles, and how the answer is written
  audit : List (List ℕ) → Format → CommandValue

pub record LineValue : Type 0 where
  pub command : CommandValue
  -- whether notes on what is refused are written
  pub verbose : Bool

abbrev pub define_value : Define → List ℕ × List ℕ
define_value define = (define.variable.now, define.value.now)

abbrev pub choice_value : ImportChoice → ChoiceValue
choice_value choice = record {
  profile = option_map (λ name. name.now) choice.profile;
  owners = choice.owners;
  defines = map define_value choice.defines.items;
  overrides = choice.overrides;
}

abbrev pub import_value : ImportOptions → ImportValue
import_value asked = record {
  choice = choice_value asked.choice;
  all = asked.all;
  strict = asked.strict;
  account = asked.account;
  map = option_map (λ name. name.now) asked.map;
}

-- only `judge` and `match` can be quiet
abbrev pub name_by : NameCommand → List ℕ → List ℕ → Format → Bool → CommandValue
name_by Judge perms name format quiet = judge perms name format quiet
name_by Explain perms name format quiet = explain perms name format
name_by Match perms name format quiet = match_name perms name format quiet

abbrev pub name_value : NameQuestion → CommandValue
name_value asked = name_by asked.command asked.perms.now asked.name.now asked.format asked.quiet

abbrev pub flattened_value : FlattenedQuestion → CommandValue
flattened_value asked = explain_flattened asked.perms.now asked.name.now asked.format (choice_value asked.choice)

abbrev pub diff_value : DiffQuestion → CommandValue
diff_value asked = diff asked.old.now (option_map (λ new. new.now) asked.new) (option_map (λ below. below.now) asked.below) asked.each_rule
    asked.format

abbrev pub profile_value : ProfileQuestion → CommandValue
profile_value (Any perms pattern each_rule format) = any_name perms.now pattern.now each_rule format
profile_value (All perms pattern format) = all_names perms.now pattern.now format
profile_value (Diff asked) = diff_value asked
profile_value (Lint format) = lint format

abbrev pub storm_value : StormSize → CommandValue
storm_value size = storm size.sessions size.opens size.changes

abbrev pub names_value : NamesQuestion → NamesValue
names_value asked = record {
  perms = asked.perms.now;
  profile = asked.profile.now;
  not_allowed = asked.not_allowed;
  verdicts = asked.verdicts;
  null = asked.null;
}

abbrev pub audit_value : AuditQuestion → CommandValue
audit_value asked = audit (map (λ profile. profile.now) asked.profiles.items) asked.format

abbrev pub command_value : Command → CommandValue
command_value (Name asked) = name_value asked
command_value (ExplainFlattened asked) = flattened_value asked
command_value (Profile asked) = profile_value asked
command_value (Run capacity) = run capacity
command_value (Test capacity format answers) = test capacity format answers
command_value (Compile depth) = compile depth
command_value Check = check
command_value (Steps capacity) = steps capacity
command_value (Storm size) = storm_value size
command_value (Import asked) = import_text (import_value asked)
command_value (Names asked) = names (names_value asked)
command_value (Audit asked) = audit_value asked

abbrev pub line_value : Line → LineValue
line_value line = record { command = command_value line.command; verbose = line.verbose }

-- how many entries a tree has room for, where the command has one
abbrev pub capacity_of : CommandValue → ℕ
capacity_of (run capacity) = capacity
capacity_of (test capacity format answers) = capacity
capacity_of (steps capacity) = capacity
capacity_of _ = 0

abbrev pub line_fault_number : LineFault → ℕ
line_fault_number (Usage told) = 1
line_fault_number NoMemory = 2
