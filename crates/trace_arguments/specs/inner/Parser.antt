-- The program as its parser knows it, and what the parser finds.
use Rattle.std.specs.Prelude.{◌≡◌, ◌≤◌, ℕ, Bool, true, false, List, [], ◌++◌, map, fold, Option, Some, None, codes}
use Rattle.std.specs.Prelude.{option_and_then, option_map, unwrap_or, if◌then◌else◌}
use Rattle.std.specs.Str.{bytes_eq}
use Rattle.std.specs.Str.Parse.{digits_value, without_leading_plus}
use Rattle.clap.specs.ValueTests.{is_unsigned_in}
use Rattle.clap.specs.Words.{App, Row, all_of, kind_of, new_app, first_of, first_value, matched_of, one_of, raw_values}
use Rattle.clap.specs.Words.{rows_of, subcommand_rows_of, with_subcommand}
use Rattle.clap.specs.declared.parser.matches.ArgMatches.{ArgMatches}
use Rattle.clap.specs.declared.parser.matches.Found.{Found}
use Rattle.clap.specs.declared.error.Error.{Error}
use Rattle.clap.specs.declared.error.kind.ErrorKind.TheVariants.{OutOfMemory}
use Rattle.trace_forms.specs.Forms.{ArgumentForm, OptionForm, Wants, many_texts, no_text, one_number, one_text}
use Rattle.trace_forms.specs.Parser.{command_app}
use Rattle.trace_arguments.specs.Choices.{ChoiceTexts, ImportTexts, import_of}
use Rattle.trace_arguments.specs.CommandLine.{command_named, commands, explain_of, format_by, line_of, name_command}
use Rattle.trace_arguments.specs.Given.{CommandForm, Given, has, has_required, number_by, option_named, text_given, texts_given}
use Rattle.trace_arguments.specs.Values.{CommandValue, ImportValue, LineValue, name_by}
use Rattle.trace_arguments.specs.declared.line.LineFault.{LineFault}
use Rattle.trace_arguments.specs.declared.line.LineFault.TheVariants.{Usage, NoMemory}
use Rattle.trace_arguments.specs.declared.questions.NameCommand.{NameCommand}
use Rattle.trace_arguments.specs.declared.questions.NameCommand.TheVariants.{Judge, Explain, Match}

-- an out-of-memory error is a fault of memory, and any other is one of usage
abbrev pub IsLineFaultOf : Error → LineFault → Type 0
IsLineFaultOf error NoMemory = kind_of error ≡ OutOfMemory
IsLineFaultOf error (Usage told) = (told ≡ error) × (kind_of error ≡ OutOfMemory → ⊥)

-- ---- the program

abbrev pub app_by : CommandForm → App
app_by command = command_app command.name command.options command.arguments

abbrev pub with_command : App → CommandForm → App
with_command program command = with_subcommand program (app_by command).top

abbrev pub wanted_app : App
wanted_app =
    let bare = new_app (codes "aa-trace") in
    record bare { top = record bare.top { has_version = true; subcommand_required = true } }

abbrev pub program_app : App
program_app = fold with_command wanted_app commands

-- the command of a question about one name
abbrev pub word_of : NameCommand → List ℕ
word_of Judge = codes "judge"
word_of Explain = codes "explain"
word_of Match = codes "match"

abbrev pub command_of_name : NameCommand → CommandForm
command_of_name command = name_command (word_of command) (name_by command)

-- ---- what is found

-- the 32-bit number that a text writes
abbrev pub small_number : List ℕ → Option ℕ
small_number text = if is_unsigned_in 0 4294967295 text then Some (digits_value 10 (without_leading_plus text)) else None

-- the number that is found for an option
abbrev pub number_read : List ℕ → List Row → Option ℕ
number_read name rows = option_and_then small_number (one_of name rows)

abbrev pub flag_of : List ℕ → Option Bool
flag_of text = if bytes_eq text (codes "true") then Some true else (if bytes_eq text (codes "false") then Some false else None)

-- whether an option is given that takes no text
abbrev pub flag_read : List ℕ → List Row → Option Bool
flag_read name rows = option_and_then flag_of (one_of name rows)

abbrev pub flag_found : Found → List ℕ → Bool
flag_found found name = unwrap_or (flag_read name (rows_of found)) false

abbrev pub texts_found : Found → List ℕ → List (List ℕ)
texts_found found name = unwrap_or (option_map raw_values (matched_of found name)) []

abbrev pub choice_found : Found → ChoiceTexts
choice_found found = record {
  profile = first_value found (codes "profile");
  owner = first_value found (codes "owner");
  subject = first_value found (codes "for");
  defines = texts_found found (codes "define");
  overrides = flag_found found (codes "override");
}

abbrev pub import_found : Found → ImportTexts
import_found found = record {
  choice = choice_found found;
  all = flag_found found (codes "all");
  strict = flag_found found (codes "strict");
  account = first_value found (codes "account");
  map = first_value found (codes "map");
}

-- the import that is found, if the texts of its options ask for one
abbrev pub import_read : Found → Option ImportValue
import_read found = import_of (import_found found)

abbrev pub text_found : Found → List ℕ → List ℕ
text_found found name = unwrap_or (first_value found name) []

-- what is found of `explain`
abbrev pub explain_read : Found → Option CommandValue
explain_read found = explain_of (text_found found (codes "PERMS")) (text_found found (codes "NAME"))
    (format_by (flag_found found (codes "json"))) (flag_found found (codes "flattened")) (choice_found found)

-- for an option, the rows have what is given
abbrev pub HasTexts : List Row → Given → List ℕ → Wants → Type 0
HasTexts rows given name (one_number option) =
    let number = number_by option (text_given given name) in
    (number_read name rows ≡ Some number) × (number ≤ option.most)
HasTexts rows given name one_text = first_of name rows ≡ text_given given name
HasTexts rows given name many_texts = unwrap_or (all_of name rows) [] ≡ texts_given given name
HasTexts rows given name no_text = flag_read name rows ≡ Some (has given name)

-- what an argument wants, by whether it may be given any number of times
abbrev pub texts_wanted : Bool → Wants
texts_wanted true = many_texts
texts_wanted false = one_text

-- an argument, as an option that has a text
abbrev pub text_form : ArgumentForm → OptionForm
text_form argument = record { name = argument.name; wants = texts_wanted argument.is_repeated }

abbrev pub forms_of : CommandForm → List OptionForm
forms_of command = command.options ++ map text_form command.arguments

-- the rows have what is given of a command, and what it requires is given
pub record IsGiven (command : CommandForm) (rows : List Row) (given : Given) : Type 0 where
  pub texts : (form : OptionForm) → option_named (forms_of command) form.name ≡ Some form → HasTexts rows given form.name form.wants
  pub required : has_required command.arguments given ≡ true

-- the rows are of a command that has what it requires
abbrev pub IsAsked : CommandForm → List Row → Type 0
IsAsked command rows = (given : Given) × IsGiven command rows given

-- the line is the command's by what the rows have
abbrev pub IsLineBy : CommandForm → List Row → LineValue → Type 0
IsLineBy command rows value = (given : Given) → IsGiven command rows given → command.line given ≡ Some value

-- the rows of a command's matches give this line, or none
abbrev pub GivesLine : CommandForm → List Row → Option LineValue → Type 0
GivesLine command rows value = (given : Given) × IsGiven command rows given × (value ≡ command.line given)

-- what the parser finds in words that it accepts: the command's name, and matches that give the line, if the words are one
pub record IsReadAs (words : List (List ℕ)) (matches : ArgMatches) : Type 0 where
  pub command : List ℕ
  pub rows : List Row
  pub entered : subcommand_rows_of matches ≡ Some (command, rows)
  pub form : CommandForm
  pub form_is : command_named commands command ≡ Some form
  pub gives : GivesLine form rows (line_of words)
