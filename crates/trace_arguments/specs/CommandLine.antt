-- The commands, and the line that words stand for.
use Rattle.std.specs.Prelude.{ℕ, Bool, true, false, List, [], ◌∷◌, ◌++◌, map, Option, Some, None, option_and_then, option_map, codes}
use Rattle.std.specs.Prelude.{find, if◌then◌else◌}
use Rattle.std.specs.Str.{bytes_eq}
use Rattle.trace_arguments.specs.Choices.{ChoiceTexts, choice_of, choice_said, import_of, import_said, is_chosen}
use Rattle.trace_arguments.specs.Given.{CommandForm, Given, has, line_by, number_form, number_of, text_given, text_of, texts_given}
use Rattle.trace_forms.specs.Forms.{ArgumentForm, NumberOption, OptionForm, many_texts, no_text, one_text}
use Rattle.trace_arguments.specs.Values.{CommandValue, LineValue, all_names, any_name, audit, check, compile, diff, explain}
use Rattle.trace_arguments.specs.Values.{explain_flattened, import_text, judge, lint, match_name, names, run, steps, storm, test}
use Rattle.trace_report.specs.declared.format.Format.{Format}
use Rattle.trace_report.specs.declared.format.Format.TheVariants.{Json, Text}

abbrev pub capacity : NumberOption
capacity = record { name = codes "capacity"; default = codes "1024"; least = 1; most = 16384 }

abbrev pub sessions : NumberOption
sessions = record { name = codes "sessions"; default = codes "4"; least = 1; most = 16 }

abbrev pub opens : NumberOption
opens = record { name = codes "opens"; default = codes "1000"; least = 1; most = 100000 }

abbrev pub changes : NumberOption
changes = record { name = codes "changes"; default = codes "1000"; least = 0; most = 100000 }

abbrev pub depth : NumberOption
depth = record { name = codes "depth"; default = codes "0"; least = 0; most = 64 }

abbrev pub text_option : List ℕ → OptionForm
text_option name = record { name = name; wants = one_text }

abbrev pub flag_option : List ℕ → OptionForm
flag_option name = record { name = name; wants = no_text }

abbrev pub verbose : OptionForm
verbose = flag_option (codes "verbose")

abbrev pub quiet : OptionForm
quiet = flag_option (codes "quiet")

abbrev pub json : OptionForm
json = flag_option (codes "json")

abbrev pub each_rule : OptionForm
each_rule = flag_option (codes "each-rule")

-- what chooses a profile of a flattened text
abbrev pub choice_options : List OptionForm
choice_options = text_option (codes "profile")
    ∷ text_option (codes "owner")
    ∷ text_option (codes "for")
    ∷ record { name = codes "define"; wants = many_texts }
    ∷ flag_option (codes "override") ∷ []

abbrev pub format_by : Bool → Format
format_by true = Json
format_by false = Text

abbrev pub format_of : Given → Format
format_of given = format_by (has given (codes "json"))

abbrev pub required : List ℕ → ArgumentForm
required name = record { name = name; is_required = true; is_repeated = false }

abbrev pub optional : List ℕ → ArgumentForm
optional name = record { name = name; is_required = false; is_repeated = false }

abbrev pub one_or_more : List ℕ → ArgumentForm
one_or_more name = record { name = name; is_required = true; is_repeated = true }

-- PERMS and one more argument
abbrev pub perms_and : List ℕ → List ArgumentForm
perms_and second = required (codes "PERMS") ∷ required second ∷ []

-- the line of a command that has no notes to write
abbrev pub plain_line : CommandValue → LineValue
plain_line command = record { command = command; verbose = false }

-- the line of a command that writes notes with `--verbose`
abbrev pub noted_line : Given → CommandValue → LineValue
noted_line given command = record { command = command; verbose = has given (codes "verbose") }

-- a command that judges one name
abbrev pub name_command : List ℕ → (List ℕ → List ℕ → Format → Bool → CommandValue) → CommandForm
name_command name value = record {
  name = name;
  options = verbose ∷ quiet ∷ json ∷ [];
  arguments = perms_and (codes "NAME");
  line = λ given. Some (noted_line given (value (text_of given (codes "PERMS")) (text_of given (codes "NAME")) (format_of given)
      (has given (codes "quiet"))));
}

-- a command whose option is a number
abbrev pub number_command : List ℕ → NumberOption → (ℕ → CommandValue) → CommandForm
number_command name number value = record {
  name = name;
  options = verbose ∷ number_form number ∷ [];
  arguments = [];
  line = λ given. Some (noted_line given (value (number_of given number)));
}

abbrev pub judge_command : CommandForm
judge_command = name_command (codes "judge") judge

-- the rules of this program's own language, or with `--flattened` those of a profile of a flattened text
abbrev pub explain_of : List ℕ → List ℕ → Format → Bool → ChoiceTexts → Option CommandValue
explain_of perms name format flattened said =
    if flattened then option_map (explain_flattened perms name format) (choice_of said)
    else (if is_chosen said then None else Some (explain perms name format))

abbrev pub explain_command : CommandForm
explain_command = record {
  name = codes "explain";
  options = flag_option (codes "flattened") ∷ choice_options ++ json ∷ [];
  arguments = perms_and (codes "NAME");
  line = λ given. option_map plain_line (explain_of (text_of given (codes "PERMS")) (text_of given (codes "NAME")) (format_of given)
      (has given (codes "flattened")) (choice_said given));
}

abbrev pub any_command : CommandForm
any_command = record {
  name = codes "any";
  options = each_rule ∷ json ∷ [];
  arguments = perms_and (codes "PATTERN");
  line = λ given. Some (plain_line (any_name (text_of given (codes "PERMS")) (text_of given (codes "PATTERN"))
      (has given (codes "each-rule")) (format_of given)));
}

abbrev pub all_command : CommandForm
all_command = record {
  name = codes "all";
  options = json ∷ [];
  arguments = perms_and (codes "PATTERN");
  line = λ given. Some (plain_line (all_names (text_of given (codes "PERMS")) (text_of given (codes "PATTERN")) (format_of given)));
}

abbrev pub diff_command : CommandForm
diff_command = record {
  name = codes "diff";
  options = text_option (codes "below") ∷ each_rule ∷ json ∷ [];
  arguments = required (codes "OLD") ∷ optional (codes "NEW") ∷ [];
  line = λ given. Some (plain_line (diff (text_of given (codes "OLD")) (text_given given (codes "NEW")) (text_given given (codes "below"))
      (has given (codes "each-rule")) (format_of given)));
}

abbrev pub lint_command : CommandForm
lint_command = record {
  name = codes "lint";
  options = json ∷ [];
  arguments = [];
  line = λ given. Some (plain_line (lint (format_of given)));
}

abbrev pub run_command : CommandForm
run_command = number_command (codes "run") capacity run

abbrev pub test_command : CommandForm
test_command = record {
  name = codes "test";
  options = verbose ∷ flag_option (codes "answers") ∷ number_form capacity ∷ json ∷ [];
  arguments = [];
  line = λ given. Some (noted_line given (test (number_of given capacity) (format_of given) (has given (codes "answers"))));
}

abbrev pub compile_command : CommandForm
compile_command = number_command (codes "compile") depth compile

abbrev pub check_command : CommandForm
check_command =
    record { name = codes "check"; options = verbose ∷ []; arguments = []; line = λ given. Some (noted_line given check) }

abbrev pub match_command : CommandForm
match_command = name_command (codes "match") match_name

abbrev pub steps_command : CommandForm
steps_command = number_command (codes "steps") capacity steps

abbrev pub storm_command : CommandForm
storm_command = record {
  name = codes "storm";
  options = map number_form (sessions ∷ opens ∷ changes ∷ []);
  arguments = [];
  line = λ given. Some (plain_line (storm (number_of given sessions) (number_of given opens) (number_of given changes)));
}

abbrev pub import_command : CommandForm
import_command = record {
  name = codes "import";
  options = verbose ∷ choice_options
      ++ flag_option (codes "all") ∷ flag_option (codes "strict") ∷ text_option (codes "account") ∷ text_option (codes "map") ∷ [];
  arguments = [];
  line = λ given. option_map (λ asked. noted_line given (import_text asked)) (import_of (import_said given));
}

abbrev pub names_command : CommandForm
names_command = record {
  name = codes "names";
  options = flag_option (codes "not-allowed") ∷ flag_option (codes "null") ∷ flag_option (codes "verdict") ∷ [];
  arguments = perms_and (codes "PROFILE");
  line = λ given. Some (plain_line (names (record {
    perms = text_of given (codes "PERMS");
    profile = text_of given (codes "PROFILE");
    not_allowed = has given (codes "not-allowed");
    verdicts = has given (codes "verdict");
    null = has given (codes "null");
  })));
}

abbrev pub audit_command : CommandForm
audit_command = record {
  name = codes "audit";
  options = json ∷ [];
  arguments = one_or_more (codes "PROFILES") ∷ [];
  line = λ given. Some (plain_line (audit (texts_given given (codes "PROFILES")) (format_of given)));
}

-- the commands of one name and a profile
abbrev pub profile_commands : List CommandForm
profile_commands = judge_command ∷ explain_command ∷ []

-- the commands of all names
abbrev pub question_commands : List CommandForm
question_commands = any_command ∷ all_command ∷ diff_command ∷ lint_command ∷ []

abbrev pub script_commands : List CommandForm
script_commands = run_command ∷ test_command ∷ []

-- the commands of the image of a profile
abbrev pub image_commands : List CommandForm
image_commands = compile_command ∷ check_command ∷ match_command ∷ []

-- the commands of single events, and of threads
abbrev pub event_commands : List CommandForm
event_commands = steps_command ∷ storm_command ∷ []

-- the commands of a flattened text, of a list of names and of a log
abbrev pub list_commands : List CommandForm
list_commands = import_command ∷ names_command ∷ audit_command ∷ []

abbrev pub commands : List CommandForm
commands = profile_commands ++ question_commands ++ script_commands ++ image_commands ++ event_commands ++ list_commands

abbrev pub command_named : List CommandForm → List ℕ → Option CommandForm
command_named commands name = find (λ command. bytes_eq command.name name) commands

-- the program's name, a command's name and its arguments
abbrev pub line_of : List (List ℕ) → Option LineValue
line_of (program ∷ name ∷ words) = option_and_then (λ command. line_by command words) (command_named commands name)
line_of _ = None
