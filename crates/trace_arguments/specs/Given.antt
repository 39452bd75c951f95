-- What the words after the name of a command give: options and arguments.
use Rattle.std.specs.Prelude.{ℕ, ◌&&◌, ◌||◌, Bool, true, false, not, List, [], ◌∷◌, ◌++◌, map, ◌==◌, Option, Some, None, option_and_then}
use Rattle.std.specs.Prelude.{option_map, unwrap_or, is_some, pos, slice_get, codes, find, if◌then◌else◌}
use Rattle.std.specs.List.{filter, list_all}
use Rattle.std.specs.Option.{option_map_or}
use Rattle.std.specs.Str.{bytes_eq, chars}
use Rattle.std.specs.Str.Parse.{digits_value, without_leading_sign}
use Rattle.names.specs.Ascii as ascii
use Rattle.clap.specs.Lexer.{long_of}
use Rattle.clap.specs.ValueTests.{is_signed_in}
use Rattle.trace_arguments.specs.Values.{LineValue}
use Rattle.trace_forms.specs.Forms.{ArgumentForm, NumberOption, OptionForm, Wants, many_texts, no_text, one_number, one_text}

-- the word is an option: a hyphen followed by a character
abbrev pub is_option : List ℕ → Bool
is_option [] = false
is_option (b ∷ rest) = b == ascii.dash && is_some (slice_get (chars rest) 0)

-- ---- options

-- The text is a number that the option takes: decimal digits, perhaps after a sign.
abbrev pub is_number_of : NumberOption → List ℕ → Bool
is_number_of option text = is_signed_in (pos option.least) (pos option.most) text

abbrev pub number_form : NumberOption → OptionForm
number_form option = record { name = option.name; wants = one_number option }

-- the first option of this name
abbrev pub option_named : List OptionForm → List ℕ → Option OptionForm
option_named options name = find (λ option. bytes_eq option.name name) options

-- whether this text, or none, is what is expected
abbrev pub is_wanted : Wants → Option (List ℕ) → Bool
is_wanted (one_number option) said = option_map_or (is_number_of option) said false
is_wanted one_text said = is_some said
is_wanted many_texts said = is_some said
is_wanted no_text said = not (is_some said)

abbrev pub comes_again : Wants → Bool
comes_again many_texts = true
comes_again _ = false

-- ---- what is given

-- the names of the options and arguments that are given, each with its text; that of an option that takes nothing is empty
abbrev pub Given : Type 0
Given = List (List ℕ × List ℕ)

abbrev pub text_given : Given → List ℕ → Option (List ℕ)
text_given given name = option_map (λ pair. pair.1) (find (λ pair. bytes_eq pair.0 name) given)

abbrev pub texts_given : Given → List ℕ → List (List ℕ)
texts_given given name = map (λ pair. pair.1) (filter (λ pair. bytes_eq pair.0 name) given)

abbrev pub has : Given → List ℕ → Bool
has given name = is_some (text_given given name)

-- whether the option may be given once more, with this text or with none
abbrev pub may_come : Given → Option (List ℕ) → OptionForm → Bool
may_come given said option = is_wanted option.wants said && (comes_again option.wants || not (has given option.name))

-- one more option after those given, if there is a name, and the command accepts it
abbrev pub one_more : List OptionForm → Given → Option (List ℕ) → Option (List ℕ) → Option Given
one_more options given None said = None
one_more options given (Some name) said =
    if option_map_or (may_come given said) (option_named options name) false then Some (given ++ (name, unwrap_or said []) ∷ []) else None

-- whether the argument may be given once more
abbrev pub is_next : Given → ArgumentForm → Bool
is_next given argument = argument.is_repeated || not (has given argument.name)

-- the word is the first argument that may be given once more, if there is one
abbrev pub one_argument : List ArgumentForm → Given → List ℕ → Option Given
one_argument arguments given word =
    option_map (λ argument. given ++ (argument.name, word) ∷ []) (find (is_next given) arguments)

-- each of the words is an argument
abbrev pub arguments_by : List ArgumentForm → Given → List (List ℕ) → Option Given
arguments_by arguments given [] = Some given
arguments_by arguments given (word ∷ words) =
    option_and_then (λ more. arguments_by arguments more words) (one_argument arguments given word)

abbrev pub has_required : List ArgumentForm → Given → Bool
has_required arguments given = list_all (λ argument. not argument.is_required || has given argument.name) arguments

-- the name in a word `--NAME=TEXT` or `--NAME`, and the text in the first
abbrev pub name_in : List ℕ → Option (List ℕ)
name_in word = option_map (λ cut. cut.0) (long_of word)

abbrev pub text_in : List ℕ → Option (List ℕ)
text_in word = option_and_then (λ cut. cut.1) (long_of word)

-- the word after `--NAME` is the text, unless it is an option itself
abbrev pub text_behind : List ℕ → Option (List ℕ)
text_behind word = if is_option word then None else Some word

-- the word is `--NAME` of an option that needs a text
abbrev pub is_open : List OptionForm → List ℕ → Bool
is_open options word = not (is_some (text_in word))
    && option_map_or (λ option. not (is_wanted option.wants None)) (option_and_then (option_named options) (name_in word)) false

pub record CommandForm : Type 0 where
  pub name : List ℕ
  pub options : List OptionForm
  -- in their order
  pub arguments : List ArgumentForm
  -- the line that it is by what is given, if that makes one
  pub line : Given → Option LineValue

-- an option that is complete in one word, or an argument
abbrev pub one_word : CommandForm → Given → List ℕ → Option Given
one_word command given word =
    if is_option word then one_more command.options given (name_in word) (text_in word) else one_argument command.arguments given word

-- What the words give in addition to what is given: options, as `--NAME=TEXT`, as `--NAME` and `TEXT` or as `--NAME` alone, and
-- arguments, in any order. After `--` each word is an argument. `waiting`: the option whose text is the next word.
abbrev pub given_by : CommandForm → Given → Option (List ℕ) → List (List ℕ) → Option Given
given_by command given None [] = Some given
given_by command given (Some waiting) [] = None
given_by command given (Some waiting) (word ∷ words) =
    option_and_then (λ more. given_by command more None words) (one_more command.options given (Some waiting) (text_behind word))
given_by command given None (word ∷ words) =
    if bytes_eq word (codes "--") then arguments_by command.arguments given words
    else (if is_open command.options word then given_by command given (name_in word) words
    else option_and_then (λ more. given_by command more None words) (one_word command given word))

-- the line of a command by the words after its name
abbrev pub line_by : CommandForm → List (List ℕ) → Option LineValue
line_by command words =
    option_and_then (λ given. if has_required command.arguments given then command.line given else None) (given_by command [] None words)

-- the number of an option, by the text that is given or by its default
abbrev pub number_by : NumberOption → Option (List ℕ) → ℕ
number_by option said = digits_value 10 (without_leading_sign (unwrap_or said option.default))

abbrev pub number_of : Given → NumberOption → ℕ
number_of given option = number_by option (text_given given option.name)

-- the text of an argument that must be given
abbrev pub text_of : Given → List ℕ → List ℕ
text_of given name = unwrap_or (text_given given name) []
