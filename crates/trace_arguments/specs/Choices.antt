-- The import that the texts of options ask for.
use Rattle.std.specs.Prelude.{ℕ, ◌&&◌, ◌||◌, Bool, false, not, List, [], ◌∷◌, map, ◌==◌, Option, Some, None, option_and_then, option_map}
use Rattle.std.specs.Prelude.{is_some, slice_get, codes, if◌then◌else◌}
use Rattle.std.specs.Char.{is_ascii_alphabetic, is_ascii_alphanumeric}
use Rattle.std.specs.List.{list_all}
use Rattle.std.specs.Str.{bytes_eq}
use Rattle.names.specs.Ascii as ascii
use Rattle.clap.specs.Lexer.{name_and_value}
use Rattle.trace_arguments.specs.Given.{Given, has, text_given, texts_given}
use Rattle.trace_arguments.specs.Values.{ChoiceValue, ImportValue}
use Rattle.trace_arguments.specs.declared.choice.OwnerRules.{OwnerRules}
use Rattle.trace_arguments.specs.declared.choice.OwnerRules.TheVariants.{Drop, Keep}
use Rattle.trace_arguments.specs.declared.import.Account.{Account}
use Rattle.trace_arguments.specs.declared.import.Account.TheVariants as account

-- a letter, a digit or an underscore
abbrev pub is_name_byte : ℕ → Bool
is_name_byte b = is_ascii_alphanumeric b || b == ascii.underscore

abbrev pub begins_with_letter : List ℕ → Bool
begins_with_letter [] = false
begins_with_letter (b ∷ bytes) = is_ascii_alphabetic b

-- a letter, and then letters, digits and underscores; but not `profile_name`, which has the profile's name
abbrev pub is_variable : List ℕ → Bool
is_variable text = begins_with_letter text && list_all is_name_byte text && not (bytes_eq text (codes "profile_name"))

-- The last of these bytes is a backslash that would escape a byte after it; `escaped`: an open backslash is directly before them.
abbrev pub ends_open : Bool → List ℕ → Bool
ends_open escaped [] = escaped
ends_open escaped (b ∷ bytes) = ends_open (not escaped && b == ascii.backslash) bytes

-- the value has no open backslash at its end, which would escape what follows it in a path
abbrev pub is_value : List ℕ → Bool
is_value value = not (ends_open false value)

-- what is before the first `=` of VAR=VALUE, and what is after it
abbrev pub define_cut : List ℕ × Option (List ℕ) → Option (List ℕ × List ℕ)
define_cut cut =
    option_and_then (λ value. if is_variable cut.0 && is_value value then Some (cut.0, value) else None) cut.1

abbrev pub define_of : List ℕ → Option (List ℕ × List ℕ)
define_of text = define_cut (name_and_value text)

-- each of the texts
abbrev pub defines_of : List (List ℕ) → Option (List (List ℕ × List ℕ))
defines_of [] = Some []
defines_of (text ∷ texts) = option_and_then (λ first. option_map (λ others. first ∷ others) (defines_of texts)) (define_of text)

abbrev pub owners_by : List ℕ → Option OwnerRules
owners_by text = if bytes_eq text (codes "keep") then Some Keep else (if bytes_eq text (codes "drop") then Some Drop else None)

-- the owner of the files has the rules for owners, and others don't
abbrev pub owners_for : List ℕ → Option OwnerRules
owners_for text = if bytes_eq text (codes "owner") then Some Keep else (if bytes_eq text (codes "others") then Some Drop else None)

-- what becomes of rules for owners by the texts of `--owner` and of `--for`, of which one at most is given; they are kept if none is
abbrev pub owners_of : Option (List ℕ) → Option (List ℕ) → Option OwnerRules
owners_of None None = Some Keep
owners_of (Some text) None = owners_by text
owners_of None (Some text) = owners_for text
owners_of (Some text) (Some other) = None

-- what is said about a profile of a flattened text
pub record ChoiceTexts : Type 0 where
  pub profile : Option (List ℕ)
  pub owner : Option (List ℕ)
  -- the text of `--for`
  pub subject : Option (List ℕ)
  pub defines : List (List ℕ)
  pub overrides : Bool

abbrev pub choice_of : ChoiceTexts → Option ChoiceValue
choice_of said =
    option_and_then (λ owners. option_map (λ defines. record {
      profile = said.profile;
      owners = owners;
      defines = defines;
      overrides = said.overrides;
    }) (defines_of said.defines)) (owners_of said.owner said.subject)

-- whether anything is said
abbrev pub is_chosen : ChoiceTexts → Bool
is_chosen said = is_some said.profile || (is_some said.owner || (is_some said.subject
    || (is_some (slice_get said.defines 0) || said.overrides)))

abbrev pub choice_said : Given → ChoiceTexts
choice_said given = record {
  profile = text_given given (codes "profile");
  owner = text_given given (codes "owner");
  subject = text_given given (codes "for");
  defines = texts_given given (codes "define");
  overrides = has given (codes "override");
}

-- changes alone if nothing is said about them
abbrev pub account_of : Option (List ℕ) → Option Account
account_of None = Some account.Changes
account_of (Some text) =
    if bytes_eq text (codes "changes") then Some account.Changes
    else (if bytes_eq text (codes "all") then Some account.All
    else (if bytes_eq text (codes "none") then Some account.Nothing else None))

-- what is said about an import
pub record ImportTexts : Type 0 where
  pub choice : ChoiceTexts
  pub all : Bool
  pub strict : Bool
  pub account : Option (List ℕ)
  pub map : Option (List ℕ)

-- all profiles have neither one name nor one map
abbrev pub is_single : ImportTexts → Bool
is_single said = is_some said.choice.profile || is_some said.map

abbrev pub import_of : ImportTexts → Option ImportValue
import_of said =
    if said.all && is_single said then None
    else option_and_then (λ choice. option_map (λ account. record {
      choice = choice;
      all = said.all;
      strict = said.strict;
      account = account;
      map = said.map;
    }) (account_of said.account)) (choice_of said.choice)

abbrev pub import_said : Given → ImportTexts
import_said given = record {
  choice = choice_said given;
  all = has given (codes "all");
  strict = has given (codes "strict");
  account = text_given given (codes "account");
  map = text_given given (codes "map");
}
