-- What is said about an assignment to a variable that is declared before it, or added to before it is declared. The sentences are our own.
use Rattle.std.specs.Prelude.{ℕ, ◌+◌, ◌-◌, Bool, true, false, List, [], ◌∷◌, ◌++◌, ◌&&◌, ◌==◌, nat_lt, if◌then◌else◌, codes, decimal, drop}
use Rattle.std.specs.Prelude.{length, take, Option, Some, None, bytes_eq}
use Rattle.std.specs.List.{list_any, position_or_len}
use Rattle.names.specs.Ascii as ascii
use Rattle.apparmor_text.specs.Parts.{PartValue, ItemValue, bytes_of_parts}
use Rattle.apparmor_text.specs.declared.part.PartKind.{PartKind}
use Rattle.apparmor_text.specs.declared.part.PartKind.TheVariants as kinds
use Rattle.import_profile.specs.declared.options.ImportOptions.{ImportOptions}
use Rattle.rule_explain.specs.FaultWords.{named}
use Rattle.rule_explain.specs.Places.{place_at}

-- a variable as it is written at the front of a text: `@{HOME}`
abbrev pub variable_word : List ℕ → List ℕ
variable_word from = take (position_or_len (λ b. b == ascii.close_brace) from + 1) from

abbrev pub is_assigned : PartKind → Bool
is_assigned kinds.Variable = true
is_assigned _ = false

-- the part is the variable that is assigned to, and is written like this
abbrev pub is_variable : List ℕ → PartValue → Bool
is_variable word part = is_assigned part.kind && bytes_eq part.bytes word

abbrev pub assigns : ItemValue → List ℕ → Bool
assigns item word = list_any (is_variable word) item.parts

-- how many bytes come before the first item that assigns to the variable, where `before` bytes come before these items
abbrev pub first_assigned : ℕ → List ItemValue → List ℕ → Option ℕ
first_assigned before [] word = None
first_assigned before (item ∷ items) word =
    if assigns item word then Some before else first_assigned (before + length (bytes_of_parts item.parts)) items word

-- ---- in words

abbrev pub undeclared : List ℕ → List ℕ
undeclared word = named word ++ codes " isn't declared before it is added to"

-- `@{HOME} is declared in line 3`
abbrev pub in_text_said : List ℕ → List ℕ → ℕ → Option ℕ → List ℕ
in_text_said text word place None = undeclared word
in_text_said text word place (Some first) =
    if nat_lt first place then named word ++ (codes " is declared in line " ++ decimal (place_at text first).line) else undeclared word

-- what is between @{ and }
abbrev pub variable_name : List ℕ → List ℕ
variable_name word = take (length word - 3) (drop 2 word)

-- a value of the variable with this name is given
abbrev pub is_given : ImportOptions → List ℕ → Bool
is_given options name = list_any (λ d. bytes_eq d.name.now name) options.defines.now

-- by what declares the variable: AppArmor itself, a value that is given, or else the text
abbrev pub variable_said : ImportOptions → List ℕ → List ℕ → ℕ → Option ℕ → List ℕ
variable_said options text word place first =
    if bytes_eq (variable_name word) (codes "profile_name")
    then named word ++ codes " is given by AppArmor: a text can't assign to it"
    else if is_given options (variable_name word)
    then named word ++ codes " is given by --define; --override lets that replace what the text says"
    else in_text_said text word place first

-- about the variable that is assigned to at this place of a text with these items
abbrev pub declared_said : ImportOptions → List ℕ → List ItemValue → ℕ → List ℕ
declared_said options text items place =
    variable_said options text (variable_word (drop place text)) place (first_assigned 0 items (variable_word (drop place text)))
