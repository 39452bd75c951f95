-- A fault of a text in words. The words are our own.
use Rattle.std.specs.Prelude.{ℕ, Bool, true, false, List, [], ◌∷◌, ◌++◌, ◌||◌, if◌then◌else◌, codes, decimal, drop, map, take, bytes_eq}
use Rattle.std.specs.Prelude.{Result, Ok, Err}
use Rattle.std.specs.List.{list_any}
use Rattle.rule_profile.specs.Profile.{ProfileValue}
use Rattle.rule_reader.specs.declared.fault.ReadFault.{ReadFault}
use Rattle.rule_reader.specs.declared.fault.ReadFault.TheVariants.{Syntax, LeftOut, NotAbsolute}
use Rattle.rule_reader.specs.FaultText.{fault_text}
use Rattle.rule_reader.specs.ReadText.{outcome_of}
use Rattle.rule_explain.specs.Windows.{shown}

-- ---- a comma that is missing

abbrev pub is_profile : Result ProfileValue ReadFault → Bool
is_profile (Ok profile) = true
is_profile (Err fault) = false

-- the text up to the place is a profile's, but for a comma and the brace that closes it
abbrev pub is_comma_missing : List ℕ → ℕ → Bool
is_comma_missing text offset = is_profile (outcome_of (take offset text ++ codes ",}"))

-- ---- words that aren't supported

abbrev pub is_one_of : List (List ℕ) → List ℕ → Bool
is_one_of words w = list_any (λ known. bytes_eq w known) words

abbrev pub is_included : List ℕ → Bool
is_included word = bytes_eq word (codes "include") || bytes_eq word (codes "#include")

-- words and marks of AppArmor's profiles (apparmor.d(5), "Format") that `aa-trace import` takes; @ begins a variable, @{ one within a
-- path, ^ a hat, and ( a profile's flags
abbrev pub taken_words : List (List ℕ)
taken_words =
    codes "@" ∷ codes "@{" ∷ codes "^" ∷ codes "(" ∷ codes "->" ∷ codes "abi" ∷ codes "audit" ∷ codes "capability" ∷ codes "change_profile"
    ∷ codes "dbus" ∷ codes "file" ∷ codes "flags" ∷ codes "hat" ∷ codes "io_uring" ∷ codes "link" ∷ codes "mount"
    ∷ codes "mqueue" ∷ codes "network" ∷ codes "other" ∷ codes "owner" ∷ codes "pivot_root" ∷ codes "priority"
    ∷ codes "profile" ∷ codes "ptrace" ∷ codes "remount" ∷ codes "safe" ∷ codes "set" ∷ codes "signal" ∷ codes "umount"
    ∷ codes "unix" ∷ codes "unsafe" ∷ codes "userns" ∷ codes "xattrs" ∷ []

abbrev pub is_taken : List ℕ → Bool
is_taken word = is_one_of taken_words word

abbrev pub advice : List ℕ → List ℕ
advice word =
    if is_included word then codes "; aa-trace import takes it flattened: apparmor_parser -qQp FILE"
    else (if is_taken word then codes "; aa-trace import takes it" else [])

-- what may be done where a variable begins here
abbrev pub variable_advice : List ℕ → List ℕ
variable_advice bytes = if bytes_eq (take 2 bytes) (codes "@{") then codes "; aa-trace import takes it" else []

-- the word as it is shown, or the first 40 bytes of it
abbrev pub named : List ℕ → List ℕ
named word = map shown (take 40 word)

-- `not supported: owner at byte 17; aa-trace import takes it`
abbrev pub word_said : List ℕ → ℕ → List ℕ
word_said word offset = codes "not supported: " ++ (named word ++ (codes " at byte " ++ (decimal offset ++ advice word)))

-- ---- faults

abbrev pub fault_said : List ℕ → ReadFault → List ℕ
fault_said text (Syntax offset) =
    if is_comma_missing text offset then codes "a comma is missing at byte " ++ decimal offset
    else fault_text (Syntax offset) ++ variable_advice (drop offset text)
fault_said text (NotAbsolute offset) = fault_text (NotAbsolute offset) ++ variable_advice (drop offset text)
fault_said text (LeftOut offset len) = word_said (take len (drop offset text)) offset
fault_said text f = fault_text f
