-- File rules (apparmor.d(5), "Format" and "Access Modes"), and what else begins with a rule's qualifiers.
use Rattle.std.specs.Prelude.{ℕ, List, length, codes, Result, Ok, Err, Option, Some, None, Bool, true, false, not, ◌&&◌, ◌||◌}
use Rattle.std.specs.Prelude.{◌==◌, if◌then◌else◌, take, drop}
use Rattle.std.specs.List.{list_any}
use Rattle.names.specs.Ascii as ascii
use Rattle.names.specs.declared.permissions.Permission.TheVariants.{Link}
use Rattle.names.specs.Permissions.{has}
use Rattle.rule_reader.specs.TextBytes.{begins, is_quote, is_comma, is_arrow, is_open_brace}
use Rattle.rule_reader.specs.ReadWords.{word, is_word}
use Rattle.apparmor_text.specs.declared.part.PartKind.{PartKind}
use Rattle.apparmor_text.specs.declared.part.PartKind.TheVariants as parts
use Rattle.apparmor_text.specs.declared.part.ItemKind.{ItemKind}
use Rattle.apparmor_text.specs.declared.part.ItemKind.TheVariants as items
use Rattle.apparmor_words.specs.declared.letters.ExecMode.{ExecMode}
use Rattle.apparmor_words.specs.declared.letters.Letters.{Letters}
use Rattle.apparmor_words.specs.Letters.{letters_of, are_fitting, is_bare, inherits}
use Rattle.apparmor_words.specs.Steps.{Stop, include, left_out, permissions, ◌>>=◌, fault_here, syntax_here}
use Rattle.apparmor_text.specs.Parts.{PartValue}
use Rattle.apparmor_text.specs.Readings.{Reading, taken, taken_to}
use Rattle.apparmor_words.specs.Words.{blank_at, word_end}
use Rattle.apparmor_text.specs.WordParts.{blank_part, gap_part, path_part, literal_part}
use Rattle.apparmor_words.specs.Priorities.{past_priority, is_raised}
use Rattle.apparmor_words.specs.Statements.{is_statement}
use Rattle.apparmor_text.specs.Statements.{statement_part}

-- ---- words

-- this word and the blank after it, if it is here
abbrev pub optional_word : PartKind → List ℕ → Reading → Result Reading Stop
optional_word kind name s = if is_word name s.rest then blank_part (taken kind (length name) s) else Ok s

-- one of two words and the blank after it, if one is here
abbrev pub optional_choice : PartKind → List ℕ → PartKind → List ℕ → Reading → Result Reading Stop
optional_choice kind name other_kind other_name s =
    if is_word name s.rest then blank_part (taken kind (length name) s) else optional_word other_kind other_name s

-- a priority and the blank after it, if one is here (apparmor.d(5) of AppArmor 4.1, "Rule Qualifiers")
abbrev pub priority_part : Reading → Result Reading Stop
priority_part s =
    if is_word (codes "priority") s.rest then (past_priority s.rest >>= λ rest. blank_part (taken_to parts.Priority rest s)) else Ok s

-- the word here is not supported
abbrev pub word_left_out : {A : Type 0} → List ℕ → Result A Stop
word_left_out bytes = fault_here (left_out (word bytes)) bytes

-- ---- permissions

-- The word of permissions here, in a rule that denies or not. Letters that are no permissions are this fault.
abbrev pub permissions_word : Bool → Stop → List ℕ → Result Letters Stop
permissions_word denies unknown bytes =
    if length (word bytes) == 0 then syntax_here bytes
    else elim (letters_of (word bytes)) [
      | None ↦ Err unknown
      | Some l ↦ if are_fitting denies l then Ok l else fault_here permissions bytes
    ]

-- the word as a part
abbrev pub permissions_part : Reading → Reading
permissions_part s = taken parts.Permissions (length (word s.rest)) s

-- ---- arrows and the comma

-- an arrow, which is here, and the word after it: one part
abbrev pub target_part : Reading → Result Reading Stop
target_part s =
    blank_at false (drop 2 s.rest) >>= λ word. word_end word >>= λ rest. blank_part (taken_to parts.Arrow rest s)

abbrev pub comma_part : Reading → Result Reading Stop
comma_part s = literal_part parts.Comma (codes ",") s

-- what follows path and permissions: an arrow, if there is one, and the comma
unfoldable pub rule_end : Reading → Result Reading Stop
rule_end s = blank_part s >>= λ at. (if is_arrow at.rest then target_part at else Ok at) >>= λ comma. comma_part comma

-- ---- file rules

-- PATH PERMISSIONS
unfoldable pub path_first : Bool → Reading → Result Reading Stop
path_first denies s = do
  path ← path_part parts.Path s
  at ← blank_part path
  letters ← permissions_word denies (record { kind = permissions; left = length at.rest }) at.rest
  rule_end (permissions_part at)

abbrev pub is_mode_there : Option ExecMode → Bool
is_mode_there None = false
is_mode_there (Some m) = true

-- a rule of these letters can have no arrow: it links, and it runs programs
abbrev pub links_and_runs : Letters → Bool
links_and_runs l = has l.perms Link && is_mode_there l.exec

-- PERMISSIONS PATH. Letters that are no permissions are a word that is not supported.
unfoldable pub permissions_first : Bool → Reading → Result Reading Stop
permissions_first denies s = do
  letters ← permissions_word denies (record { kind = left_out (word s.rest); left = length s.rest }) s.rest
  from ← gap_part (permissions_part s)
  path ← optional_word parts.Subset (codes "subset") from
  behind ← path_part parts.Path path
  at ← blank_part behind
  if is_arrow at.rest && links_and_runs letters then fault_here permissions s.rest else rule_end at

-- what may begin the path of a rule
abbrev pub begins_path_word : ℕ → Bool
begins_path_word b = b == ascii.slash || b == ascii.at_sign || is_quote b

-- { and $, which would begin a block and a boolean, are not supported
abbrev pub is_left_out_byte : ℕ → Bool
is_left_out_byte b = is_open_brace b || b == ascii.dollar

-- a comma is here
abbrev pub comes_comma : Result (List ℕ) Stop → Bool
comes_comma (Ok rest) = begins is_comma rest
comes_comma (Err stop) = false

-- the word all by itself, a rule of AppArmor 4 that isn't supported
abbrev pub is_all_rule : List ℕ → Bool
is_all_rule bytes = is_word (codes "all") bytes && comes_comma (blank_at false (drop 3 bytes))

unfoldable pub body_part : Bool → Reading → Result Reading Stop
body_part denies s =
    if begins begins_path_word s.rest then path_first denies s
    else if is_all_rule s.rest then word_left_out s.rest
    else if not (length (word s.rest) == 0) then permissions_first denies s
    else if begins is_left_out_byte s.rest then fault_here (left_out (take 1 s.rest)) s.rest
    else syntax_here s.rest

-- safe or unsafe, if one is here, and path and permissions
abbrev pub guarded_body : Bool → Reading → Result Reading Stop
guarded_body denies s =
    optional_choice parts.Safe (codes "safe") parts.Unsafe (codes "unsafe") s >>= λ body. body_part denies body

-- the word file by itself allows every file, and denies none; else it is only a word. `from_deny` bytes are left from the word
-- deny on.
unfoldable pub file_rule : Bool → ℕ → Reading → Result Reading Stop
file_rule denies from_deny s = blank_part (taken parts.File 4 s) >>= λ at.
    if begins is_comma at.rest then (if denies then Err (record { kind = permissions; left = from_deny }) else comma_part at)
    else guarded_body denies at

-- link PATH -> TARGET
unfoldable pub link_rule : Reading → Result Reading Stop
link_rule s = do
  from ← blank_part (taken parts.Link 4 s)
  path ← optional_word parts.Subset (codes "subset") from
  behind ← path_part parts.Path path
  at ← blank_part behind
  comma ← (if is_arrow at.rest then target_part at else syntax_here at.rest)
  comma_part comma

abbrev pub of_kind : ItemKind → Result Reading Stop → Result (ItemKind × Reading) Stop
of_kind kind s = s >>= λ s. Ok (kind, s)

-- after the qualifiers, one of which denies or not: a statement or a file rule
unfoldable pub unqualified_item : Bool → ℕ → Reading → Result (ItemKind × Reading) Stop
unqualified_item denies from_deny s =
    if is_word (codes "include") s.rest then fault_here include s.rest
    else if is_statement s.rest then of_kind items.Statement (statement_part s)
    else of_kind items.Rule (
    if is_word (codes "link") s.rest then link_rule s
    else if is_word (codes "file") s.rest then file_rule denies from_deny s
    else guarded_body denies s)

-- a priority, audit, then allow or deny, then owner or other, and what follows them
unfoldable pub qualified_item : Reading → Result (ItemKind × Reading) Stop
qualified_item s = do
  ranked ← priority_part s
  audited ← optional_word parts.Audit (codes "audit") ranked
  told ← optional_choice parts.Allow (codes "allow") parts.Deny (codes "deny") audited
  from ← optional_choice parts.Owner (codes "owner") parts.Other (codes "other") told
  unqualified_item (is_word (codes "deny") audited.rest) (length audited.rest) from

-- ---- rules that are raised above others

abbrev pub is_permissions : PartKind → Bool
is_permissions parts.Permissions = true
is_permissions _ = false

-- an exec mode that has letters, and no i among them
abbrev pub is_mode_apart : Option ExecMode → Bool
is_mode_apart None = false
is_mode_apart (Some m) = not (is_bare m) && not (inherits m)

abbrev pub have_mode_apart : Option Letters → Bool
have_mode_apart None = false
have_mode_apart (Some l) = is_mode_apart l.exec

-- the part has letters with such a mode
abbrev pub runs_apart : PartValue → Bool
runs_apart part = is_permissions part.kind && have_mode_apart (letters_of part.bytes)

-- A rule with its qualifiers. One with a priority over 0 that runs programs by a mode without i isn't supported: it also takes the
-- permission to map from rules of a lower priority that run them by a mode with i (apparmor.d(5) of AppArmor 4.1, "Rule Qualifiers",
-- says that it overrides them; the parser does so permission by permission, but for this).
unfoldable pub rule_item : Reading → Result (ItemKind × Reading) Stop
rule_item s = qualified_item s >>= λ item.
    if is_raised s.rest && list_any runs_apart item.1.parts then word_left_out s.rest else Ok item
