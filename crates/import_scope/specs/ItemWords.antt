-- What the parts of an item say, where a text is gone through: a variable's name and values, a profile's own name, a rule's path.
use Rattle.std.specs.Prelude.{ℕ, ◌+◌, ◌-◌, List, [], ◌∷◌, length, take, drop, Some, None, Bool, true, false, if◌then◌else◌}
use Rattle.rule_reader.specs.TextBytes.{begins, is_quote}
use Rattle.apparmor_text.specs.declared.part.PartKind.{PartKind}
use Rattle.apparmor_text.specs.declared.part.PartKind.TheVariants as kinds
use Rattle.apparmor_text.specs.Parts.{PartValue}
use Rattle.apparmor_rules.specs.RuleWords.{content, first_bytes, has_part}

abbrev pub is_variable : PartKind → Bool
is_variable kinds.Variable = true
is_variable _ = false

abbrev pub is_adds : PartKind → Bool
is_adds kinds.Adds = true
is_adds _ = false

abbrev pub is_value : PartKind → Bool
is_value kinds.Value = true
is_value _ = false

abbrev pub is_name_part : PartKind → Bool
is_name_part kinds.Name = true
is_name_part _ = false

-- the bytes of the first part of such a kind; none, where there is no such part
abbrev pub bytes_at : (PartKind → Bool) → List PartValue → List ℕ
bytes_at test parts = elim (first_bytes test parts) [ None ↦ [] | Some bytes ↦ bytes ]

-- how many bytes come before the first part of such a kind
abbrev pub bytes_before : (PartKind → Bool) → List PartValue → ℕ
bytes_before test [] = 0
bytes_before test (p ∷ parts) = if test p.kind then 0 else length p.bytes + bytes_before test parts

-- ---- assignments

-- what is between @{ and }
abbrev pub variable_name : List ℕ → List ℕ
variable_name used = take (length used - 3) (drop 2 used)

abbrev pub assigned_name : List PartValue → List ℕ
assigned_name parts = variable_name (bytes_at is_variable parts)

-- the values, without their quotes
abbrev pub assigned_values : List PartValue → List (List ℕ)
assigned_values [] = []
assigned_values (p ∷ parts) = if is_value p.kind then content p.bytes ∷ assigned_values parts else assigned_values parts

-- it is += and not =
abbrev pub is_adding : List PartValue → Bool
is_adding parts = has_part is_adds parts

-- ---- profiles

-- a profile's own name, without quotes
abbrev pub own_name : List PartValue → List ℕ
own_name parts = content (bytes_at is_name_part parts)

-- how many bytes of the item come before that name's first byte
abbrev pub before_name : List PartValue → ℕ
before_name parts = bytes_before is_name_part parts + (if begins is_quote (bytes_at is_name_part parts) then 1 else 0)
