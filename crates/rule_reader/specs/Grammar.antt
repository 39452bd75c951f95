-- The grammar of profile texts: what may be written, as trees; the bytes of a tree; and the profile that it means.
use Rattle.std.specs.Prelude.{◌≡◌, ◌≢◌, ℕ, ◌≤◌, ◌<◌, List, [], ◌∷◌, ◌++◌, length, codes, Bool, true, false, if◌then◌else◌}
use Rattle.std.specs.Prelude.{Option, Some, None}
use Rattle.names.specs.declared.permissions.Perms.{Perms}
use Rattle.names.specs.Permissions.{perms_of, conflicts}
use Rattle.names.specs.declared.kind.RuleKind.{RuleKind}
use Rattle.names.specs.declared.kind.RuleKind.TheVariants.{Allow, Deny}
use Rattle.rule_reader.specs.GrammarPaths.{WrittenPath, print_path, IsPath, path_means}
use Rattle.rule_reader.specs.GrammarWords.{Piece, print_blank, IsBlank, IsGap, Stands, print_last, IsLast, WrittenName, print_name}
use Rattle.rule_reader.specs.GrammarWords.{name_means, IsWrittenName, IsNameCell, IsFirst, BeginsWithSlash}
use Rattle.rule_globs.specs.Each.{Each}
use Rattle.rule_profile.specs.Limits.{most_rules}
use Rattle.rule_profile.specs.Profile.{RuleValue, ProfileValue}
use Rattle.rule_reader.specs.TextBytes.{begins, ends_behind_comma}

-- ---- rules (apparmor.d(5), "Access Modes")

pub data Qualifier : Type 0 where
  none : Qualifier
  -- the word, and the gap after it
  allow : List Piece → Qualifier
  deny : List Piece → Qualifier

abbrev pub print_qualifier : Qualifier → List ℕ
print_qualifier none = []
print_qualifier (allow gap) = codes "allow" ++ print_blank gap
print_qualifier (deny gap) = codes "deny" ++ print_blank gap

abbrev pub IsQualifier : Qualifier → Type 0
IsQualifier none = Unit {0}
IsQualifier (allow gap) = IsGap gap
IsQualifier (deny gap) = IsGap gap

-- a rule without qualifier allows
abbrev pub kind_of : Qualifier → RuleKind
kind_of none = Allow
kind_of (allow gap) = Allow
kind_of (deny gap) = Deny

-- one or more letters of permissions, and their set, in which no two conflict
abbrev pub IsWord : List ℕ → Perms → Type 0
IsWord letters perms = (0 < length letters) × (perms_of letters ≡ Some perms) × (conflicts perms ≡ false)

pub record WrittenRule : Type 0 where
  pub qualifier : Qualifier
  -- the path comes before the permissions
  pub path_first : Bool
  pub path : WrittenPath
  -- the gap between path and permissions
  pub gap : List Piece
  pub letters : List ℕ
  -- the set of the letters
  pub perms : Perms
  -- the blank before the comma
  pub before_comma : List Piece
  -- the blank after the rule
  pub past : List Piece

abbrev pub print_body : WrittenRule → List ℕ
print_body r =
    if r.path_first then print_path r.path ++ (print_blank r.gap ++ r.letters)
    else r.letters ++ (print_blank r.gap ++ print_path r.path)

abbrev pub print_rule : WrittenRule → List ℕ
print_rule r = print_qualifier r.qualifier ++ (print_body r ++ (print_blank r.before_comma ++ codes ","))

-- Directly after a bare path, a comma is the rule's only before certain bytes: otherwise it is part of the path.
abbrev pub CommaEnds : List Piece → Bool → List ℕ → Type 0
CommaEnds [] false behind = begins ends_behind_comma behind ≡ true
CommaEnds [] true behind = Unit {0}
CommaEnds (p ∷ pieces) quoted behind = Unit {0}

-- what follows the path
abbrev pub PathStands : Bool → WrittenRule → List ℕ → Type 0
PathStands true r behind = Stands r.path.quoted r.gap
PathStands false r behind = Stands r.path.quoted r.before_comma × CommaEnds r.before_comma r.path.quoted behind

-- A rule without qualifier whose letters come first has other letters than all: that word at a rule's start is a rule of its own,
-- which is not supported (apparmor.d(5) of AppArmor 4.1, "Format").
abbrev pub BeginsNoAll : Qualifier → Bool → List ℕ → Type 0
BeginsNoAll none false letters = letters ≢ codes "all"
BeginsNoAll none true letters = Unit {0}
BeginsNoAll (allow gap) path_first letters = Unit {0}
BeginsNoAll (deny gap) path_first letters = Unit {0}

-- valid with these bytes after the comma
pub record IsRule (behind : List ℕ) (r : WrittenRule) : Type 0 where
  pub qualifier : IsQualifier r.qualifier
  pub path : IsPath r.path
  pub gap : IsGap r.gap
  pub word : IsWord r.letters r.perms
  pub first_word : BeginsNoAll r.qualifier r.path_first r.letters
  pub before_comma : IsBlank r.before_comma
  pub past : IsBlank r.past
  pub stands : PathStands r.path_first r behind

abbrev pub rule_means : WrittenRule → RuleValue
rule_means r = record { kind = kind_of r.qualifier; perms = r.perms; items = path_means r.path }

-- each rule and the blank after it
abbrev pub print_rules : List WrittenRule → List ℕ
print_rules [] = []
print_rules (r ∷ rules) = print_rule r ++ (print_blank r.past ++ print_rules rules)

-- what follows a rule: a blank, the other rules and the closing brace
abbrev pub behind_rule : WrittenRule → List WrittenRule → List ℕ
behind_rule r rules = print_blank r.past ++ (print_rules rules ++ codes "}")

abbrev pub AreRules : List WrittenRule → Type 0
AreRules [] = Unit {0}
AreRules (r ∷ rules) = IsRule (behind_rule r rules) r × AreRules rules

abbrev pub rules_mean : List WrittenRule → List RuleValue
rules_mean [] = []
rules_mean (r ∷ rules) = rule_means r ∷ rules_mean rules

-- ---- headers (apparmor.d(5), "Format")

-- the name of the path that the profile is attached to, which is not kept; and the gap after it
pub record Attachment : Type 0 where
  pub name : WrittenName
  pub gap : List Piece

-- What is between the word profile, if it is written, and the opening brace.
pub data WrittenHeader : Type 0 where
  -- the gap, the name, the gap and perhaps an attachment
  named : List Piece → WrittenName → List Piece → Option Attachment → WrittenHeader
  -- the name and the gap, without the word profile
  by_path : WrittenName → List Piece → WrittenHeader

abbrev pub print_attachment : Option Attachment → List ℕ
print_attachment None = []
print_attachment (Some a) = print_name a.name ++ print_blank a.gap

abbrev pub print_header : WrittenHeader → List ℕ
print_header (named gap name behind attachment) =
    codes "profile" ++ (print_blank gap ++ (print_name name ++ (print_blank behind ++ print_attachment attachment)))
print_header (by_path name behind) = print_name name ++ print_blank behind

-- a gap, directly after a name
abbrev pub IsGapBehind : WrittenName → List Piece → Type 0
IsGapBehind name gap = IsGap gap × Stands name.quoted gap

-- an attachment may have any length (our choice)
abbrev pub IsAttachment : Option Attachment → Type 0
IsAttachment None = Unit {0}
IsAttachment (Some a) = Each (IsNameCell a.name.quoted) a.name.cells × BeginsWithSlash a.name.cells × IsGapBehind a.name a.gap

abbrev pub IsHeader : WrittenHeader → Type 0
IsHeader (named gap name behind attachment) =
    IsGap gap × IsWrittenName name × IsFirst name.quoted name.cells × IsGapBehind name behind × IsAttachment attachment
IsHeader (by_path name behind) = IsWrittenName name × BeginsWithSlash name.cells × IsGapBehind name behind

abbrev pub header_means : WrittenHeader → List ℕ
header_means (named gap name behind attachment) = name_means name
header_means (by_path name behind) = name_means name

-- ---- texts

pub record WrittenText : Type 0 where
  -- the blank before the text
  pub start : List Piece
  pub header : WrittenHeader
  -- the blank before the first rule
  pub inside : List Piece
  pub rules : List WrittenRule
  -- the blank after the closing brace, and a comment that ends at the text's end
  pub past : List Piece
  pub last : Option (List ℕ)

unfoldable pub print_text : WrittenText → List ℕ
print_text t =
    print_blank t.start ++ (print_header t.header ++ (codes "{" ++ (print_blank t.inside
    ++ (print_rules t.rules ++ (codes "}" ++ (print_blank t.past ++ print_last t.last))))))

pub record IsText (t : WrittenText) : Type 0 where
  pub start : IsBlank t.start
  pub header : IsHeader t.header
  pub inside : IsBlank t.inside
  pub rules : AreRules t.rules
  pub rules_fit : length t.rules ≤ most_rules
  pub past : IsBlank t.past
  pub last : IsLast t.last

abbrev pub text_means : WrittenText → ProfileValue
text_means t = record { name = header_means t.header; rules = rules_mean t.rules }

-- the text is written in the grammar, and means this profile
pub record ReadsAs (text : List ℕ) (p : ProfileValue) : Type 0 where
  pub written : WrittenText
  pub valid : IsText written
  pub bytes : text ≡ print_text written
  pub means : text_means written ≡ p
