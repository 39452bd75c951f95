-- Where the rules of an imported profile come from, by the spans that they have in the flattened text, and how that is reported (our
-- own).
use Rattle.std.specs.Prelude.{ℕ, ◌-◌, suc, List, [], ◌∷◌, ◌++◌, codes, decimal, flat_map, map, slice_get, Option, Some, None}
use Rattle.std.specs.Prelude.{if◌then◌else◌}
use Rattle.std.specs.Option.{option_map_or}
use Rattle.apparmor_rules.specs.ShownTexts.{shown_byte}
use Rattle.names.specs.declared.permissions.Permission.{Permission}
use Rattle.names.specs.declared.permissions.Perms.{Perms}
use Rattle.names.specs.Permissions.{all_permissions, has, letter}
use Rattle.names.specs.VerdictText.{verdict_text}
use Rattle.rule_globs.specs.PlainVerdict.{verdict}
use Rattle.rule_profile.specs.declared.profile.Span.{Span}
use Rattle.rule_profile.specs.Profile.{RuleValue}
use Rattle.rule_explain.specs.declared.reason.Reason.{Reason}
use Rattle.rule_explain.specs.declared.reason.Reason.TheVariants.{Allowed, Denied, NoRule}
use Rattle.rule_explain.specs.Explanations.{rule_place, text_of_rule}
use Rattle.rule_explain.specs.Places.{place_at}
use Rattle.rule_explain.specs.Reasons.{reason}
use Rattle.import_origins.specs.Included.{file_before}
use Rattle.import_origins.specs.PlaceText.{place_text}

-- ---- explanations

-- how many bytes of the text come before the place of the rule with this number
abbrev pub start_of_rule : List Span → ℕ → ℕ
start_of_rule spans n = option_map_or (λ span. span.start) (slice_get spans (n - 1)) 0

-- the file that the text names last before it
abbrev pub file_of_rule : List ℕ → List Span → ℕ → Option (List ℕ)
file_of_rule text spans n = file_before text (start_of_rule spans n)

-- `, in or after <abstractions/base>`
abbrev pub file_told : Option (List ℕ) → List ℕ
file_told None = []
file_told (Some file) = codes ", in or after " ++ map shown_byte file

-- `rule 177, line 612, in or after <abstractions/nameservice>: "/etc/passwd" r,`
abbrev pub rule_told : List ℕ → List RuleValue → List Span → ℕ → List ℕ
rule_told text rules spans n =
    rule_place text spans n ++ (file_told (file_of_rule text spans n) ++ (codes ": " ++ text_of_rule rules n))

abbrev pub reason_told : List ℕ → List RuleValue → List Span → Reason → List ℕ
reason_told text rules spans (Allowed n) = codes "allowed by " ++ rule_told text rules spans n
reason_told text rules spans (Denied n) = codes "denied by " ++ rule_told text rules spans n
reason_told text rules spans NoRule = codes "no rule"

-- the permission's letter, and the reason: a line, if the permission is asked
abbrev pub reason_line : List ℕ → List RuleValue → List Span → List ℕ → Perms → Permission → List ℕ
reason_line text rules spans name ask p =
    if has ask p then letter p ∷ (codes ": " ++ (reason_told text rules spans (reason rules name p) ++ codes "\n")) else []

-- the verdict, and a line for each permission that is asked, in the order in which a set is printed
abbrev pub explained : List ℕ → List RuleValue → List Span → List ℕ → Perms → List ℕ
explained text rules spans name ask =
    verdict_text (verdict rules name ask)
    ++ (codes "\n" ++ flat_map (reason_line text rules spans name ask) all_permissions)

-- ---- maps

-- a space, and the file
abbrev pub file_mapped : Option (List ℕ) → List ℕ
file_mapped None = []
file_mapped (Some file) = codes " " ++ map shown_byte file

-- `177 612:3 <abstractions/nameservice>`, and the end of the line
abbrev pub map_line : List ℕ → ℕ → Span → List ℕ
map_line text n span =
    decimal n ++ (codes " " ++ (place_text (place_at text span.start) ++ (file_mapped (file_before text span.start) ++ codes "\n")))

-- the lines of rules that are numbered from n on
abbrev pub map_from : List ℕ → ℕ → List Span → List ℕ
map_from text n [] = []
map_from text n (span ∷ spans) = map_line text n span ++ map_from text (suc n) spans

-- a line for each rule, in their order
abbrev pub map_lines : List ℕ → List Span → List ℕ
map_lines text spans = map_from text 1 spans
