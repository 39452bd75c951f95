-- What the rules of a text say about a name: the verdict, and for each permission that is asked why it is allowed or not.
use Rattle.std.specs.Prelude.{ℕ, ◌-◌, List, [], ◌∷◌, ◌++◌, codes, decimal, filter, flat_map, slice_get}
use Rattle.std.specs.Option.{option_map_or}
use Rattle.names.specs.declared.permissions.Permission.{Permission}
use Rattle.names.specs.declared.permissions.Perms.{Perms}
use Rattle.names.specs.Permissions.{all_permissions, has, letter}
use Rattle.rule_globs.specs.PlainVerdict.{verdict}
use Rattle.rule_profile.specs.declared.profile.Span.{Span}
use Rattle.rule_profile.specs.Profile.{RuleValue}
use Rattle.rule_writer.specs.Canonical.{rule_text}
use Rattle.names.specs.VerdictText.{verdict_text}
use Rattle.rule_explain.specs.declared.reason.Reason.{Reason}
use Rattle.rule_explain.specs.declared.reason.Reason.TheVariants.{Allowed, Denied, NoRule}
use Rattle.rule_explain.specs.Places.{place_at}
use Rattle.rule_explain.specs.Reasons.{reason}

-- the line with the first byte of the rule with this number
abbrev pub line_of_rule : List ℕ → List Span → ℕ → ℕ
line_of_rule text spans n = (place_at text (option_map_or (λ span. span.start) (slice_get spans (n - 1)) 0)).line

-- that rule's text, in canonical form
abbrev pub text_of_rule : List RuleValue → ℕ → List ℕ
text_of_rule rules n = option_map_or rule_text (slice_get rules (n - 1)) []

-- `rule 3, line 7`
abbrev pub rule_place : List ℕ → List Span → ℕ → List ℕ
rule_place text spans n = codes "rule " ++ (decimal n ++ (codes ", line " ++ decimal (line_of_rule text spans n)))

-- `rule 3, line 7: "/home/*/**" rw,`
abbrev pub rule_told : List ℕ → List RuleValue → List Span → ℕ → List ℕ
rule_told text rules spans n =
    codes "rule " ++ (decimal n ++ (codes ", line " ++ (decimal (line_of_rule text spans n) ++ (codes ": " ++ text_of_rule rules n))))

abbrev pub reason_text : List ℕ → List RuleValue → List Span → Reason → List ℕ
reason_text text rules spans (Allowed n) = codes "allowed by " ++ rule_told text rules spans n
reason_text text rules spans (Denied n) = codes "denied by " ++ rule_told text rules spans n
reason_text text rules spans NoRule = codes "no rule"

-- the permission's letter, and the reason: a line
abbrev pub reason_line : List ℕ → List RuleValue → List Span → List ℕ → Permission → List ℕ
reason_line text rules spans name p =
    letter p ∷ (codes ": " ++ (reason_text text rules spans (reason rules name p) ++ codes "\n"))

-- a line for each permission that is asked, in the order in which a set is printed
abbrev pub reason_lines : List ℕ → List RuleValue → List Span → List ℕ → Perms → List ℕ
reason_lines text rules spans name ask = flat_map (reason_line text rules spans name) (filter (has ask) all_permissions)

-- the line of the verdict, and those lines
unfoldable pub explanation : List ℕ → List RuleValue → List Span → List ℕ → Perms → List ℕ
explanation text rules spans name ask =
    verdict_text (verdict rules name ask)
    ++ (codes "\n" ++ reason_lines text rules spans name ask)
