-- A denial and what is reported about it, as a line of text.
use Rattle.std.specs.Prelude.{ℕ, ◌+◌, Bool, true, false, List, [], ◌∷◌, ◌++◌, codes, decimal, length, map, Option, Some, None}
use Rattle.names.specs.declared.permissions.Perms.{Perms}
use Rattle.names.specs.Permissions.{letters}
use Rattle.apparmor_rules.specs.ShownTexts.{shown_byte}
use Rattle.audit_log.specs.Denials.{DenialValue}
use Rattle.trace_audit.specs.Answers.{Answer, no_profile, not_imported, not_judged, allowed_by, denied_by, no_rule, has_x}
use Rattle.trace_audit.specs.Groups.{Group}
use Rattle.trace_audit.specs.Lookups.{RefusalValue}

-- a name with its control bytes as `?`
abbrev pub shown : List ℕ → List ℕ
shown name = map shown_byte name

-- numbers with a comma and a space between each two
abbrev pub numbers_text : List ℕ → List ℕ
numbers_text [] = []
numbers_text (n ∷ []) = decimal n
numbers_text (n ∷ m ∷ numbers) = decimal n ++ (codes ", " ++ numbers_text (m ∷ numbers))

-- how often a denial came, if more than once
abbrev pub times_text : List ℕ → List ℕ
times_text [] = []
times_text (line ∷ again) = codes " (" ++ (decimal (length again + 2) ++ codes " times)")

-- LINE PROFILE NAME MASK, or LINE PROFILE NAME MASK (N times)
abbrev pub front_text : Group → List ℕ
front_text g = decimal g.line ++ (codes " " ++ (shown g.denial.profile ++ (codes " " ++ (shown g.denial.name
    ++ (codes " " ++ (g.denial.mask ++ times_text g.again))))))

-- that x isn't judged, after what is said of the rest
abbrev pub x_text : Bool → List ℕ
x_text true = codes "; x is not judged"
x_text false = []

abbrev pub added_text : Option (List ℕ) → List ℕ
added_text (Some rule) = codes "; add: " ++ rule
added_text None = codes "; no rule is proposed for this name"

abbrev pub refusal_text : RefusalValue → List ℕ
refusal_text refusal = codes "not imported: import " ++ (decimal refusal.number ++ (codes " in " ++ shown refusal.file))

-- rules that allow it now weren't there then, unless the kernel had another reason
abbrev pub changed_text : Option (List ℕ) → List ℕ
changed_text None = codes ": the profile has changed"
changed_text (Some info) = []

abbrev pub allowed_text : DenialValue → List ℕ → List ℕ
allowed_text d rules = codes "allowed by rule " ++ (numbers_text rules ++ (changed_text d.info ++ x_text (has_x d.mask)))

abbrev pub denied_text : Bool → ℕ → List ℕ → List ℕ
denied_text x n text = codes "denied by rule " ++ (decimal n ++ (codes ": " ++ (text ++ x_text x)))

abbrev pub missing_text : Bool → Perms → Option (List ℕ) → List ℕ
missing_text x perms add = codes "no rule for " ++ (letters perms ++ (x_text x ++ added_text add))

-- what is reported about a denial
abbrev pub answer_text : DenialValue → Answer → List ℕ
answer_text d no_profile = codes "no such profile"
answer_text d (not_imported refusal) = refusal_text refusal
answer_text d not_judged = codes "x is not judged"
answer_text d (allowed_by rules) = allowed_text d rules
answer_text d (denied_by n text) = denied_text (has_x d.mask) n text
answer_text d (no_rule perms add) = missing_text (has_x d.mask) perms add

-- why the kernel refused it, if not by the rules alone
abbrev pub info_text : Option (List ℕ) → List ℕ
info_text None = []
info_text (Some info) = codes "; the kernel's reason: " ++ shown info

-- `101 traceroute /etc/shadow r: no rule for r; add: "/etc/shadow" r,`
abbrev pub line_text : Group → Answer → List ℕ
line_text g answer = front_text g ++ (codes ": " ++ (answer_text g.denial answer ++ (info_text g.denial.info ++ codes "\n")))
