-- What is found, as it is kept: parts, and a list of stand-ins for each of them.
use Rattle.std.specs.Prelude.{ℕ, ◌≤◌, List, [], ◌∷◌, ◌++◌, Vec, codes}
use Rattle.std.specs.declared.alloc.Global.{Global}
use Rattle.std.specs.List.{All}
use Rattle.names.specs.declared.permissions.Perms.{Perms}
use Rattle.rule_explain.specs.Explanations.{rule_place}
use Rattle.rule_globs.specs.Rules.{RuleValue}
use Rattle.rule_profile.specs.declared.profile.Span.{Span}
use Rattle.trace_lint.specs.Findings.{FindingValue, first_idle}
use Rattle.trace_lint.specs.Parts.{case_of}
use Rattle.trace_lint.specs.declared.findings.Finding.{Finding}
use Rattle.trace_lint.specs.declared.findings.Part.{Part}

abbrev pub finding_value : Finding → FindingValue
finding_value f = record { part = f.part; stand_ins = f.stand_ins.now; idle = f.idle }

abbrev pub found_of : List Perms → Part → Perms → List ℕ → FindingValue
found_of decided part perms list = record { part = part; stand_ins = list; idle = first_idle decided perms list }

abbrev pub all_found : List RuleValue → List Perms → List Part → List (List ℕ) → List FindingValue
all_found rules decided [] lists = []
all_found rules decided (part ∷ parts) [] = []
all_found rules decided (part ∷ parts) (list ∷ lists) =
    found_of decided part (case_of rules part).perms list ∷ all_found rules decided parts lists

-- ` or rule 7, line 8`
abbrev pub or_place : List ℕ → List Span → ℕ → List ℕ
or_place text spans n = codes " or " ++ rule_place text spans n

-- the number is that of one of N rules
abbrev pub IsNumber : ℕ → ℕ → Type 0
IsNumber count n = (1 ≤ n) × (n ≤ count)

abbrev pub AreNumbers : ℕ → List ℕ → Type 0
AreNumbers count numbers = All (IsNumber count) numbers

-- so are those of all parts, and of all stand-ins
abbrev pub HaveNumbers : ℕ → List Part → Type 0
HaveNumbers count parts = All (λ part. IsNumber count part.rule) parts

abbrev pub ListsHaveNumbers : ℕ → List (Vec ℕ Global) → Type 0
ListsHaveNumbers count lists = All (λ list. AreNumbers count list.items) lists
