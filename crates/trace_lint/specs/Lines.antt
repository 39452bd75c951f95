-- What is found, as lines of text.
use Rattle.std.specs.Prelude.{ℕ, ◌-◌, Bool, true, false, List, [], ◌∷◌, ◌++◌, Option, Some, None, codes, decimal, slice_get}
use Rattle.std.specs.List.{join_by}
use Rattle.std.specs.Option.{option_map_or}
use Rattle.names.specs.Permissions.{letter}
use Rattle.names.specs.declared.kind.RuleKind.{RuleKind}
use Rattle.names.specs.declared.kind.RuleKind.TheVariants.{Allow, Deny}
use Rattle.names.specs.declared.permissions.Permission.{Permission}
use Rattle.rule_explain.specs.Explanations.{rule_place, text_of_rule}
use Rattle.rule_globs.specs.Rules.{RuleValue}
use Rattle.rule_profile.specs.declared.profile.Span.{Span}
use Rattle.trace_lint.specs.Findings.{FindingValue}
use Rattle.trace_lint.specs.declared.findings.Idle.{Idle}

-- the kind of the rule with this number
abbrev pub kind_of : List RuleValue → ℕ → RuleKind
kind_of rules n = option_map_or (λ rule. rule.kind) (slice_get rules (n - 1)) Allow

-- the letter that something is said of, or nothing where it is said of all of a rule
abbrev pub letter_text : Option Permission → List ℕ
letter_text None = []
letter_text (Some p) = letter p ∷ codes " "

-- what is said of a part, by the kind of its rule and its stand-ins
abbrev pub said : RuleKind → List ℕ → List ℕ
said Allow stand_ins = codes "decides nothing: "
said Deny [] = codes "denies nothing that is allowed: "
said Deny (n ∷ stand_ins) = codes "decides nothing: "

-- `rule 4, line 5 or rule 7, line 8`
abbrev pub places : List ℕ → List Span → List ℕ → List ℕ
places text spans numbers = join_by (rule_place text spans) (codes " or ") numbers

-- what the stand-ins for a rule of this kind do
abbrev pub work : RuleKind → List ℕ
work Allow = codes " allows each of its names, or a deny rule denies it"
work Deny = codes " denies each of its names that is allowed"

-- what a stand-in doesn't decide either: anything, or what the part is about
abbrev pub caveat : Bool → List ℕ
caveat true = codes " decides nothing either: leave out one of them, not both"
caveat false = codes " decides nothing of this either: leave it out of one of them, not both"

-- that a stand-in decides nothing of a part either
abbrev pub idle_text : Option Idle → List ℕ
idle_text None = []
idle_text (Some idle) = codes "; rule " ++ decimal idle.rule ++ caveat idle.wholly

-- why, where there are no stand-ins: for a deny rule it was said
abbrev pub unaided : RuleKind → List ℕ
unaided Allow = codes " (a deny rule denies each of its names)"
unaided Deny = []

-- why, in parentheses
abbrev pub why : List ℕ → List Span → RuleKind → List ℕ → Option Idle → List ℕ
why text spans kind [] idle = unaided kind
why text spans kind (n ∷ stand_ins) idle = codes " (" ++ places text spans (n ∷ stand_ins) ++ work kind ++ idle_text idle ++ codes ")"

-- `rule 5, line 6: w decides nothing: "/x" rw, (rule 4, line 5 allows each of its names, or a deny rule denies it)`, a line
abbrev pub finding_line : List ℕ → List RuleValue → List Span → FindingValue → List ℕ
finding_line text rules spans f =
    let n = f.part.rule in
    rule_place text spans n ++ codes ": " ++ letter_text f.part.letter ++ said (kind_of rules n) f.stand_ins ++ text_of_rule rules n
    ++ why text spans (kind_of rules n) f.stand_ins f.idle ++ codes "\n"
