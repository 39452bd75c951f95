-- What is found, as JSON values. The members of an object are in the order of their keys.
use Rattle.std.specs.Prelude.{ℕ, List, [], ◌∷◌, Option, Some, None, codes, map, option_map}
use Rattle.answer_json.specs.Values.{number_or_null, rule_object}
use Rattle.names.specs.Permissions.{letter}
use Rattle.names.specs.declared.kind.RuleKind.{RuleKind}
use Rattle.names.specs.declared.kind.RuleKind.TheVariants.{Allow, Deny}
use Rattle.names.specs.declared.permissions.Permission.{Permission}
use Rattle.rule_globs.specs.Rules.{RuleValue}
use Rattle.rule_profile.specs.declared.profile.Span.{Span}
use Rattle.serde_json.specs.Data.{Data, array, member, no_members, null, object, string}
use Rattle.serde_json.specs.View.{items_of}
use Rattle.trace_lint.specs.Findings.{FindingValue}
use Rattle.trace_lint.specs.Lines.{kind_of}
use Rattle.trace_lint.specs.declared.findings.Idle.{Idle}

-- what is found about a part, by the kind of its rule and its stand-ins
abbrev pub finding_word : RuleKind → List ℕ → List ℕ
finding_word Allow stand_ins = codes "decides nothing"
finding_word Deny [] = codes "denies nothing that is allowed"
finding_word Deny (n ∷ stand_ins) = codes "decides nothing"

-- the letter that something is found about, or null for all of a rule
abbrev pub letter_value : Option Permission → Data
letter_value None = null
letter_value (Some p) = string (letter p ∷ [])

-- the number of a stand-in, if there is one
abbrev pub number_of : Option Idle → Option ℕ
number_of idle = option_map (λ i. i.rule) idle

abbrev pub rules_array : List ℕ → List RuleValue → List Span → List ℕ → Data
rules_array text rules spans numbers = array (items_of (map (rule_object text rules spans) numbers))

-- {"also_idle":7,"finding":"decides nothing","permission":"w","rule":RULE,"stand_ins":[RULE]}
abbrev pub finding_object : List ℕ → List RuleValue → List Span → FindingValue → Data
finding_object text rules spans f = object
    (member (codes "also_idle") (number_or_null (number_of f.idle))
    (member (codes "finding") (string (finding_word (kind_of rules f.part.rule) f.stand_ins))
    (member (codes "permission") (letter_value f.part.letter)
    (member (codes "rule") (rule_object text rules spans f.part.rule)
    (member (codes "stand_ins") (rules_array text rules spans f.stand_ins) no_members)))))
