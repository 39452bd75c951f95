-- Answers to questions as JSON values. The members of an object are in the order of their keys.
use Rattle.std.specs.Prelude.{ℕ, List, [], ◌∷◌, codes}
use Rattle.answer_json.specs.Values.{name_value, reason_object, reasons_array}
use Rattle.names.specs.Permissions.{letter}
use Rattle.names.specs.declared.permissions.Permission.{Permission}
use Rattle.names.specs.declared.permissions.Perms.{Perms}
use Rattle.question_answers.specs.declared.quantifier.Quantifier.{Quantifier}
use Rattle.question_answers.specs.declared.quantifier.Quantifier.TheVariants.{Any, All}
use Rattle.question_answers.specs.declared.side.Side.{Side}
use Rattle.question_answers.specs.declared.side.Side.TheVariants.{New, Old}
use Rattle.rule_globs.specs.Rules.{RuleValue}
use Rattle.rule_profile.specs.declared.profile.Span.{Span}
use Rattle.rule_reader.specs.Spans.{spans_of}
use Rattle.serde_json.specs.Data.{Data, array, member, no_items, no_members, null, object, string}

-- {"answer":"any","name":NAME,"reasons":[REASON,..]}
abbrev pub answer_object : List ℕ → Data → Data → Data
answer_object word name reasons = object
    (member (codes "answer") (string word) (member (codes "name") name (member (codes "reasons") reasons no_members)))

-- what is said of a name that is found
abbrev pub found_word : Quantifier → List ℕ
found_word (Any witnesses) = codes "any"
found_word All = codes "not"

-- where none is
abbrev pub nothing_word : Quantifier → List ℕ
nothing_word (Any witnesses) = codes "none"
nothing_word All = codes "all"

abbrev pub found_object : Quantifier → List ℕ → List RuleValue → List Span → Perms → List ℕ → Data
found_object quantifier text rules spans ask name =
    answer_object (found_word quantifier) (name_value name) (reasons_array text rules spans name ask)

-- an answer without a name
abbrev pub nothing_object : List ℕ → Data
nothing_object word = answer_object word null (array no_items)

-- which profile allows it
abbrev pub side_word : Side → List ℕ
side_word New = codes "new"
side_word Old = codes "old"

-- {"allowed_by":"new","name":NAME,"new":REASON,"old":REASON,"permission":"w"}
abbrev pub named_difference : Side → Permission → List ℕ → Data → Data → Data
named_difference side p name new old = object
    (member (codes "allowed_by") (string (side_word side))
    (member (codes "name") (name_value name)
    (member (codes "new") new
    (member (codes "old") old
    (member (codes "permission") (string (letter p ∷ [])) no_members)))))

-- what the rules of a text say of a permission of a name
abbrev pub reason_by : List ℕ → List RuleValue → Permission → List ℕ → Data
reason_by text rules p name = reason_object text rules (spans_of text) name p

-- {"answer":"same"}
abbrev pub word_object : List ℕ → Data
word_object word = object (member (codes "answer") (string word) no_members)
