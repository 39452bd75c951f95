-- The parts of a line that `match` writes in JSON.
use Rattle.std.specs.Prelude.{ℕ, List, ◌++◌, Option, Some, None, codes, decimal}
use Rattle.answer_json.specs.Values.{denying_rule, missing_letters, number_or_null, number_value, verdict_word}
use Rattle.names.specs.declared.verdict.Verdict.{Verdict}
use Rattle.serde_json.specs.Data.{Data, string, object, member, no_members}

-- the brace, the first member and a comma
abbrev pub front_of_match : Option ℕ → List ℕ
front_of_match (Some look_ups) = codes "{\"lookups\":" ++ (decimal look_ups ++ codes ",")
front_of_match None = codes "{\"lookups\":null,"

-- the object with the other members
abbrev pub rest_of_match : Verdict → ℕ → Data
rest_of_match v steps = object
    (member (codes "missing") (missing_letters v)
    (member (codes "rule") (number_or_null (denying_rule v))
    (member (codes "steps") (number_value steps)
    (member (codes "verdict") (string (verdict_word v)) no_members))))
