-- A denial and what is reported about it, as a JSON value. The members of an object are in the order of their keys.
use Rattle.std.specs.Prelude.{ℕ, ◌+◌, Bool, true, false, List, [], ◌∷◌, ◌++◌, codes, decimal, length, map, Option, Some, None}
use Rattle.names.specs.Permissions.{letters}
use Rattle.serde_json.specs.Data.{Data, null, string, array, object, member, no_members}
use Rattle.serde_json.specs.View.{items_of}
use Rattle.answer_json.specs.Values.{name_value, number_value}
use Rattle.audit_log.specs.Denials.{DenialValue}
use Rattle.trace_audit.specs.Answers.{Answer, no_profile, not_imported, not_judged, allowed_by, denied_by, no_rule}
use Rattle.trace_audit.specs.Groups.{Group}

abbrev pub answer_word : Answer → List ℕ
answer_word no_profile = codes "no such profile"
answer_word (not_imported refusal) = codes "not imported"
answer_word not_judged = codes "not judged"
answer_word (allowed_by rules) = codes "allowed"
answer_word (denied_by n text) = codes "denied"
answer_word (no_rule perms add) = codes "no rule"

-- the rule that would allow what is missing, if one is proposed
abbrev pub added_value : Answer → Data
added_value (no_rule perms (Some rule)) = name_value rule
added_value (no_rule perms None) = null
added_value no_profile = null
added_value (not_imported refusal) = null
added_value not_judged = null
added_value (allowed_by rules) = null
added_value (denied_by n text) = null

-- the letters for which there is no rule
abbrev pub missing_value : Answer → Data
missing_value (no_rule perms add) = string (letters perms)
missing_value no_profile = null
missing_value (not_imported refusal) = null
missing_value not_judged = null
missing_value (allowed_by rules) = null
missing_value (denied_by n text) = null

-- the file that can't be imported
abbrev pub file_value : Answer → Data
file_value (not_imported refusal) = name_value refusal.file
file_value no_profile = null
file_value not_judged = null
file_value (allowed_by rules) = null
file_value (denied_by n text) = null
file_value (no_rule perms add) = null

-- the numbers of the rules that decide
abbrev pub deciding : Answer → List ℕ
deciding (allowed_by rules) = rules
deciding (denied_by n text) = n ∷ []
deciding no_profile = []
deciding (not_imported refusal) = []
deciding not_judged = []
deciding (no_rule perms add) = []

-- why the kernel refused it, if not by the rules alone
abbrev pub info_value : Option (List ℕ) → Data
info_value None = null
info_value (Some info) = name_value info

abbrev pub subject_word : Bool → List ℕ
subject_word true = codes "owner"
subject_word false = codes "others"

-- {"add":"\"/etc/shadow\" r,","file":null,"info":null,"line":101,"mask":"r","missing":"r","name":"/etc/shadow",
-- "profile":"traceroute","rules":[],"subject":"others","times":1,"verdict":"no rule"}
abbrev pub denial_object : Group → Answer → Data
denial_object g answer = object
    (member (codes "add") (added_value answer)
    (member (codes "file") (file_value answer)
    (member (codes "info") (info_value g.denial.info)
    (member (codes "line") (number_value g.line)
    (member (codes "mask") (name_value g.denial.mask)
    (member (codes "missing") (missing_value answer)
    (member (codes "name") (name_value g.denial.name)
    (member (codes "profile") (name_value g.denial.profile)
    (member (codes "rules") (array (items_of (map number_value (deciding answer))))
    (member (codes "subject") (string (subject_word g.denial.by_owner))
    (member (codes "times") (number_value (length g.again + 1))
    (member (codes "verdict") (string (answer_word answer)) no_members))))))))))))
