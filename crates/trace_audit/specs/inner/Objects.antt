-- The parts of an object, as JSON values.
use Rattle.std.specs.Prelude.{◌≡◌, ℕ, ◌+◌, codes, length, map}
use Rattle.answer_json.specs.Values.{name_value, number_value}
use Rattle.serde_json.specs.Data.{Data, array, member, no_members, object, string}
use Rattle.serde_json.specs.View.{items_of, view}
use Rattle.trace_audit.specs.Answers.{Answer}
use Rattle.trace_audit.specs.Groups.{Group}
use Rattle.trace_audit.specs.Values.{added_value, answer_word, deciding, file_value, info_value, missing_value}
use Rattle.trace_audit.specs.Values.{subject_word}
use Rattle.trace_audit.specs.declared.values.OfAnswer.{OfAnswer}
use Rattle.trace_audit.specs.declared.values.OfGroup.{OfGroup}

pub record IsOfAnswer (answer : Answer) (parts : OfAnswer) : Type 0 where
  pub add : view parts.add ≡ added_value answer
  pub file : view parts.file ≡ file_value answer
  pub missing : view parts.missing ≡ missing_value answer
  pub rules : view parts.rules ≡ array (items_of (map number_value (deciding answer)))
  pub verdict : parts.verdict.now ≡ answer_word answer

pub record IsOfGroup (group : Group) (parts : OfGroup) : Type 0 where
  pub info : view parts.info ≡ info_value group.denial.info
  pub line : parts.line ≡ group.line
  pub mask : view parts.mask ≡ name_value group.denial.mask
  pub name : view parts.name ≡ name_value group.denial.name
  pub profile : view parts.profile ≡ name_value group.denial.profile
  pub subject : parts.subject.now ≡ subject_word group.denial.by_owner
  pub times : parts.times ≡ length group.again + 1

-- the object of these parts
abbrev pub object_of : OfGroup → OfAnswer → Data
object_of group answer = object
    (member (codes "add") (view answer.add)
    (member (codes "file") (view answer.file)
    (member (codes "info") (view group.info)
    (member (codes "line") (number_value group.line)
    (member (codes "mask") (view group.mask)
    (member (codes "missing") (view answer.missing)
    (member (codes "name") (view group.name)
    (member (codes "profile") (view group.profile)
    (member (codes "rules") (view answer.rules)
    (member (codes "subject") (string group.subject.now)
    (member (codes "times") (number_value group.times)
    (member (codes "verdict") (string answer.verdict.now) no_members))))))))))))
