-- The object of the parts of a group and of an answer.
use Rattle.std.proofs.Common.{◌≡◌, refl}
use Rattle.trace_audit.specs.Answers.{Answer}
use Rattle.trace_audit.specs.Groups.{Group}
use Rattle.trace_audit.specs.Values.{denial_object}
use Rattle.trace_audit.specs.declared.values.OfAnswer.{OfAnswer}
use Rattle.trace_audit.specs.declared.values.OfGroup.{OfGroup}
use Rattle.trace_audit.specs.inner.Objects.{IsOfAnswer, IsOfGroup, object_of}

pub same_object : (g : Group) (answer : Answer) (of_group : OfGroup) (of_answer : OfAnswer) → IsOfGroup g of_group
    → IsOfAnswer answer of_answer → object_of of_group of_answer ≡ denial_object g answer
same_object g answer of_group of_answer hg ha =
    rw (ha.add, ha.file, hg.info, hg.line, hg.mask, ha.missing, hg.name, hg.profile, ha.rules, hg.subject, hg.times, ha.verdict) refl
