-- The answer to an open while nothing changes, as one where tree and policy may change.
use Rattle.mediation.specs.declared.answer.Answer as code
use Rattle.mediation.specs.declared.answer.Answer.TheVariants as still
use Rattle.justification.specs.declared.answer.Answer.{Answer}
use Rattle.justification.specs.declared.answer.Answer.TheVariants.{Judged, Failed, NoProfile}

abbrev pub of_still : code.Answer → Answer
of_still (still.Judged verdict node tree policy) = Judged verdict node tree policy
of_still (still.Failed errno tree) = Failed errno tree
of_still (still.NoProfile policy) = NoProfile policy
