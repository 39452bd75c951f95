use Rattle.trace_test.proofs.Matches.{front_answer, no_other, own_answer}
use Rattle.trace_test.proofs.laws.endings.expectations_hold_by_their_answer.Goals as goal

pub returns-clause-own : goal.returns-clause-own
returns-clause-own c text = own_answer text

pub returns-clause-another : goal.returns-clause-another
returns-clause-another c expected got plain closed differs e = differs (no_other expected got plain closed e)

pub returns-clause-front : goal.returns-clause-front
returns-clause-front c text = front_answer text
