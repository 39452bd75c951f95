-- What follows from what the words of a walk decide.
use Rattle.std.specs.Prelude.{ℕ, Result, Ok, Err}
use Rattle.event_machine.specs.declared.event.StepFault.{StepFault}
use Rattle.event_machine.specs.declared.event.StepFault.TheVariants.{NoMemory}
use Rattle.open_session.specs.declared.outcome.Outcome.{Outcome}
use Rattle.open_session.specs.declared.outcome.Outcome.TheVariants as outcome
use Rattle.open_session.specs.declared.outcome.Lack.{Lack}
use Rattle.open_session.specs.declared.outcome.Lack.TheVariants as lack
use Rattle.open_session.specs.declared.walk.Next.{Next}
use Rattle.open_session.specs.declared.walk.Next.TheVariants as next

-- a missing word is read next
abbrev pub next_after : Result Outcome Lack → Next
next_after (Ok (outcome.Reached file)) = next.Reached file
next_after (Ok (outcome.Refused errno)) = next.Refused errno
next_after (Ok outcome.Torn) = next.Torn
next_after (Err (lack.Wants place)) = next.Read place
next_after (Err (lack.NoMemory place)) = next.Read place

-- `count` words were read, unless memory was refused for one
abbrev pub counted_by : ℕ → Result Outcome Lack → Result ℕ StepFault
counted_by count (Ok decided) = Ok count
counted_by count (Err (lack.Wants place)) = Ok count
counted_by count (Err (lack.NoMemory place)) = Err NoMemory
