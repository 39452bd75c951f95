use Rattle.std.proofs.Common.{List, take}
use Rattle.std.specs.Prelude.{map}
use Rattle.event_machine.specs.Machine.{Event}
use Rattle.event_machine.specs.Coded.{event_of}
use Rattle.interleaving_core.specs.Parts.{machine_of}
use Rattle.interleaving_core.specs.Runs.{Passes}
use Rattle.interleaving_core.proofs.runs.run.Given as goal

-- the events before this one passed
abbrev pub invariant-loop-event : goal.invariant-loop-event
invariant-loop-event l = (taken : List Event) × Passes (machine_of l.fn.core) (map event_of (take l.event-index l.events)) taken
    l.answers.items (machine_of l.core)
