-- Events, as code represents them.
use Rattle.std.specs.Prelude.{map}
use Rattle.mediation.specs.PolicyChanges.{deed_of}
use Rattle.event_machine.specs.declared.event.Event as code
use Rattle.event_machine.specs.declared.event.Event.TheVariants as coded
use Rattle.event_machine.specs.Machine.{Event}
use Rattle.event_machine.specs.Machine.Event.{begin, read_policy, read_count, read_cell, check_count, answer, open_change, set_cell}
use Rattle.event_machine.specs.Machine.Event.{close_change, publish}

abbrev pub event_of : code.Event → Event
event_of (coded.Begin session profile path ask) = begin session (record { profile = profile.now; path = path.now; ask = ask })
event_of (coded.PolicyRead session) = read_policy session
event_of (coded.CountRead session) = read_count session
event_of (coded.CellRead session) = read_cell session
event_of (coded.CountCheck session) = check_count session
event_of (coded.Answer session) = answer session
event_of (coded.Open change) = open_change change.now
event_of coded.CellSet = set_cell
event_of coded.Close = close_change
event_of (coded.Publish changes) = publish (map deed_of changes.now)
