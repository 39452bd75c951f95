-- The code's faults as those of the definitions.
use Rattle.apparmor_words.specs.declared.stop.Stop as told
use Rattle.apparmor_words.specs.declared.stop.StopKind as told_kind
use Rattle.apparmor_words.specs.declared.stop.StopKind.TheVariants.{Syntax, Include, LeftOut, Permissions}
use Rattle.apparmor_words.specs.Steps.{Stop, StopKind, syntax, include, left_out, permissions}

abbrev pub stop_kind_value : told_kind.StopKind → StopKind
stop_kind_value Syntax = syntax
stop_kind_value Include = include
stop_kind_value (LeftOut word) = left_out word.now
stop_kind_value Permissions = permissions

abbrev pub stop_value : told.Stop → Stop
stop_value stop = record { kind = stop_kind_value stop.kind; left = stop.left }
