-- What the process ends with.
use Rattle.std.specs.Prelude.{ℕ}
use Rattle.trace_report.specs.declared.status.Status.{Status}
use Rattle.trace_report.specs.declared.status.Status.TheVariants.{Done, Unmet, BadArguments, Refused, InputFailed, OutputFailed}
use Rattle.trace_report.specs.declared.status.Status.TheVariants.{FaultsFailed, NoMemory}

abbrev pub status_code : Status → ℕ
status_code Done = 0
status_code Unmet = 1
status_code BadArguments = 2
status_code Refused = 3
status_code InputFailed = 3
status_code OutputFailed = 3
status_code FaultsFailed = 3
status_code NoMemory = 4
