-- What the parts of a quiet command return, compared with what is to be left.
use Rattle.std.specs.Prelude.{◌≡◌, Result, Ok, Err}
use Rattle.names.specs.declared.verdict.Verdict.{Verdict}
use Rattle.trace_commands.specs.Quiet.{quiet_output}
use Rattle.trace_report.specs.declared.fault.Fault.{Fault}
use Rattle.trace_report.specs.Fault.{IsFaultOf, IsFaultOfOne}
use Rattle.trace_report.specs.Output.{Output}

-- the verdict that is said by one of the outputs that may be left, or a fault in its place
abbrev pub IsQuietlySaid : (Output → Type 0) → Result Verdict Fault → Type 0
IsQuietlySaid Wanted (Ok verdict) = Wanted (quiet_output verdict)
IsQuietlySaid Wanted (Err f) = IsFaultOfOne Wanted f

-- the verdict that is said by this output, or a fault in its place
abbrev pub IsSaidBy : Output → Result Verdict Fault → Type 0
IsSaidBy output (Ok verdict) = output ≡ quiet_output verdict
IsSaidBy output (Err f) = IsFaultOf output f
