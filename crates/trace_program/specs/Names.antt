-- How `names` ends, by the words of a command line.
use Rattle.std.specs.Prelude.{ℕ, List, Option}
use Rattle.trace_arguments.specs.Values.{NamesValue}
use Rattle.trace_names.specs.Choices.{choice_of}
use Rattle.trace_names.specs.Names.{IsNamesOutput}
use Rattle.trace_report.specs.Streams.{EndsInOne, IsTextOf, Streams}
use Rattle.trace_report.specs.declared.status.Status.{Status}

-- as the selection of the names of a list ends, by a profile with these bytes, where they are known
abbrev pub NamesEnd : NamesValue → Option (List ℕ) → List ℕ → Streams → Status → Type 0
NamesEnd asked profile list streams status = (text : List ℕ) × IsTextOf profile text
    × EndsInOne streams (IsNamesOutput (choice_of asked.not_allowed asked.verdicts asked.null) asked.perms text list) status
