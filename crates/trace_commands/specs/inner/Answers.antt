-- What the parts of a command return, compared with what is to be written.
use Rattle.std.specs.Prelude.{◌≡◌, ◌⊎◌, ℕ, List, Option, Result, Ok, Err, Vec}
use Rattle.std.specs.declared.alloc.Global.{Global}
use Rattle.names.specs.declared.permissions.Perms.{Perms}
use Rattle.names.specs.declared.verdict.Verdict.{Verdict}
use Rattle.answer_json.specs.Lines.{verdict_line}
use Rattle.trace_report.specs.declared.format.Format.{Format}
use Rattle.trace_report.specs.declared.fault.Fault.{Fault}
use Rattle.trace_report.specs.declared.fault.Fault.TheVariants.{Permissions, Name, Image, Input, Memory}
use Rattle.tables.specs.Images.{IsFirstImageFault}
use Rattle.tables.specs.declared.fault.ImageFault.{ImageFault}
use Rattle.trace_report.specs.ReadStreams.{ask_of}
use Rattle.trace_report.specs.Streams.{IsTextOf}
use Rattle.trace_report.specs.Fault.{IsFaultOf, IsFaultOfOne, fault_text}
use Rattle.trace_report.specs.Output.{Output, whole_answer}

-- the verdict that is to be written, or a fault in its place
abbrev pub IsJudged : Format → Output → Result Verdict Fault → Type 0
IsJudged format output (Ok verdict) = output ≡ whole_answer (verdict_line format verdict)
IsJudged format output (Err f) = IsFaultOf output f

-- all that was left has this first fault
abbrev pub IsRefusedText : Option (List ℕ) → Fault → Type 0
IsRefusedText left f = (text : List ℕ) × IsTextOf left text × (fault : ImageFault) × (f ≡ Image fault) × IsFirstImageFault text fault

-- a failure of the stream or of memory, or the first fault of all that was left
abbrev pub IsUnread : Option (List ℕ) → Fault → Type 0
IsUnread left f = (f ≡ Input) ⊎ ((f ≡ Memory) ⊎ IsRefusedText left f)

-- all that was left where it's known, or why it wasn't read
abbrev pub IsImageRead : Option (List ℕ) → Result (Vec ℕ Global) Fault → Type 0
IsImageRead left (Ok image) = IsTextOf left image.items
IsImageRead left (Err f) = IsUnread left f

-- the bytes of an answer that may be written, or a fault in its place
abbrev pub IsAnswered : (Output → Type 0) → Result (Vec ℕ Global) Fault → Type 0
IsAnswered Wanted (Ok bytes) = Wanted (whole_answer bytes.items)
IsAnswered Wanted (Err f) = IsFaultOfOne Wanted f

-- the permissions asked for and the text that was read, or a fault in place of the output
abbrev pub IsTextAsked : List ℕ → List ℕ → List ℕ → Output → Result (Perms × Vec ℕ Global) Fault → Type 0
IsTextAsked perms name text output (Ok asked) = (ask_of perms name ≡ Ok asked.0) × (text ≡ asked.1.items)
IsTextAsked perms name text output (Err f) = IsFaultOf output f
