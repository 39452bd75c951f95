-- How a fault is reported, and what it says of what is to be written.
use Rattle.names.specs.Errors.{no_memory_text}
use Rattle.std.specs.Prelude.{◌≡◌, ◌≢◌, ℕ, List, codes}
use Rattle.std.specs.IoError.{error_kind}
use Rattle.std.specs.declared.io.Error.{Error}
use Rattle.std.specs.declared.io.ErrorKind.TheVariants.{OutOfMemory}
use Rattle.matcher.specs.declared.fault.MakeFault.{MakeFault}
use Rattle.matcher.specs.declared.fault.MakeFault.TheVariants as making
use Rattle.rule_reader.specs.declared.fault.ReadFault.{ReadFault}
use Rattle.rule_reader.specs.declared.fault.ReadFault.TheVariants as reading
use Rattle.tables.specs.declared.fault.ImageFault.{ImageFault}
use Rattle.tables.specs.declared.fault.ImageFault.TheVariants as image
use Rattle.trace_report.specs.declared.status.Status.{Status}
use Rattle.trace_report.specs.declared.status.Status.TheVariants.{BadArguments, Refused, InputFailed, NoMemory}
use Rattle.trace_report.specs.declared.fault.Fault.{Fault}
use Rattle.trace_report.specs.declared.fault.Fault.TheVariants.{Permissions, Name, Pattern, Text, Compiling, Image, Question}
use Rattle.trace_report.specs.declared.fault.Fault.TheVariants.{Input, Memory}
use Rattle.trace_report.specs.Output.{Output, fault, refusal, compile_refusal, image_refusal, question_refusal}

abbrev pub fault_text : Fault → List ℕ
fault_text Permissions = codes "bad permissions"
fault_text Name = codes "bad name"
fault_text Pattern = codes "bad pattern"
fault_text (Text f) = refusal f
fault_text (Compiling f) = compile_refusal f
fault_text (Image f) = image_refusal f
fault_text Question = question_refusal
fault_text Input = codes "refused: input"
fault_text Memory = no_memory_text

abbrev pub fault_status : Fault → Status
fault_status Permissions = BadArguments
fault_status Name = BadArguments
fault_status Pattern = BadArguments
fault_status (Text f) = Refused
fault_status (Compiling f) = Refused
fault_status (Image f) = Refused
fault_status Question = Refused
fault_status Input = InputFailed
fault_status Memory = NoMemory

-- the fault is what is to be written, or hides it, the arguments being good
abbrev pub IsFaultOf : Output → Fault → Type 0
IsFaultOf output Input = output.status ≢ BadArguments
IsFaultOf output Memory = output.status ≢ BadArguments
IsFaultOf output f = output ≡ fault (fault_text f) (fault_status f)

-- none of the outputs that may be written reports bad arguments
abbrev pub AreGood : (Output → Type 0) → Type 0
AreGood Wanted = (output : Output) → Wanted output → output.status ≢ BadArguments

-- the fault is one of the outputs that may be written, or hides them, the arguments being good
abbrev pub IsFaultOfOne : (Output → Type 0) → Fault → Type 0
IsFaultOfOne Wanted Input = AreGood Wanted
IsFaultOfOne Wanted Memory = AreGood Wanted
IsFaultOfOne Wanted f = Wanted (fault (fault_text f) (fault_status f))

-- the same for a question, of which memory may hide everything
abbrev pub IsFaultOfAnswer : (Output → Type 0) → Fault → Type 0
IsFaultOfAnswer Wanted Memory = Unit {0}
IsFaultOfAnswer Wanted f = IsFaultOfOne Wanted f

-- what an error of a reader is reported as
abbrev pub IsFaultOfReading : Error → Fault → Type 0
IsFaultOfReading error Input = error_kind error ≢ OutOfMemory
IsFaultOfReading error Memory = error_kind error ≡ OutOfMemory
IsFaultOfReading error _ = ⊥

-- what faults of texts, of making profiles and of images are reported as: running out of memory is reported as such
abbrev pub fault_of_text : ReadFault → Fault
fault_of_text reading.NoMemory = Memory
fault_of_text f = Text f

abbrev pub fault_of_making : MakeFault → Fault
fault_of_making making.NoMemory = Memory
fault_of_making f = Compiling f

abbrev pub fault_of_image : ImageFault → Fault
fault_of_image image.NoMemory = Memory
fault_of_image f = Image f
