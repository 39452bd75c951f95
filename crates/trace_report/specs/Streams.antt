-- How a command leaves its streams.
use Rattle.names.specs.Errors.{no_memory_text}
use Rattle.std.specs.Prelude.{◌≡◌, ◌≢◌, ◌⊎◌, ℕ, List, ◌++◌, Option, codes, IfSome}
use Rattle.std.specs.Io.KnownBytes.{Keeps, Appends}
use Rattle.trace_report.specs.Output.{Output, line}
use Rattle.trace_report.specs.declared.status.Status.{Status}
use Rattle.trace_report.specs.declared.status.Status.TheVariants.{Done, Unmet, BadArguments, Refused, InputFailed, OutputFailed}
use Rattle.trace_report.specs.declared.status.Status.TheVariants.{FaultsFailed, NoMemory}

-- the bytes of both output streams, before and after, where they are known
pub record Streams : Type 0 where
  pub answers_before : Option (List ℕ)
  pub answers_after : Option (List ℕ)
  pub faults_before : Option (List ℕ)
  pub faults_after : Option (List ℕ)

-- what standard output has before and after, and then what standard error has
abbrev pub streams : Option (List ℕ) → Option (List ℕ) → Option (List ℕ) → Option (List ℕ) → Streams
streams answers after faults told = record { answers_before = answers; answers_after = after; faults_before = faults; faults_after = told }

-- a prefix of the bytes was appended
abbrev pub AppendsFront : Option (List ℕ) → Option (List ℕ) → List ℕ → Type 0
AppendsFront before after bytes =
    (front : List ℕ) × (back : List ℕ) × (bytes ≡ front ++ back) × Appends before after front

-- what is to be written was written, and the status is the one that goes with it
pub record IsWritten (streams : Streams) (output : Output) (status : Status) : Type 0 where
  pub answers : Appends streams.answers_before streams.answers_after output.answers
  pub faults : Appends streams.faults_before streams.faults_after output.faults
  pub ends : output.status ≡ status

-- good arguments, and then a fault that the input says nothing about
pub record IsCutShort (streams : Streams) (output : Output) (told : List ℕ) : Type 0 where
  pub answers : Keeps streams.answers_before streams.answers_after
  pub faults : Appends streams.faults_before streams.faults_after (line told)
  pub arguments : output.status ≢ BadArguments

-- an answer that couldn't be written whole: a prefix of it was written
pub record IsUnanswered (streams : Streams) (output : Output) : Type 0 where
  pub faults : Appends streams.faults_before streams.faults_after (line (codes "refused: output"))
  pub answers : AppendsFront streams.answers_before streams.answers_after output.answers
  pub answer : output.status ≡ Done

-- A message that couldn't be written: the answers are what they should be, or a prefix of that.
abbrev pub IsUntold : Streams → Output → Type 0
IsUntold streams output = AppendsFront streams.answers_before streams.answers_after output.answers

-- How a command that is to write `output` ends.
abbrev pub Ends : Streams → Output → Status → Type 0
Ends streams output Done = IsWritten streams output Done
Ends streams output Unmet = ⊥
Ends streams output BadArguments = IsWritten streams output BadArguments
Ends streams output Refused = IsWritten streams output Refused
Ends streams output InputFailed = IsCutShort streams output (codes "refused: input")
Ends streams output NoMemory = IsCutShort streams output no_memory_text
Ends streams output OutputFailed = IsUnanswered streams output
Ends streams output FaultsFailed = IsUntold streams output

-- a text that may have been read by a reader with these bytes left
abbrev pub IsTextOf : Option (List ℕ) → List ℕ → Type 0
IsTextOf left text = IfSome left (λ known. text ≡ known)

-- a message was written and the status is the one that goes with it, or the message couldn't be written
abbrev pub IsTold : Option (List ℕ) → Option (List ℕ) → List ℕ → Status → Status → Type 0
IsTold before after told status result = (result ≡ FaultsFailed) ⊎ ((result ≡ status) × Appends before after (line told))

-- good arguments, and then a fault that the input says nothing about, whatever may be written
pub record AreCutShort (streams : Streams) (Wanted : Output → Type 0) (told : List ℕ) : Type 0 where
  pub answers : Keeps streams.answers_before streams.answers_after
  pub faults : Appends streams.faults_before streams.faults_after (line told)
  pub arguments : (output : Output) → Wanted output → output.status ≢ BadArguments

-- How a command that is to write one of several outputs ends. Where a message couldn't be written, nothing of an answer was
-- written, or a prefix of one that may be written.
abbrev pub EndsInOne : Streams → (Output → Type 0) → Status → Type 0
EndsInOne streams Wanted Done = (output : Output) × Wanted output × IsWritten streams output Done
EndsInOne streams Wanted Unmet = ⊥
EndsInOne streams Wanted BadArguments = (output : Output) × Wanted output × IsWritten streams output BadArguments
EndsInOne streams Wanted Refused = (output : Output) × Wanted output × IsWritten streams output Refused
EndsInOne streams Wanted InputFailed = AreCutShort streams Wanted (codes "refused: input")
EndsInOne streams Wanted NoMemory = AreCutShort streams Wanted no_memory_text
EndsInOne streams Wanted OutputFailed = (output : Output) × Wanted output × IsUnanswered streams output
EndsInOne streams Wanted FaultsFailed = Keeps streams.answers_before streams.answers_after
    ⊎ ((output : Output) × Wanted output × IsUntold streams output)

-- the answer to a question couldn't be written whole: a prefix of it was written
pub record IsUnreported (streams : Streams) (output : Output) : Type 0 where
  pub faults : Appends streams.faults_before streams.faults_after (line (codes "refused: output"))
  pub answers : AppendsFront streams.answers_before streams.answers_after output.answers
  pub answer : (output.status ≡ Done) ⊎ (output.status ≡ Unmet)

-- no answer was written, and standard error has `no memory`
pub record IsOutOfMemory (streams : Streams) : Type 0 where
  pub answers : Keeps streams.answers_before streams.answers_after
  pub faults : Appends streams.faults_before streams.faults_after (line no_memory_text)

-- How a question ends that is to be answered by one of several outputs, in which something is found or nothing is. Memory may be
-- refused already where its arguments are read.
abbrev pub EndsAnswered : Streams → (Output → Type 0) → Status → Type 0
EndsAnswered streams Wanted Unmet = (output : Output) × Wanted output × IsWritten streams output Unmet
EndsAnswered streams Wanted NoMemory = IsOutOfMemory streams
EndsAnswered streams Wanted OutputFailed = (output : Output) × Wanted output × IsUnreported streams output
EndsAnswered streams Wanted status = EndsInOne streams Wanted status
