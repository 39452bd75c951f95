-- How commands end that reported a fault, or that wrote a prefix of their answer.
use Rattle.std.proofs.Common.{◌≡◌, ◌≢◌, ℕ, List, [], Option, Some, None, refl, inl, inr, rules}
use Rattle.std.specs.Prelude.{codes}
use Rattle.std.specs.Io.KnownBytes.{Keeps, Appends}
use Rattle.trace_report.specs.declared.status.Status.{Status}
use Rattle.trace_report.specs.declared.status.Status.TheVariants.{Done, BadArguments, Refused, OutputFailed}
use Rattle.trace_report.specs.declared.fault.Fault.{Fault}
use Rattle.trace_report.specs.declared.fault.Fault.TheVariants.{Permissions, Name, Pattern, Text, Compiling, Image, Question}
use Rattle.trace_report.specs.declared.fault.Fault.TheVariants.{Input, Memory}
use Rattle.trace_report.specs.Fault.{fault_text, fault_status, IsFaultOf, IsFaultOfAnswer, IsFaultOfOne}
use Rattle.trace_report.specs.Output.{Output, fault, line}
use Rattle.trace_report.specs.Streams.{Streams, streams, IsTextOf, IsTold, IsWritten, IsCutShort, AppendsFront, Ends, EndsAnswered}
use Rattle.trace_report.specs.Streams.{EndsInOne}

-- whatever is known of a reader, some text may have been read
pub text_of : (left : Option (List ℕ)) → (text : List ℕ) × IsTextOf left text
text_of None = ([], tt)
text_of (Some known) = (known, refl)

-- nothing more was written
pub appends_nothing : (known : Option (List ℕ)) → Appends known known []
appends_nothing None = tt
appends_nothing (Some xs) = search rules

-- of any bytes the empty prefix was written
pub nothing_yet : (known : Option (List ℕ)) (bytes : List ℕ) → AppendsFront known known bytes
nothing_yet known bytes = ([], bytes, refl, appends_nothing known)

pub keeps : (known : Option (List ℕ)) → Keeps known known
keeps None = tt
keeps (Some xs) = refl

-- the streams of a command that reported a fault and wrote nothing else
abbrev pub told_alone : Option (List ℕ) → Option (List ℕ) → Option (List ℕ) → Streams
told_alone answers before after = streams answers answers before after

pub written : (answers before after : Option (List ℕ)) (output : Output) (told : List ℕ) (status : Status)
    → output ≡ fault told status → Appends before after (line told) → IsWritten (told_alone answers before after) output status
written answers before after output told status e h = record {
  answers = rw e (appends_nothing answers);
  faults = rw e h;
  ends = rw e refl;
}

cut_short : (answers before after : Option (List ℕ)) (output : Output) (told : List ℕ)
    → output.status ≢ BadArguments → Appends before after (line told) → IsCutShort (told_alone answers before after) output told
cut_short answers before after output told good h = record { answers = keeps answers; faults = h; arguments = good }

-- a command that reported its fault ends as it should
pub ends_told : (answers before after : Option (List ℕ)) (output : Output) (f : Fault) (status : Status)
    → IsFaultOf output f → IsTold before after (fault_text f) (fault_status f) status →
    Ends (told_alone answers before after) output status
ends_told answers before after output f status of (inl e) = rw e (nothing_yet answers output.answers)
ends_told answers before after output Permissions status of (inr h) =
    rw h.0 (written answers before after output (fault_text Permissions) BadArguments of h.1)
ends_told answers before after output Name status of (inr h) =
    rw h.0 (written answers before after output (fault_text Name) BadArguments of h.1)
ends_told answers before after output Pattern status of (inr h) =
    rw h.0 (written answers before after output (fault_text Pattern) BadArguments of h.1)
ends_told answers before after output Question status of (inr h) =
    rw h.0 (written answers before after output (fault_text Question) Refused of h.1)
ends_told answers before after output (Text f) status of (inr h) =
    rw h.0 (written answers before after output (fault_text (Text f)) Refused of h.1)
ends_told answers before after output (Compiling f) status of (inr h) =
    rw h.0 (written answers before after output (fault_text (Compiling f)) Refused of h.1)
ends_told answers before after output (Image f) status of (inr h) =
    rw h.0 (written answers before after output (fault_text (Image f)) Refused of h.1)
ends_told answers before after output Input status of (inr h) =
    rw h.0 (cut_short answers before after output (fault_text Input) of h.1)
ends_told answers before after output Memory status of (inr h) =
    rw h.0 (cut_short answers before after output (fault_text Memory) of h.1)

-- an answer of which a prefix was written, and then the message about that
pub unanswered : (answers after faults told : Option (List ℕ)) (output : Output) (status : Status)
    → output.status ≡ Done → AppendsFront answers after output.answers → IsTold faults told (codes "refused: output") OutputFailed status
    → Ends (streams answers after faults told) output status
unanswered answers after faults told output status done front (inl e) = rw e front
unanswered answers after faults told output status done front (inr h) = rw h.0 (record { faults = h.1; answers = front; answer = done })

-- a command that may write one of several outputs and reported its fault ends as it should
pub one_told : (answers before after : Option (List ℕ)) (Wanted : Output → Type 0) (f : Fault) (status : Status)
    → IsFaultOfOne Wanted f → IsTold before after (fault_text f) (fault_status f) status →
    EndsInOne (told_alone answers before after) Wanted status
one_told answers before after Wanted f status of (inl e) = rw e (inl (keeps answers))
one_told answers before after Wanted Permissions status of (inr h) =
    rw h.0 (fault (fault_text Permissions) BadArguments, of, written answers before after _ (fault_text Permissions) BadArguments refl h.1)
one_told answers before after Wanted Name status of (inr h) =
    rw h.0 (fault (fault_text Name) BadArguments, of, written answers before after _ (fault_text Name) BadArguments refl h.1)
one_told answers before after Wanted Pattern status of (inr h) =
    rw h.0 (fault (fault_text Pattern) BadArguments, of, written answers before after _ (fault_text Pattern) BadArguments refl h.1)
one_told answers before after Wanted Question status of (inr h) =
    rw h.0 (fault (fault_text Question) Refused, of, written answers before after _ (fault_text Question) Refused refl h.1)
one_told answers before after Wanted (Text f) status of (inr h) =
    rw h.0 (fault (fault_text (Text f)) Refused, of, written answers before after _ (fault_text (Text f)) Refused refl h.1)
one_told answers before after Wanted (Compiling f) status of (inr h) =
    rw h.0 (fault (fault_text (Compiling f)) Refused, of, written answers before after _ (fault_text (Compiling f)) Refused refl h.1)
one_told answers before after Wanted (Image f) status of (inr h) =
    rw h.0 (fault (fault_text (Image f)) Refused, of, written answers before after _ (fault_text (Image f)) Refused refl h.1)
one_told answers before after Wanted Input status of (inr h) = rw h.0 (record { answers = keeps answers; faults = h.1; arguments = of })
one_told answers before after Wanted Memory status of (inr h) = rw h.0 (record { answers = keeps answers; faults = h.1; arguments = of })

-- so does a question
pub answered_told : (answers before after : Option (List ℕ)) (Wanted : Output → Type 0) (f : Fault) (status : Status)
    → IsFaultOfAnswer Wanted f → IsTold before after (fault_text f) (fault_status f) status →
    EndsAnswered (told_alone answers before after) Wanted status
answered_told answers before after Wanted f status of (inl e) = rw e (inl (keeps answers))
answered_told answers before after Wanted Permissions status of (inr h) =
    rw h.0 (fault (fault_text Permissions) BadArguments, of, written answers before after _ (fault_text Permissions) BadArguments refl h.1)
answered_told answers before after Wanted Name status of (inr h) =
    rw h.0 (fault (fault_text Name) BadArguments, of, written answers before after _ (fault_text Name) BadArguments refl h.1)
answered_told answers before after Wanted Pattern status of (inr h) =
    rw h.0 (fault (fault_text Pattern) BadArguments, of, written answers before after _ (fault_text Pattern) BadArguments refl h.1)
answered_told answers before after Wanted Question status of (inr h) =
    rw h.0 (fault (fault_text Question) Refused, of, written answers before after _ (fault_text Question) Refused refl h.1)
answered_told answers before after Wanted (Text f) status of (inr h) =
    rw h.0 (fault (fault_text (Text f)) Refused, of, written answers before after _ (fault_text (Text f)) Refused refl h.1)
answered_told answers before after Wanted (Compiling f) status of (inr h) =
    rw h.0 (fault (fault_text (Compiling f)) Refused, of, written answers before after _ (fault_text (Compiling f)) Refused refl h.1)
answered_told answers before after Wanted (Image f) status of (inr h) =
    rw h.0 (fault (fault_text (Image f)) Refused, of, written answers before after _ (fault_text (Image f)) Refused refl h.1)
answered_told answers before after Wanted Input status of (inr h) =
    rw h.0 (record { answers = keeps answers; faults = h.1; arguments = of })
answered_told answers before after Wanted Memory status of (inr h) = rw h.0 (record { answers = keeps answers; faults = h.1 })
