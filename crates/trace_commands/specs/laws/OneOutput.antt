-- Commands that may write one of several outputs.
use Rattle.table_verifier.specs.AcceptedImages.{IsLoadFault}
use Rattle.std.specs.Prelude.{Vec}
use Rattle.matcher.specs.declared.fault.MakeFault.TheVariants.{TooManyStates}
use Rattle.tables.specs.Tables.{Table}
use Rattle.tables.specs.declared.header.Version.TheVariants.{Second}
use Rattle.std.specs.declared.alloc.Global.{Global}
use Rattle.tables.specs.declared.fault.ImageFault.{ImageFault}
use Rattle.tables.specs.declared.fault.ImageFault.TheVariants as fault_here
use Rattle.std.proofs.Common.{arith, ◌≡◌, ◌≢◌, ◌<◌, ◌⊎◌, ℕ, zero, suc, List, Result, Ok, Err, refl, inl, inr}
use Rattle.names.specs.declared.permissions.Perms.{Perms}
use Rattle.rule_profile.specs.Profile.{ProfileValue}
use Rattle.rule_reader.specs.ReadText.{outcome_of}
use Rattle.rule_reader.specs.declared.fault.ReadFault.{ReadFault}
use Rattle.trace_report.specs.Fault.{AreGood, IsFaultOfOne}
use Rattle.trace_commands.specs.inner.Answers.{IsAnswered}
use Rattle.trace_report.specs.Fault.{fault_of_image, fault_text}
use Rattle.trace_report.specs.ReadStreams.{ask_of}
use Rattle.trace_report.specs.Output.{Output, compile_refusal, fault, image_refusal, refusal, whole_answer}
use Rattle.trace_report.specs.Streams.{Ends, EndsInOne, Streams}
use Rattle.trace_commands.specs.Tables.{IsCheckOutput, IsCompileOutput, IsCompileOutputOf, IsImageRefused, IsMatchOutput, IsMemoryOfWhole}
use Rattle.trace_commands.specs.Tables.{IsMatchOutputOf, IsMatchedOutput, IsVersionAsked}
use Rattle.trace_report.specs.declared.fault.Fault.{Fault}
use Rattle.trace_report.specs.declared.fault.Fault.TheVariants.{Permissions, Name, Pattern, Text, Compiling, Image, Question}
use Rattle.trace_report.specs.declared.fault.Fault.TheVariants.{Input, Memory}
use Rattle.trace_report.specs.declared.format.Format.{Format}
use Rattle.trace_report.specs.declared.status.Status.{Status}
use Rattle.trace_report.specs.declared.status.Status.TheVariants.{BadArguments, Done, FaultsFailed, InputFailed, NoMemory, OutputFailed}
use Rattle.trace_report.specs.declared.status.Status.TheVariants.{Refused, Unmet}

-- answers and refusals don't report bad arguments
not_bad : (output : Output) (bytes : List ℕ) → output ≡ whole_answer bytes → output.status ≢ BadArguments
not_bad output bytes e = rw e (λ bad. cc)

refused : (output : Output) (text : List ℕ) → output ≡ fault text Refused → output.status ≢ BadArguments
refused output text e = rw e (λ bad. cc)

compile_status : (depth : ℕ) (outcome : Result ProfileValue ReadFault) → AreGood (IsCompileOutputOf depth outcome)
compile_status depth (Err f) output e = refused output (refusal f) e
compile_status depth (Ok profile) output (inl over) = refused output (compile_refusal TooManyStates) over.1
compile_status depth (Ok profile) output (inr made) = not_bad output made.1.bytes made.1.is

pub compile_arguments : (depth : ℕ) (text : List ℕ) → AreGood (IsCompileOutput depth text)
compile_arguments depth text = compile_status depth (outcome_of text)

image_refused : (image : List ℕ) (output : Output) → IsImageRefused image output → output.status ≢ BadArguments
image_refused image output h = refused output (image_refusal h.0) h.2

pub check_arguments : (image : List ℕ) → AreGood (IsCheckOutput image)
check_arguments image output (inl h) = not_bad output _ h.2
check_arguments image output (inr h) = image_refused image output h

pub matched_arguments : (format : Format) (ask : Perms) (name image : List ℕ) → AreGood (IsMatchedOutput format ask name image)
matched_arguments format ask name image output (inl h) = not_bad output _ h.4
matched_arguments format ask name image output (inr h) = image_refused image output h

-- a command that gave one of the answers that may be written ends as it should
pub one_given : (streams : Streams) (Wanted : Output → Type 0) (output : Output) (status : Status) → AreGood Wanted → Wanted output
    → Ends streams output status → EndsInOne streams Wanted status
one_given streams Wanted output Done good of h = (output, of, h)
one_given streams Wanted output Unmet good of h = absurd h
one_given streams Wanted output BadArguments good of h = (output, of, h)
one_given streams Wanted output Refused good of h = (output, of, h)
one_given streams Wanted output InputFailed good of h = record { answers = h.answers; faults = h.faults; arguments = good }
one_given streams Wanted output NoMemory good of h = record { answers = h.answers; faults = h.faults; arguments = good }
one_given streams Wanted output OutputFailed good of h = (output, of, h)
one_given streams Wanted output FaultsFailed good of h = inr (output, of, h)

-- a fault that hides the text says only that the arguments are good
pub unread_one : (Wanted : Output → Type 0) (f : Fault) → AreGood Wanted → (f ≡ Input) ⊎ (f ≡ Memory) → IsFaultOfOne Wanted f
unread_one Wanted f good (inl h) = rw h good
unread_one Wanted f good (inr h) = rw h good

-- bad arguments are reported as such, whatever the image
asked_one : (format : Format) (asked : Result Perms (List ℕ)) (name image : List ℕ) (f : Fault) → asked ≡ Err (fault_text f)
    → (f ≡ Permissions) ⊎ (f ≡ Name)
    → IsFaultOfOne (IsMatchOutputOf format asked name image) f
asked_one format asked name image Permissions e which = rw e refl
asked_one format asked name image Name e which = rw e refl
asked_one format asked name image Input e (inl h) = cc
asked_one format asked name image Input e (inr h) = cc
asked_one format asked name image Memory e (inl h) = cc
asked_one format asked name image Memory e (inr h) = cc
asked_one format asked name image (Text f) e (inl h) = cc
asked_one format asked name image (Text f) e (inr h) = cc
asked_one format asked name image Pattern e (inl h) = cc
asked_one format asked name image Pattern e (inr h) = cc
asked_one format asked name image Question e (inl h) = cc
asked_one format asked name image Question e (inr h) = cc
asked_one format asked name image (Compiling f) e (inl h) = cc
asked_one format asked name image (Compiling f) e (inr h) = cc
asked_one format asked name image (Image f) e (inl h) = cc
asked_one format asked name image (Image f) e (inr h) = cc

pub match_in_vain : (format : Format) (perms name image : List ℕ) (f : Fault) → ask_of perms name ≡ Err (fault_text f)
    → (f ≡ Permissions) ⊎ (f ≡ Name)
    → IsFaultOfOne (IsMatchOutput format perms name image) f
match_in_vain format perms name image f e which = asked_one format (ask_of perms name) name image f e which

-- good arguments: the outputs that may be written are those for the permissions asked for
asked_arguments : (format : Format) (asked : Result Perms (List ℕ)) (ask : Perms) (name image : List ℕ) → asked ≡ Ok ask →
    AreGood (IsMatchOutputOf format asked name image)
asked_arguments format asked ask name image e = rw e (matched_arguments format ask name image)

pub match_arguments : (format : Format) (perms name image : List ℕ) (ask : Perms) → ask_of perms name ≡ Ok ask
    → AreGood (IsMatchOutput format perms name image)
match_arguments format perms name image ask e = asked_arguments format (ask_of perms name) ask name image e

asked_refused : (format : Format) (asked : Result Perms (List ℕ)) (ask : Perms) (name image : List ℕ) (output : Output) → asked ≡ Ok ask →
    IsImageRefused image output → IsMatchOutputOf format asked name image output
asked_refused format asked ask name image output e h = rw e (inr h)

pub match_refused : (format : Format) (perms name image : List ℕ) (ask : Perms) (output : Output) → ask_of perms name ≡ Ok ask
    → IsImageRefused image output
    → IsMatchOutput format perms name image output
match_refused format perms name image ask output e h = asked_refused format (ask_of perms name) ask name image output e h

asked_answer : (format : Format) (asked : Result Perms (List ℕ)) (ask : Perms) (name image : List ℕ)
    (result : Result (Vec ℕ Global) Fault) → asked ≡ Ok ask
    → IsAnswered (IsMatchedOutput format ask name image) result → IsAnswered (IsMatchOutputOf format asked name image) result
asked_answer format asked ask name image result e h = rw e h

pub match_answer : (format : Format) (perms name image name_here image_here : List ℕ) (ask : Perms) (result : Result (Vec ℕ Global) Fault)
    → name_here ≡ name → image_here ≡ image → ask_of perms name ≡ Ok ask
    → IsAnswered (IsMatchedOutput format ask name_here image_here) result → IsAnswered (IsMatchOutput format perms name image) result
match_answer format perms name image name_here image_here ask result n i e h =
    asked_answer format (ask_of perms name) ask name image result e
    (rw (n, i) at h)

-- the first fault of an image is reported
pub told_fault : (image : List ℕ) (Wanted : Output → Type 0) (f : ImageFault)
    → ((output : Output) → IsImageRefused image output → Wanted output) → IsLoadFault image f → IsFaultOfOne Wanted (fault_of_image f)
told_fault image Wanted fault_here.NoMemory wants (inl first) = absurd first.has
told_fault image Wanted fault_here.NoMemory wants (inr in_table) = absurd in_table.2.has
told_fault image Wanted fault_here.Short wants h = wants _ (fault_here.Short, h, refl)
told_fault image Wanted fault_here.Magic wants h = wants _ (fault_here.Magic, h, refl)
told_fault image Wanted fault_here.Version wants h = wants _ (fault_here.Version, h, refl)
told_fault image Wanted fault_here.Reserved wants h = wants _ (fault_here.Reserved, h, refl)
told_fault image Wanted fault_here.Counts wants h = wants _ (fault_here.Counts, h, refl)
told_fault image Wanted fault_here.Length wants h = wants _ (fault_here.Length, h, refl)
told_fault image Wanted (fault_here.Default s) wants h = wants _ (fault_here.Default s, h, refl)
told_fault image Wanted (fault_here.Base s) wants h = wants _ (fault_here.Base s, h, refl)
told_fault image Wanted (fault_here.Accept s) wants h = wants _ (fault_here.Accept s, h, refl)
told_fault image Wanted (fault_here.Next s) wants h = wants _ (fault_here.Next s, h, refl)
told_fault image Wanted (fault_here.Depth s) wants h = wants _ (fault_here.Depth s, h, refl)

-- and where memory runs out, the bytes are whole
pub image_memory : (image : List ℕ) (f : ImageFault) → IsLoadFault image f → IsMemoryOfWhole image (fault_of_image f)
image_memory image fault_here.NoMemory (inl first) e = absurd first.has
image_memory image fault_here.NoMemory (inr in_table) e = absurd in_table.2.has
image_memory image fault_here.Short h e = cc
image_memory image fault_here.Magic h e = cc
image_memory image fault_here.Version h e = cc
image_memory image fault_here.Reserved h e = cc
image_memory image fault_here.Counts h e = cc
image_memory image fault_here.Length h e = cc
image_memory image (fault_here.Default s) h e = cc
image_memory image (fault_here.Base s) h e = cc
image_memory image (fault_here.Accept s) h e = cc
image_memory image (fault_here.Next s) h e = cc
image_memory image (fault_here.Depth s) h e = cc

-- with a depth, version 2 is written
pub second_asked : (depth : ℕ) (t : Table) → 0 < depth → IsVersionAsked depth t Second
second_asked zero t some = absurd (omega (arith, some))
second_asked (suc depth) t some = refl
