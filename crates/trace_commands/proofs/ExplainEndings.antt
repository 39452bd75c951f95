-- The outcomes of `explain`: bad arguments, faults that the text says nothing about, texts that are refused, and answers.
use Rattle.std.proofs.Common.{◌≡◌, ◌≢◌, ◌⊎◌, ℕ, List, [], ◌++◌, Option, Result, Ok, Err, refl, sym, subst, inl, inr, append_assoc}
use Rattle.std.proofs.Common.{append-nil}
use Rattle.std.specs.Prelude.{codes, flat_map, filter}
use Rattle.names.specs.Errors.{no_memory_text}
use Rattle.names.specs.declared.permissions.Perms.{Perms}
use Rattle.names.specs.Permissions.{all_permissions, has}
use Rattle.answer_json.specs.Lines.{explanation as explained}
use Rattle.rule_explain.specs.Explanations.{explanation, reason_line}
use Rattle.rule_explain.specs.FaultLines.{fault_lines}
use Rattle.rule_globs.specs.PlainVerdict.{verdict}
use Rattle.rule_reader.specs.declared.fault.ReadFault.{ReadFault}
use Rattle.rule_reader.specs.declared.fault.ReadFault.TheVariants as reading
use Rattle.rule_profile.specs.declared.profile.Span.{Span}
use Rattle.rule_profile.specs.Profile.{ProfileValue}
use Rattle.rule_reader.specs.ReadText.{outcome_of}
use Rattle.rule_reader.specs.Spans.{spans_of}
use Rattle.names.specs.VerdictText.{verdict_text}
use Rattle.trace_report.specs.declared.format.Format.{Format}
use Rattle.trace_report.specs.declared.format.Format.TheVariants.{Text as in_text}
use Rattle.trace_report.specs.declared.status.Status.{Status}
use Rattle.trace_report.specs.declared.status.Status.TheVariants.{BadArguments, NoMemory, Refused}
use Rattle.trace_report.specs.declared.fault.Fault.{Fault}
use Rattle.trace_report.specs.declared.fault.Fault.TheVariants.{Permissions, Name, Pattern, Text, Compiling, Image, Question}
use Rattle.trace_report.specs.declared.fault.Fault.TheVariants.{Input, Memory}
use Rattle.trace_report.specs.Fault.{fault_text, IsFaultOf}
use Rattle.trace_report.specs.Output.{Output, fault, line, refusal, whole_answer}
use Rattle.trace_report.specs.Streams.{Ends, IsTold, Streams}
use Rattle.trace_report.specs.laws.Endings.{ends_told, nothing_yet, told_alone, written}
use Rattle.trace_commands.specs.Explain.{explain_output, explained_output, refusal_text, GoesOnFrom}
use Rattle.trace_commands.specs.Judge.{judge_output, verdict_output}
use Rattle.trace_report.specs.ReadStreams.{ask_of}

-- ---- arguments

-- bad arguments are reported as such, whatever the text
pub asked_in_vain : (format : Format) (perms name text : List ℕ) (f : Fault) → ask_of perms name ≡ Err (fault_text f)
    → (f ≡ Permissions) ⊎ (f ≡ Name) →
    IsFaultOf (explain_output format perms name text) f
asked_in_vain format perms name text Permissions e which = rw (e, explain_output) refl
asked_in_vain format perms name text Name e which = rw (e, explain_output) refl
asked_in_vain format perms name text Input e (inl p) = cc
asked_in_vain format perms name text Input e (inr p) = cc
asked_in_vain format perms name text Memory e (inl p) = cc
asked_in_vain format perms name text Memory e (inr p) = cc
asked_in_vain format perms name text (Text f) e (inl p) = cc
asked_in_vain format perms name text (Text f) e (inr p) = cc
asked_in_vain format perms name text Pattern e (inl p) = cc
asked_in_vain format perms name text Pattern e (inr p) = cc
asked_in_vain format perms name text Question e (inl p) = cc
asked_in_vain format perms name text Question e (inr p) = cc
asked_in_vain format perms name text (Compiling f) e (inl p) = cc
asked_in_vain format perms name text (Compiling f) e (inr p) = cc
asked_in_vain format perms name text (Image f) e (inl p) = cc
asked_in_vain format perms name text (Image f) e (inr p) = cc

-- good arguments aren't reported as bad ones
pub explained_status : (format : Format) (ask : Perms) (name text : List ℕ) (outcome : Result ProfileValue ReadFault) →
    (explained_output format ask name text outcome).status ≢ BadArguments
explained_status format ask name text (Ok profile) = λ e. cc
explained_status format ask name text (Err f) = λ e. cc

-- what is written with good arguments
pub good_output : (format : Format) (perms name text : List ℕ) (ask : Perms) → ask_of perms name ≡ Ok ask
    → explain_output format perms name text
    ≡ explained_output format ask name text (outcome_of text)
good_output format perms name text ask e = rw (e, explain_output) refl

good_arguments : (format : Format) (perms name text : List ℕ) (ask : Perms) → ask_of perms name ≡ Ok ask →
    (explain_output format perms name text).status ≢ BadArguments
good_arguments format perms name text ask e = rw (good_output format perms name text ask e)
    (explained_status format ask name text (outcome_of text))

-- with good arguments the text is explained
pub explained_so : (format : Format) (streams : Streams) (perms name text here items : List ℕ) (ask : Perms) (status : Status)
    → ask_of perms name ≡ Ok ask → text ≡ items → here ≡ items
    → Ends streams (explained_output format ask name here (outcome_of here)) status
    → Ends streams (explain_output format perms name text) status
explained_so format streams perms name text here items ask status e1 e2 e3 h =
    let same : explained_output format ask name here (outcome_of here) ≡ explain_output format perms name text =
    rw (e3, e2) (sym (good_output format perms name items ask e1)) in
    subst (λ (output : Output). Ends streams output status) same h

-- a fault that hides the text says only that the arguments are good
pub unread : (format : Format) (perms name text : List ℕ) (ask : Perms) (f : Fault) → ask_of perms name ≡ Ok ask
    → (f ≡ Input) ⊎ (f ≡ Memory) →
    IsFaultOf (explain_output format perms name text) f
unread format perms name text ask f e (inl h) = rw h (good_arguments format perms name text ask e)
unread format perms name text ask f e (inr h) = rw h (good_arguments format perms name text ask e)

-- ---- texts

-- an answer
pub answered_so : (format : Format) (streams : Streams) (ask : Perms) (name text : List ℕ) (profile : ProfileValue) (spans : List Span)
    (here lines bytes : List ℕ) (status : Status) → outcome_of text ≡ Ok profile → spans ≡ spans_of text → here ≡ name → bytes ≡ lines
    → lines ≡ explained format text profile.rules spans here ask → Ends streams (whole_answer bytes) status →
    Ends streams (explained_output format ask name text (outcome_of text)) status
answered_so format streams ask name text profile spans here lines bytes status e1 e2 e3 e4 e5 h =
    let same : explained_output format ask name text (outcome_of text) ≡ whole_answer bytes = rw (e1, e4, e5, e2, e3) refl in
    subst (λ (output : Output). Ends streams output status) (sym same) h

-- out of memory
pub forgotten : (format : Format) (ask : Perms) (name text : List ℕ) (answers before after : Option (List ℕ)) (status : Status) →
    IsTold before after no_memory_text NoMemory status
    → Ends (told_alone answers before after) (explained_output format ask name text (outcome_of text)) status
forgotten format ask name text answers before after status h = ends_told answers before after _ Memory status
    (explained_status format ask name text (outcome_of text)) h

told_whole : (answers before after : Option (List ℕ)) (output : Output) (told : List ℕ) (status : Status) → output ≡ fault told Refused →
    IsTold before after told Refused status → Ends (told_alone answers before after) output status
told_whole answers before after output told status of (inl e) = rw e (nothing_yet answers output.answers)
told_whole answers before after output told status of (inr h) = rw h.0 (written answers before after output told Refused of h.1)

-- a text that is refused, or no memory to report where
pub refused_so : (format : Format) (ask : Perms) (name text : List ℕ) (f : ReadFault) (answers before after : Option (List ℕ))
    (status : Status) →
    f ≢ reading.NoMemory → (f ≡ reading.NoMemory) ⊎ (outcome_of text ≡ Err f)
    → (IsTold before after (refusal_text text f) Refused status) ⊎ (IsTold before after no_memory_text NoMemory status)
    → Ends (told_alone answers before after) (explained_output format ask name text (outcome_of text)) status
refused_so format ask name text f answers before after status other (inl m) told = absurd (other m)
refused_so format ask name text f answers before after status other (inr e) (inr h) =
    forgotten format ask name text answers before after status h
refused_so format ask name text f answers before after status other (inr e) (inl h) =
    told_whole answers before after (explained_output format ask name text (outcome_of text)) (refusal_text text f) status (rw e refl) h

-- ---- compared with `judge`

same_faults : (one : List ℕ) → (more : List ℕ) × (one ≡ one ++ more)
same_faults one = ([], sym (append-nil one))

by_outcome : (ask : Perms) (name text : List ℕ) (outcome : Result ProfileValue ReadFault)
    → GoesOnFrom (verdict_output in_text ask name outcome)
    (explained_output in_text ask name text outcome)
unfolding explanation
by_outcome ask name text (Ok profile) =
    let lines : List ℕ = flat_map (reason_line text profile.rules (spans_of text) name) (filter (has ask) all_permissions) in
    record {
      status = refl;
      answers = (lines, sym (append_assoc (verdict_text (verdict profile.rules name ask)) (codes "\n") lines));
      faults = same_faults [];
    }
by_outcome ask name text (Err f) = record {
  status = refl;
  answers = same_faults [];
  faults = (fault_lines text f ++ codes "\n", append_assoc (line (refusal f)) (fault_lines text f) (codes "\n"));
}

pub goes_on : (perms name text : List ℕ) → GoesOnFrom (judge_output in_text perms name text) (explain_output in_text perms name text)
goes_on perms name text =
    let P : Result Perms (List ℕ) → Type 0 = λ asked. GoesOnFrom
    (elim asked [ Err told ↦ fault told BadArguments | Ok ask ↦ verdict_output in_text ask name (outcome_of text) ])
    (elim asked [ Err told ↦ fault told BadArguments | Ok ask ↦ explained_output in_text ask name text (outcome_of text) ]) in
    elim (ask_of perms name) as P [
      | Err told ↦ record { status = refl; answers = same_faults []; faults = same_faults (line told) }
      | Ok ask ↦ by_outcome ask name text (outcome_of text)
    ]

-- in each format they end with the same status
same_outcome : (format : Format) (ask : Perms) (name text : List ℕ) (outcome : Result ProfileValue ReadFault) →
    (explained_output format ask name text outcome).status ≡ (verdict_output format ask name outcome).status
same_outcome format ask name text (Ok profile) = refl
same_outcome format ask name text (Err f) = refl

pub same_status : (format : Format) (perms name text : List ℕ) →
    (explain_output format perms name text).status ≡ (judge_output format perms name text).status
same_status format perms name text =
    let explained : Result Perms (List ℕ) → Output = λ asked.
    elim asked [ Err told ↦ fault told BadArguments | Ok ask ↦ explained_output format ask name text (outcome_of text) ] in
    let judged : Result Perms (List ℕ) → Output = λ asked.
    elim asked [ Err told ↦ fault told BadArguments | Ok ask ↦ verdict_output format ask name (outcome_of text) ] in
    elim (ask_of perms name) as (λ asked. (explained asked).status ≡ (judged asked).status) [
      | Err told ↦ refl
      | Ok ask ↦ same_outcome format ask name text (outcome_of text)
    ]
