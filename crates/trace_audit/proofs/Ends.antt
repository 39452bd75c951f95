-- How `audit` ends.
use Rattle.std.proofs.Common.{◌≡◌, ◌≢◌, ◌⊎◌, ℕ, List, [], ◌∷◌, Option, refl, inl, inr, ap}
use Rattle.std.proofs.lemmas.List.Elements.{All-cons, All-nil}
use Rattle.trace_report.specs.Fault.{AreGood, IsFaultOfOne, fault_status, fault_text}
use Rattle.trace_report.specs.Output.{Output, whole_answer}
use Rattle.trace_report.specs.Streams.{Ends, EndsInOne, IsTextOf, IsTold, Streams}
use Rattle.trace_report.specs.declared.fault.Fault.{Fault}
use Rattle.trace_report.specs.declared.fault.Fault.TheVariants.{Input, Memory}
use Rattle.trace_report.specs.declared.format.Format.{Format}
use Rattle.trace_report.specs.declared.status.Status.{Status}
use Rattle.trace_report.specs.declared.status.Status.TheVariants.{BadArguments, Done, FaultsFailed, InputFailed, NoMemory, OutputFailed}
use Rattle.trace_report.specs.declared.status.Status.TheVariants.{Refused, Unmet}
use Rattle.trace_report.specs.laws.Endings.{one_told, text_of, told_alone}
use Rattle.trace_audit.specs.Audit.{AreTexts, AuditEnds, IsAuditOutput}
use Rattle.trace_audit.specs.Lookups.{TextValue}
use Rattle.trace_audit.specs.inner.Audited.{AreWanted}

good : (format : Format) (texts : List TextValue) (log : List ℕ) → AreGood (IsAuditOutput format texts log)
good format texts log output (lines, are, e) = rw e (λ bad. cc)

-- a command that gave one of the answers that may be written ends as it should
one_given : (streams : Streams) (Wanted : Output → Type 0) (output : Output) (status : Status) → AreGood Wanted → Wanted output
    → Ends streams output status → EndsInOne streams Wanted status
one_given streams Wanted output Done good of h = (output, of, h)
one_given streams Wanted output Unmet good of h = absurd h
one_given streams Wanted output BadArguments good of h = (output, of, h)
one_given streams Wanted output Refused good of h = (output, of, h)
one_given streams Wanted output InputFailed good of h = record { answers = h.answers; faults = h.faults; arguments = good }
one_given streams Wanted output NoMemory good of h = record { answers = h.answers; faults = h.faults; arguments = good }
one_given streams Wanted output OutputFailed good of h = (output, of, h)
one_given streams Wanted output FaultsFailed good of h = inr (output, of, h)

-- a fault that hides the text says only that the arguments are good
unread_one : (Wanted : Output → Type 0) (f : Fault) → AreGood Wanted → (f ≡ Input) ⊎ (f ≡ Memory) → IsFaultOfOne Wanted f
unread_one Wanted f good (inl h) = rw h good
unread_one Wanted f good (inr h) = rw h good

-- whatever is known under the names, some texts may have been read
some_texts : (known : List ℕ → Option (List ℕ)) (names : List (List ℕ)) → (texts : List TextValue) × AreTexts known names texts
some_texts known [] = ([], record { named = refl; are = All-nil (λ t. IsTextOf (known t.name) t.text) })
some_texts known (name ∷ names) =
    let text = text_of (known name) in
    let others = some_texts known names in
    let t : TextValue = record { name = name; text = text.0 } in (
      t ∷ others.0,
      record {
        named = ap (λ (l : List (List ℕ)). name ∷ l) others.1.named;
        are = All-cons (λ t. IsTextOf (known t.name) t.text) t others.0 text.1 others.1.are;
      },
    )

module _ (format : Format) (known : List ℕ → Option (List ℕ)) (names : List (List ℕ)) (left : Option (List ℕ)) where
  pub answered : (streams : Streams) (lines : List ℕ) (status : Status) → AreWanted format known names left lines
      → Ends streams (whole_answer lines) status → AuditEnds format known names left streams status
  answered streams lines status wanted h = record {
    texts = wanted.texts;
    are_texts = wanted.are_texts;
    log = wanted.log;
    is_log = wanted.is_log;
    ends = one_given streams (IsAuditOutput format wanted.texts wanted.log) (whole_answer lines) status
        (good format wanted.texts wanted.log) (lines, wanted.are, refl) h;
  }

  pub unanswered : (answers before after : Option (List ℕ)) (f : Fault) (status : Status) → (f ≡ Input) ⊎ (f ≡ Memory)
      → IsTold before after (fault_text f) (fault_status f) status
      → AuditEnds format known names left (told_alone answers before after) status
  unanswered answers before after f status of h =
      let texts = some_texts known names in
      let log = text_of left in
      let Wanted = IsAuditOutput format texts.0 log.0 in record {
        texts = texts.0;
        are_texts = texts.1;
        log = log.0;
        is_log = log.1;
        ends = one_told answers before after Wanted f status (unread_one Wanted f (good format texts.0 log.0) of) h;
      }
