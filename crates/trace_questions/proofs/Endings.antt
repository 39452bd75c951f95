-- How a question ends whose answer was written, and which outputs don't report bad arguments.
use Rattle.std.proofs.Common.{◌≡◌, ◌≢◌, inl, inr, ℕ, Bool, true, false, List, sym, subst}
use Rattle.trace_report.specs.Fault.{AreGood}
use Rattle.trace_report.specs.Output.{Output, fault, finding}
use Rattle.trace_report.specs.Streams.{EndsAnswered, Streams}
use Rattle.trace_report.specs.declared.status.Status.{Status}
use Rattle.trace_report.specs.declared.status.Status.TheVariants.{BadArguments, Done, FaultsFailed, InputFailed, NoMemory, OutputFailed}
use Rattle.trace_report.specs.declared.status.Status.TheVariants.{Refused, Unmet}

-- refusals and answers don't report bad arguments
pub refused_good : (output : Output) (text : List ℕ) → output ≡ fault text Refused → output.status ≢ BadArguments
refused_good output text e = rw e (λ bad. cc)

pub found_good : (output : Output) (bytes : List ℕ) (found : Bool) → output ≡ finding bytes found → output.status ≢ BadArguments
found_good output bytes true e = rw e (λ bad. cc)
found_good output bytes false e = rw e (λ bad. cc)

module _ (streams : Streams) (Wanted : Output → Type 0) (output : Output) (of : Wanted output) (good : AreGood Wanted) where
  -- an ending with this output is one with an output that may be written
  one_of : (status : Status) → EndsAnswered streams (λ o. o ≡ output) status → EndsAnswered streams Wanted status
  one_of Done h = (h.0, subst Wanted (sym h.1) of, h.2)
  one_of Unmet h = (h.0, subst Wanted (sym h.1) of, h.2)
  one_of BadArguments h = (h.0, subst Wanted (sym h.1) of, h.2)
  one_of Refused h = (h.0, subst Wanted (sym h.1) of, h.2)
  one_of OutputFailed h = (h.0, subst Wanted (sym h.1) of, h.2)
  one_of NoMemory h = h
  one_of InputFailed h = record { answers = h.answers; faults = h.faults; arguments = good }
  one_of FaultsFailed (inl h) = inl h
  one_of FaultsFailed (inr h) = inr (h.0, subst Wanted (sym h.1) of, h.2)

pub answered : (streams : Streams) (Wanted : Output → Type 0) (bytes text : List ℕ) (found : Bool) (status : Status) → bytes ≡ text →
    AreGood Wanted → Wanted (finding text found) → EndsAnswered streams (λ o. o ≡ finding bytes found) status →
    EndsAnswered streams Wanted status
answered streams Wanted bytes text found status e good of h =
    one_of streams Wanted (finding text found) of good status
    (subst (λ (b : List ℕ). EndsAnswered streams (λ o. o ≡ finding b found) status) e h)
