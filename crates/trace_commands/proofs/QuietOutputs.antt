-- What a quiet `match` may leave, by its arguments.
use Rattle.std.proofs.Common.{◌≡◌, ◌≢◌, ◌⊎◌, ℕ, List, Result, Ok, Err, refl, inl, inr, subst}
use Rattle.names.specs.declared.permissions.Perms.{Perms}
use Rattle.names.specs.declared.verdict.Verdict.{Verdict}
use Rattle.trace_report.specs.declared.fault.Fault.{Fault}
use Rattle.trace_report.specs.declared.fault.Fault.TheVariants.{Permissions, Name, Pattern, Text, Compiling, Image, Question}
use Rattle.trace_report.specs.declared.fault.Fault.TheVariants.{Input, Memory}
use Rattle.trace_report.specs.declared.status.Status.TheVariants.{BadArguments, Refused}
use Rattle.trace_report.specs.Fault.{AreGood, IsFaultOfOne, fault_text}
use Rattle.trace_report.specs.Output.{Output, fault, image_refusal}
use Rattle.trace_report.specs.ReadStreams.{ask_of}
use Rattle.trace_commands.specs.Quiet.{IsQuietMatchOutput, IsQuietMatchOutputOf, IsQuietlyMatched}
use Rattle.trace_commands.specs.Tables.{IsImageRefused}
use Rattle.trace_commands.specs.inner.Quiet.{IsQuietlySaid}
use Rattle.trace_commands.proofs.Arguments.{quiet_is_good}

-- bad arguments are reported as such, whatever the image
asked_one : (asked : Result Perms (List ℕ)) (name image : List ℕ) (f : Fault) → asked ≡ Err (fault_text f)
    → (f ≡ Permissions) ⊎ (f ≡ Name) → IsFaultOfOne (IsQuietMatchOutputOf asked name image) f
asked_one asked name image Permissions e which = rw e refl
asked_one asked name image Name e which = rw e refl
asked_one asked name image Input e (inl h) = cc
asked_one asked name image Input e (inr h) = cc
asked_one asked name image Memory e (inl h) = cc
asked_one asked name image Memory e (inr h) = cc
asked_one asked name image (Text f) e (inl h) = cc
asked_one asked name image (Text f) e (inr h) = cc
asked_one asked name image Pattern e (inl h) = cc
asked_one asked name image Pattern e (inr h) = cc
asked_one asked name image Question e (inl h) = cc
asked_one asked name image Question e (inr h) = cc
asked_one asked name image (Compiling f) e (inl h) = cc
asked_one asked name image (Compiling f) e (inr h) = cc
asked_one asked name image (Image f) e (inl h) = cc
asked_one asked name image (Image f) e (inr h) = cc

pub in_vain : (perms name image : List ℕ) (f : Fault) → ask_of perms name ≡ Err (fault_text f) → (f ≡ Permissions) ⊎ (f ≡ Name)
    → IsFaultOfOne (IsQuietMatchOutput perms name image) f
in_vain perms name image f e which = asked_one (ask_of perms name) name image f e which

-- good arguments: the outputs that may be left are those for the permissions asked for
matched_good : (ask : Perms) (name image : List ℕ) → AreGood (IsQuietlyMatched ask name image)
matched_good ask name image output (inl (t, loaded, verdict, is, e)) = rw e (quiet_is_good verdict)
matched_good ask name image output (inr (f, first, e)) = rw e (λ bad. cc)

asked_good : (asked : Result Perms (List ℕ)) (ask : Perms) (name image : List ℕ) → asked ≡ Ok ask
    → AreGood (IsQuietMatchOutputOf asked name image)
asked_good asked ask name image e = rw e (matched_good ask name image)

pub arguments : (perms name image : List ℕ) (ask : Perms) → ask_of perms name ≡ Ok ask → AreGood (IsQuietMatchOutput perms name image)
arguments perms name image ask e = asked_good (ask_of perms name) ask name image e

asked_refused : (asked : Result Perms (List ℕ)) (ask : Perms) (name image : List ℕ) (output : Output) → asked ≡ Ok ask
    → IsImageRefused image output → IsQuietMatchOutputOf asked name image output
asked_refused asked ask name image output e h = rw e (inr h)

pub refused : (perms name image : List ℕ) (ask : Perms) (output : Output) → ask_of perms name ≡ Ok ask
    → IsImageRefused image output → IsQuietMatchOutput perms name image output
refused perms name image ask output e h = asked_refused (ask_of perms name) ask name image output e h

asked_said : (asked : Result Perms (List ℕ)) (ask : Perms) (name image : List ℕ) (result : Result Verdict Fault) → asked ≡ Ok ask
    → IsQuietlySaid (IsQuietlyMatched ask name image) result → IsQuietlySaid (IsQuietMatchOutputOf asked name image) result
asked_said asked ask name image result e h = rw e h

pub said : (perms name image name_here image_here : List ℕ) (ask : Perms) (result : Result Verdict Fault) → name_here ≡ name
    → image_here ≡ image → ask_of perms name ≡ Ok ask → IsQuietlySaid (IsQuietlyMatched ask name_here image_here) result
    → IsQuietlySaid (IsQuietMatchOutput perms name image) result
said perms name image name_here image_here ask result n i e h = asked_said (ask_of perms name) ask name image result e (rw (n, i) at h)
