-- How quiet commands end that reported a fault.
use Rattle.std.proofs.Common.{◌≡◌, ◌≢◌, ℕ, List, Option, sym}
use Rattle.trace_report.specs.declared.fault.Fault.{Fault}
use Rattle.trace_report.specs.declared.fault.Fault.TheVariants.{Permissions, Name, Pattern, Text, Compiling, Image, Question}
use Rattle.trace_report.specs.declared.fault.Fault.TheVariants.{Input, Memory}
use Rattle.trace_report.specs.declared.status.Status.{Status}
use Rattle.trace_report.specs.declared.status.Status.TheVariants.{BadArguments}
use Rattle.trace_report.specs.Fault.{AreGood, IsFaultOf, IsFaultOfAnswer, IsFaultOfOne, fault_status, fault_text}
use Rattle.trace_report.specs.Output.{Output}
use Rattle.trace_report.specs.Streams.{EndsAnswered, IsTold, streams}
use Rattle.trace_report.specs.laws.Endings.{answered_told}

-- of one output, whose arguments are good
good_one : (output : Output) → output.status ≢ BadArguments → AreGood (λ o. o ≡ output)
good_one output good o e = rw e good

-- a fault of a command is one of a question
of_one : (output : Output) (f : Fault) → IsFaultOf output f → IsFaultOfAnswer (λ o. o ≡ output) f
of_one output Permissions of = sym of
of_one output Name of = sym of
of_one output Pattern of = sym of
of_one output (Text f) of = sym of
of_one output (Compiling f) of = sym of
of_one output (Image f) of = sym of
of_one output Question of = sym of
of_one output Input of = good_one output of
of_one output Memory of = tt

of_several : (Wanted : Output → Type 0) (f : Fault) → IsFaultOfOne Wanted f → IsFaultOfAnswer Wanted f
of_several Wanted Permissions of = of
of_several Wanted Name of = of
of_several Wanted Pattern of = of
of_several Wanted (Text f) of = of
of_several Wanted (Compiling f) of = of
of_several Wanted (Image f) of = of
of_several Wanted Question of = of
of_several Wanted Input of = of
of_several Wanted Memory of = tt

pub quietly_told : (answers before after : Option (List ℕ)) (output : Output) (f : Fault) (status : Status) → IsFaultOf output f
    → IsTold before after (fault_text f) (fault_status f) status
    → EndsAnswered (streams answers answers before after) (λ o. o ≡ output) status
quietly_told answers before after output f status of told =
    answered_told answers before after (λ o. o ≡ output) f status (of_one output f of) told

pub one_quietly_told : (answers before after : Option (List ℕ)) (Wanted : Output → Type 0) (f : Fault) (status : Status)
    → IsFaultOfOne Wanted f → IsTold before after (fault_text f) (fault_status f) status
    → EndsAnswered (streams answers answers before after) Wanted status
one_quietly_told answers before after Wanted f status of told =
    answered_told answers before after Wanted f status (of_several Wanted f of) told
