-- The outcomes of bad arguments and of good ones, whatever is read.
use Rattle.std.proofs.Common.{◌≡◌, ◌≢◌, ◌⊎◌, ℕ, List, Result, Ok, Err, refl, inl, inr}
use Rattle.names.specs.declared.permissions.Perms.{Perms}
use Rattle.names.specs.declared.verdict.Verdict.{Verdict}
use Rattle.names.specs.declared.verdict.Verdict.TheVariants.{Allowed, Denied, NoRule}
use Rattle.rule_globs.specs.PlainVerdict.{verdict}
use Rattle.rule_profile.specs.Profile.{ProfileValue}
use Rattle.rule_reader.specs.declared.fault.ReadFault.{ReadFault}
use Rattle.rule_reader.specs.ReadText.{outcome_of}
use Rattle.trace_report.specs.declared.format.Format.{Format}
use Rattle.trace_report.specs.declared.status.Status.TheVariants.{BadArguments}
use Rattle.trace_report.specs.declared.fault.Fault.{Fault}
use Rattle.trace_report.specs.declared.fault.Fault.TheVariants.{Permissions, Name, Pattern, Text, Compiling, Image, Question}
use Rattle.trace_report.specs.declared.fault.Fault.TheVariants.{Input, Memory}
use Rattle.trace_report.specs.Fault.{fault_text, IsFaultOf}
use Rattle.trace_commands.specs.Judge.{verdict_output, judge_output}
use Rattle.trace_report.specs.ReadStreams.{ask_of}
use Rattle.trace_commands.specs.Quiet.{quiet_judge_output, quiet_output, quiet_verdict_output}
use Rattle.trace_report.specs.Output.{Output, fault}

-- what reports bad arguments
refused_as : (output : Output) (f : Fault) → output ≡ fault (fault_text f) BadArguments → (f ≡ Permissions) ⊎ (f ≡ Name)
    → IsFaultOf output f
refused_as output Permissions e which = e
refused_as output Name e which = e
refused_as output Input e (inl p) = cc
refused_as output Input e (inr p) = cc
refused_as output Memory e (inl p) = cc
refused_as output Memory e (inr p) = cc
refused_as output (Text f) e (inl p) = cc
refused_as output (Text f) e (inr p) = cc
refused_as output Pattern e (inl p) = cc
refused_as output Pattern e (inr p) = cc
refused_as output Question e (inl p) = cc
refused_as output Question e (inr p) = cc
refused_as output (Compiling f) e (inl p) = cc
refused_as output (Compiling f) e (inr p) = cc
refused_as output (Image f) e (inl p) = cc
refused_as output (Image f) e (inr p) = cc

-- bad arguments are reported as such, whatever the text
pub asked_in_vain : (format : Format) (perms name text : List ℕ) (f : Fault) → ask_of perms name ≡ Err (fault_text f)
    → (f ≡ Permissions) ⊎ (f ≡ Name)
    → IsFaultOf (judge_output format perms name text) f
asked_in_vain format perms name text f e which = refused_as (judge_output format perms name text) f (rw (e, judge_output) refl) which

pub quietly_in_vain : (perms name text : List ℕ) (f : Fault) → ask_of perms name ≡ Err (fault_text f) → (f ≡ Permissions) ⊎ (f ≡ Name)
    → IsFaultOf (quiet_judge_output perms name text) f
quietly_in_vain perms name text f e which = refused_as (quiet_judge_output perms name text) f (rw (e, quiet_judge_output) refl) which

-- good arguments aren't reported as bad ones
judged_status : (format : Format) (ask : Perms) (name : List ℕ) (outcome : Result ProfileValue ReadFault) →
    (verdict_output format ask name outcome).status ≢ BadArguments
judged_status format ask name (Ok profile) = λ e. cc
judged_status format ask name (Err f) = λ e. cc

good_arguments : (format : Format) (perms name text : List ℕ) (ask : Perms) → ask_of perms name ≡ Ok ask →
    (judge_output format perms name text).status ≢ BadArguments
good_arguments format perms name text ask e = rw (e, judge_output) (judged_status format ask name (outcome_of text))

pub quiet_is_good : (v : Verdict) → (quiet_output v).status ≢ BadArguments
quiet_is_good Allowed = λ e. cc
quiet_is_good (Denied rule) = λ e. cc
quiet_is_good (NoRule missing) = λ e. cc

quiet_status : (ask : Perms) (name : List ℕ) (outcome : Result ProfileValue ReadFault) →
    (quiet_verdict_output ask name outcome).status ≢ BadArguments
quiet_status ask name (Ok profile) = quiet_is_good (verdict profile.rules name ask)
quiet_status ask name (Err f) = λ e. cc

good_quiet_arguments : (perms name text : List ℕ) (ask : Perms) → ask_of perms name ≡ Ok ask →
    (quiet_judge_output perms name text).status ≢ BadArguments
good_quiet_arguments perms name text ask e = rw (e, quiet_judge_output) (quiet_status ask name (outcome_of text))

-- a fault that hides the text says only that the arguments are good
unread_as : (output : Output) (f : Fault) → output.status ≢ BadArguments → (f ≡ Input) ⊎ (f ≡ Memory) → IsFaultOf output f
unread_as output f good (inl h) = rw h good
unread_as output f good (inr h) = rw h good

pub unread : (format : Format) (perms name text : List ℕ) (ask : Perms) (f : Fault) → ask_of perms name ≡ Ok ask
    → (f ≡ Input) ⊎ (f ≡ Memory)
    → IsFaultOf (judge_output format perms name text) f
unread format perms name text ask f e why =
    unread_as (judge_output format perms name text) f (good_arguments format perms name text ask e) why

pub quietly_unread : (perms name text : List ℕ) (ask : Perms) (f : Fault) → ask_of perms name ≡ Ok ask → (f ≡ Input) ⊎ (f ≡ Memory)
    → IsFaultOf (quiet_judge_output perms name text) f
quietly_unread perms name text ask f e why =
    unread_as (quiet_judge_output perms name text) f (good_quiet_arguments perms name text ask e) why
