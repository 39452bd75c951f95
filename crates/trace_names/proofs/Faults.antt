-- Faults that are reported in place of names.
use Rattle.std.proofs.Common.{◌≡◌, ◌≢◌, ◌⊎◌, ℕ, List, Option, Some, None, Result, Ok, Err, refl, sym, subst, inl, inr, IfSome}
use Rattle.std.specs.Io.KnownBytes.{Keeps}
use Rattle.std.specs.Prelude.{codes}
use Rattle.matcher.specs.declared.fault.MakeFault.TheVariants.{TooManyStates}
use Rattle.matcher.specs.declared.compiled.CompiledProfile.{CompiledProfile}
use Rattle.names.specs.declared.permissions.Perms.{Perms}
use Rattle.rule_profile.specs.Profile.{ProfileValue}
use Rattle.rule_reader.specs.ReadText.{outcome_of}
use Rattle.rule_reader.specs.declared.fault.ReadFault.{ReadFault}
use Rattle.trace_names.specs.Names.{IsNamesOutput, IsNamesOutputFor, IsNamesOutputOf, IsRefusedOutcome, IsRefusedText}
use Rattle.trace_names.specs.inner.Answers.{IsCompiledText}
use Rattle.trace_names.specs.declared.choice.NamesChoice.{NamesChoice}
use Rattle.trace_report.specs.Fault.{AreGood, IsFaultOfOne}
use Rattle.trace_report.specs.Output.{Output, compile_refusal, fault, refusal, whole_answer}
use Rattle.trace_report.specs.ReadStreams.{asked_by}
use Rattle.trace_report.specs.declared.fault.Fault.{Fault}
use Rattle.trace_report.specs.declared.fault.Fault.TheVariants.{Permissions, Input, Memory}
use Rattle.trace_report.specs.declared.status.Status.TheVariants.{BadArguments, Refused}

-- answers and refusals don't report bad arguments
not_bad : (output : Output) (bytes : List ℕ) → output ≡ whole_answer bytes → output.status ≢ BadArguments
not_bad output bytes e = rw e (λ bad. cc)

refused : (output : Output) (text : List ℕ) → output ≡ fault text Refused → output.status ≢ BadArguments
refused output text e = rw e (λ bad. cc)

module _ (choice : NamesChoice) (list : List ℕ) where
  good_of : (ask : Perms) (outcome : Result ProfileValue ReadFault) → AreGood (IsNamesOutputOf choice ask list outcome)
  good_of ask (Err f) output e = refused output (refusal f) e
  good_of ask (Ok profile) output (inl over) = refused output (compile_refusal TooManyStates) over.1
  good_of ask (Ok profile) output (inr made) = not_bad output _ made.1

  module _ (perms text : List ℕ) where
    pub good_arguments : (ask : Perms) → asked_by perms ≡ Some ask → AreGood (IsNamesOutput choice perms text list)
    good_arguments ask e = subst (λ (asked : Option Perms). AreGood (IsNamesOutputFor choice asked text list)) (sym e)
        (good_of ask (outcome_of text))

    -- bad permissions are reported as such, whatever would be read
    pub asked_in_vain : (f : Fault) → asked_by perms ≡ None → f ≡ Permissions → IsFaultOfOne (IsNamesOutput choice perms text list) f
    asked_in_vain f none is = subst (IsFaultOfOne (IsNamesOutput choice perms text list)) (sym is)
        (subst (λ (asked : Option Perms). IsNamesOutputFor choice asked text list (fault (codes "bad permissions") BadArguments))
        (sym none) refl)

    -- a failed read hides what it would have read
    pub unread : (ask : Perms) (f : Fault) → asked_by perms ≡ Some ask → (f ≡ Input) ⊎ (f ≡ Memory) →
        IsFaultOfOne (IsNamesOutput choice perms text list) f
    unread ask f e (inl is) = subst (IsFaultOfOne (IsNamesOutput choice perms text list)) (sym is) (good_arguments ask e)
    unread ask f e (inr is) = subst (IsFaultOfOne (IsNamesOutput choice perms text list)) (sym is) (good_arguments ask e)

    -- a fault of the text is reported in place of each list
    pub uncompiled : (ask : Perms) (f : Fault) → asked_by perms ≡ Some ask
        → IsFaultOfOne (IsNamesOutputOf choice ask list (outcome_of text)) f → IsFaultOfOne (IsNamesOutput choice perms text list) f
    uncompiled ask f e h =
        subst (λ (asked : Option Perms). IsFaultOfOne (IsNamesOutputFor choice asked text list) f) (sym e) h

-- ---- what is read of the list

module _ (text : List ℕ) (compiled : CompiledProfile) (made : IsCompiledText text (Ok compiled)) where
  unrefused : IsRefusedText text → ⊥
  unrefused refused = made.1 (subst IsRefusedOutcome made.0 refused)

  -- where a profile was compiled of the text, the text isn't refused, so the list may be read
  pub read_rightly : (left before after : Option (List ℕ)) → IfSome left (λ (known : List ℕ). text ≡ known)
      → IfSome left (λ (known : List ℕ). IsRefusedText known → Keeps before after)
  read_rightly None before after same = tt
  read_rightly (Some known) before after same = λ refused. absurd (unrefused (subst IsRefusedText (sym same) refused))
