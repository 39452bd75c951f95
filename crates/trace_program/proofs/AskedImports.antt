-- Imports that end as their engine does, by what the words ask for.
use Rattle.std.proofs.Common.{◌≡◌, ℕ, Bool, true, false, List, inl, subst, sym}
use Rattle.import_profile.specs.declared.options.ImportOptions.{ImportOptions}
use Rattle.trace_arguments.specs.Values.{ImportValue}
use Rattle.trace_import.specs.Import.{IsImportOutput}
use Rattle.trace_import.specs.ImportAll.{IsAllOutput}
use Rattle.trace_import.specs.declared.account.AccountChoice.{AccountChoice}
use Rattle.trace_report.specs.Streams.{EndsInOne, Streams}
use Rattle.trace_report.specs.declared.status.Status.{Status}
use Rattle.trace_program.specs.Import.{AsksFor, ImportEnds, IsOutputOf, account_of}

module _ (asked : ImportValue) (account : AccountChoice) (options : ImportOptions) (text : List ℕ) (streams : Streams) (status : Status)
    (same : account ≡ account_of asked.account) (asks : AsksFor options asked.choice asked.strict) where
  ends_by : (all : Bool) → asked.all ≡ all → EndsInOne streams (IsOutputOf all account text options) status
      → ImportEnds asked text streams status
  ends_by all is ends =
      let right = subst (λ (a : AccountChoice). EndsInOne streams (IsOutputOf all a text options) status) same ends in
      inl (
        options,
        asks,
        subst (λ (b : Bool). EndsInOne streams (IsOutputOf b (account_of asked.account) text options) status) (sym is) right,
      )

  pub ends_for_all : asked.all ≡ true → EndsInOne streams (IsAllOutput account options text) status → ImportEnds asked text streams status
  ends_for_all is ends = ends_by true is ends

  pub ends_for_one : asked.all ≡ false → EndsInOne streams (IsImportOutput account options text) status
      → ImportEnds asked text streams status
  ends_for_one is ends = ends_by false is ends
