use Rattle.std.proofs.Common.{◌≡◌, ℕ, List, Ok, Err, sym, ap, ◌∙◌}
use Rattle.apparmor_rules.specs.declared.subject.Subject.{Subject}
use Rattle.import_profile.specs.Imports.{Outcome}
use Rattle.trace_import.specs.declared.account.AccountChoice.{AccountChoice}
use Rattle.trace_import.specs.Import.{import_output}
use Rattle.trace_report.specs.Output.{Output}
use Rattle.trace_report.specs.declared.status.Status.{Status}
use Rattle.trace_report.specs.declared.status.Status.TheVariants.{Done, Refused}
use Rattle.trace_import.proofs.laws.imports_end_as_their_outcome.Goals as goal

-- what was written has the status of the one outcome
status_of : (account : AccountChoice) (chosen : Subject) (text : List ℕ) (outcome one : Outcome) (output : Output) (status : Status) →
    outcome ≡ one → output ≡ import_output account chosen text outcome
    → output.status ≡ status → (import_output account chosen text one).status ≡ status
status_of account chosen text outcome one output status e is ends =
    sym (ap (λ (o : Outcome). (import_output account chosen text o).status) e) ∙ sym (ap (λ (o : Output). o.status) is) ∙ ends

pub returns-clause-refused_as_done : goal.returns-clause-refused_as_done
returns-clause-refused_as_done c account options text streams fault only (output, (outcome, imports, is), written) =
    let e : Refused ≡ Done =
    status_of account options.subject text outcome (Err fault) output Done (only outcome imports) is written.ends in cc

pub returns-clause-profile_as_refused : goal.returns-clause-profile_as_refused
returns-clause-profile_as_refused c account options text streams value only (output, (outcome, imports, is), written) =
    let e : Done ≡ Refused =
    status_of account options.subject text outcome (Ok value) output Refused (only outcome imports) is written.ends in cc
