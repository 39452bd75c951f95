use Rattle.std.proofs.Common.{◌≡◌, ◌++◌, ℕ, Bool, List, [], length, refl, ap, ◌∙◌}
use Rattle.std.specs.Prelude.{if◌then◌else◌}
use Rattle.std.specs.List.{list_any}
use Rattle.std.proofs.lemmas.Result.{IfOk-weaker}
use Rattle.apparmor_rules.specs.declared.subject.Subject.{Subject}
use Rattle.import_profile.specs.Imports.{ImportValue}
use Rattle.import_profile.specs.Told.{import_value}
use Rattle.trace_import.specs.Accounts.{is_told, sums, sums_line}
use Rattle.trace_import.proofs.sums.put_sums.Goals as goal

same : (chosen : Subject) (told : Bool) (rules : ℕ) (value : ImportValue) → told ≡ list_any (λ span. is_told span.kind) value.spans
    → rules ≡ length value.profile.rules → (if told then sums_line chosen rules value.spans else []) ≡ sums chosen value
same chosen told rules value e1 e2 = rw (e1, e2) refl

pub returns : goal.returns
returns c =
    IfOk-weaker c.put_asked.result _ _ (λ _ h. h ∙ ap (λ (l : List ℕ). c.args.lines.now.items ++ l)
    (same c.args.chosen c.has_told-told.result c.rule_count-rules.result (import_value c.args.imported.now) c.has_told-told.ensures
    c.rule_count-rules.ensures)) c.put_asked.ensures
