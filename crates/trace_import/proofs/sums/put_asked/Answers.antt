use Rattle.std.proofs.Common.{◌≡◌, ◌++◌, ℕ, Bool, true, List, [], refl, ap, ◌∙◌}
use Rattle.std.specs.Prelude.{if◌then◌else◌}
use Rattle.std.proofs.lemmas.Result.{IfOk-weaker}
use Rattle.apparmor_rules.specs.declared.subject.Subject.{Subject}
use Rattle.import_spans.specs.declared.span.Span.{Span}
use Rattle.import_profile.specs.Told.{import_value}
use Rattle.trace_import.specs.Accounts.{sums_line}
use Rattle.trace_import.proofs.sums.put_asked.Goals as goal

same : (chosen : Subject) (asked : Bool) (rules : ℕ) (here spans : List Span) → asked ≡ true → here ≡ spans
    → sums_line chosen rules here ≡ (if asked then sums_line chosen rules spans else [])
same chosen asked rules here spans e1 e2 = rw (e1, e2) refl

pub returns-then-asked : goal.returns-then-asked
returns-then-asked c =
    IfOk-weaker c.put_line.result _ _ (λ _ h. h ∙ ap (λ (l : List ℕ). c.args.lines.now.items ++ l)
    (same c.args.chosen c.args.asked c.args.rules c.deref.result.now (import_value c.args.imported.now).spans c.if-asked.true
    c.deref.ensures.value)) c.put_line.ensures
