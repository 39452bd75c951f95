use Rattle.std.proofs.Common.{◌≡◌, ℕ, true, false, List, Vec, Global, get_or, sym, ap, ◌∙◌, append-nil, ◌++◌}
use Rattle.names.specs.declared.permissions.Permission.{Permission}
use Rattle.names.specs.declared.permissions.Permission.TheVariants.{Read}
use Rattle.names.specs.Permissions.{all_permissions, has}
use Rattle.rule_profile.specs.Profile.{profile_value}
use Rattle.trace_test.specs.Questions.{reason_part}
use Rattle.trace_test.proofs.ReasonParts.{step}
use Rattle.trace_test.proofs.reasons.put_reasons.Goals as goal
use Rattle.trace_test.proofs.reasons.put_reasons.Goals.{then-contains+in_ok-put_part, else-contains}

pub loop-permission-preserved : goal.loop-permission-preserved
loop-permission-preserved c =
    let f : Permission → List ℕ = reason_part (profile_value c.args.profile.now).rules c.args.name.now in
    let i : ℕ = c.loop-permission.permission-index in
    elim c.if-contains.branch [
      | then-contains+in_ok-put_part w ↦
          let p : Permission = get_or all_permissions i Read in
          step f (has c.args.ask) all_permissions i Read true c.args.line.now.items c.loop-permission.line.items
          c.if-contains.line.items c.loop-permission-test.true (sym w.if-contains.true ∙ c.contains.ensures)
          c.loop-permission.invariant
          (ap (λ (v : Vec ℕ Global). v.items) w.line-is ∙ w.in_ok-put_part.ensures
          ∙ ap (λ (x : List ℕ). c.loop-permission.line.items ++ x) (sym (append-nil (f p))))
      | else-contains w ↦
          step f (has c.args.ask) all_permissions i Read false c.args.line.now.items c.loop-permission.line.items
          c.if-contains.line.items c.loop-permission-test.true (sym w.if-contains.false ∙ c.contains.ensures)
          c.loop-permission.invariant
          (ap (λ (v : Vec ℕ Global). v.items) w.line-is ∙ sym (append-nil c.loop-permission.line.items))
    ]
