use Rattle.std.proofs.Common.{sym, ap, ◌∙◌, ◌++◌, ◌∷◌, []}
use Rattle.names.specs.Permissions.{all_permissions, has}
use Rattle.rule_writer.specs.laws.CanonWrites.{letter_added, no_letter_added}
use Rattle.rule_writer.proofs.writer.put_perms.Goals.{then-contains+in_ok-put, else-contains}
use Rattle.rule_writer.proofs.writer.put_perms.Goals as goal

pub loop-permission-preserved : goal.loop-permission-preserved
loop-permission-preserved c = elim c.if-contains.branch [
  | then-contains+in_ok-put w ↦ ap (λ x. x.items) w.text-is ∙ letter_added (has c.args.perms) all_permissions
      c.loop-permission.permission-index _ c.args.text.now.items c.loop-permission.text.items w.put.new.text.items
      c.loop-permission-test.true (sym c.contains.ensures ∙ w.if-contains.true) c.loop-permission.invariant
      (w.in_ok-put.ensures ∙ ap (λ x. c.loop-permission.text.items ++ x ∷ []) w.letter.ensures)
  | else-contains w ↦ ap (λ x. x.items) w.text-is ∙ no_letter_added (has c.args.perms) all_permissions c.loop-permission.permission-index
      _ c.args.text.now.items c.loop-permission.text.items c.loop-permission-test.true (sym c.contains.ensures ∙ w.if-contains.false)
      c.loop-permission.invariant
]
