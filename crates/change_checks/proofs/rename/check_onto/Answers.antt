use Rattle.std.proofs.Common.{◌≡◌, sym, ◌∙◌}
use Rattle.std.specs.Prelude.{Ok, Some}
use Rattle.directory_tree.specs.Spots.{node_at, child_of}
use Rattle.directory_tree.specs.Apply.{moved}
use Rattle.path_lookup.specs.World.{World}
use Rattle.change_checks.proofs.Faults.{fault_passed}
use Rattle.change_checks.proofs.Files.{entry_in}
use Rattle.change_checks.proofs.Replacement.{child_held, rename_refused}
use Rattle.change_checks.proofs.rename.check_onto.Goals as goal

pub returns-in_err-check_replaced-clause-fault : goal.returns-in_err-check_replaced-clause-fault
returns-in_err-check_replaced-clause-fault g c =
    let look = g.L.Look in
    let from = c.args.from.now in
    let to = c.args.to.now in
    let entry = c.args.entry in
    let other = c.args.other in
    let named : (w : World) → look.sees c.check_replaced.new.look w → look.sees c.args.look.now w =
    λ w seen. c.in_ok-node.ensures.narrows w
    (c.in_ok-node-2.ensures.narrows w (c.in_ok-goes_below.ensures.narrows w (c.in_err-check_replaced.ensures.narrows w seen))) in
    let old : (w : World) → look.sees c.check_replaced.new.look w → child_of w.tree (look.means from.directory w) from.component.now
    ≡ Some (look.means entry w) = λ w seen. c.requires.moves w (named w seen) in
    let new : (w : World) → look.sees c.check_replaced.new.look w → child_of w.tree (look.means to.directory w) to.component.now
    ≡ Some (look.means other w) = λ w seen. c.requires.onto w (named w seen) in
    fault_passed c.from_residual-in_err-check_replaced.result c.in_err-check_replaced.field-0.0 _ _ _ _
    c.from_residual-in_err-check_replaced.ensures.1 (λ w e seen h.
    let above = c.in_err-check_replaced.ensures.narrows w seen in
    let numbered = c.in_ok-goes_below.ensures.narrows w above in
    rename_refused w.tree (look.means from.directory w) (look.means to.directory w) (look.means entry w) (look.means other w)
    from.component.now to.component.now e (old w seen) (new w seen)
    (λ q. c.if-branch.false (sym (c.in_ok-node.ensures.answer w (c.in_ok-node-2.ensures.narrows w numbered)) ∙ q
    ∙ c.in_ok-node-2.ensures.answer w numbered))
    (c.in_ok-goes_below.ensures.answer w above ∙ c.if-branch-2.false) h)
    (c.in_err-check_replaced.ensures.fault (λ w. entry_in (look.means entry w)) (λ w. entry_in (look.means other w))
    (λ w. Ok (moved w.tree (node_at (look.means from.directory w)) from.component.now (node_at (look.means to.directory w))
    to.component.now))
    (λ w seen. (
      child_held w.tree (look.means from.directory w) (look.means entry w) from.component.now (old w seen),
      child_held w.tree
          (look.means to.directory w) (look.means other w) to.component.now (new w seen),
    )))
