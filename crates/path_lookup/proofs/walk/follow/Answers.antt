use Rattle.std.proofs.Common.{◌∙◌, sym, ap}
use Rattle.std.specs.Prelude.{if◌then◌else◌}
use Rattle.directory_tree.specs.Walk.Spot.{Root}
use Rattle.path_lookup.proofs.walk.follow.Goals as goal

pub returns-then-branch-clause-text : goal.returns-then-branch-clause-text
returns-then-branch-clause-text g c = λ w text seen kind.
    let put = c.in_ok-put_text_of.ensures.text w text seen kind in (
      put.0,
      c.root.ensures.root w seen
          ∙ sym (ap (λ b. if b then Root else g.L.Look.means c.args.directory w) (put.1 ∙ c.if-branch.true)),
    )

pub returns-else-branch-clause-text : goal.returns-else-branch-clause-text
returns-else-branch-clause-text g c = λ w text seen kind.
    let put = c.in_ok-put_text_of.ensures.text w text seen kind in (
      put.0,
      sym (ap (λ b. if b then Root else g.L.Look.means c.args.directory w) (put.1 ∙ c.if-branch.false)),
    )
