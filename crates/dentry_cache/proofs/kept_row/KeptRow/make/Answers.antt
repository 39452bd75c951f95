use Rattle.dentry_cache.proofs.KeeperParts.{knows_next}
use Rattle.dentry_cache.proofs.Tallied.{tally_made}
use Rattle.dentry_cache.proofs.kept_row.KeptRow.make.Goals as goal

pub invariant_of-self : goal.invariant_of-self
invariant_of-self c =
    let p = c.perform.ensures in (
      knows_next _ _ _ _ _ _ _ c.args.change.now c.args.plan.now _ _ c.self.invariant.0 c.self.view_is c.requires p.own p.role p.shut
          p.history p.cells c.next_after-self-inside.ensures,
      tally_made c.self.inside.seat c.perform.new.seat _ _ c.args.change.now c.args.plan.now _ _ c.self.view_is c.requires p.cells
          c.self.invariant.1 c.follow.ensures,
    )
