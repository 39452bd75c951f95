use Rattle.dentry_cache.proofs.KeeperParts.{kept_of, countable, full}
use Rattle.dentry_cache.proofs.kept_row.KeptRow.next.Goals as goal

pub returns-then-self-eq-MOST_CHANGES-clause-err : goal.returns-then-self-eq-MOST_CHANGES-clause-err
returns-then-self-eq-MOST_CHANGES-clause-err c = full _ _ _ (kept_of _ _ _ _ _ _ _ c.self.invariant.0 c.self.view_is)
    c.if-self-eq-MOST_CHANGES.true

pub returns-clause-ok : goal.returns-clause-ok
returns-clause-ok c = countable _ _ _ (kept_of _ _ _ _ _ _ _ c.self.invariant.0 c.self.view_is) c.if-self-eq-MOST_CHANGES.false
