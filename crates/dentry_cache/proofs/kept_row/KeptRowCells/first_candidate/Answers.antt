use Rattle.dentry_cache.proofs.Tallied.{none_before_first, none_at_all}
use Rattle.dentry_cache.proofs.kept_row.KeptRowCells.first_candidate.Goals as goal

pub returns-in-Some-clause-past : goal.returns-in-Some-clause-past
returns-in-Some-clause-past c = (c.in-Some.ensures _ _ c.self.invariant.1).free.past_root

pub returns-in-Some-clause-none_before : goal.returns-in-Some-clause-none_before
returns-in-Some-clause-none_before c =
    none_before_first c.self.inside.seat c.self.inside.capacity _ c.self.view_is _ (c.in-Some.ensures _ _ c.self.invariant.1)

pub returns-in-None-clause-none_before : goal.returns-in-None-clause-none_before
returns-in-None-clause-none_before c =
    none_at_all c.self.inside.seat c.self.inside.capacity _ c.self.view_is (c.in-None.ensures _ _ c.self.invariant.1)
