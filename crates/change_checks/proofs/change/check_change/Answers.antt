use Rattle.std.proofs.Common.{sym, subst}
use Rattle.std.specs.Prelude.{IfErr}
use Rattle.directory_tree.specs.declared.change.Change.{Change}
use Rattle.directory_tree.specs.Apply.{apply, has_room}
use Rattle.path_lookup.specs.WalkFaults.{IsFault}
use Rattle.change_checks.proofs.change.check_change.Goals as goal

pub returns-in-Symlink-clause-fault : goal.returns-in-Symlink-clause-fault
returns-in-Symlink-clause-fault g c =
    let look = c.check_symlink.new.look in
    subst (λ (x : Change). IfErr c.check_symlink.result (IsFault (g.L.Look.lacks look) (g.L.Look.sees look)
    (λ w. apply w.tree (has_room (g.L.ChangeLook.capacity look) w.tree) x)))
    (sym c.in-Symlink.is) c.check_symlink.ensures.fault
