use Rattle.std.proofs.Common.{◌++◌, codes, ap, ◌∙◌}
use Rattle.names.specs.declared.permissions.Perms.{Perms}
use Rattle.import_profile.specs.AddedRules.{added_at}
use Rattle.import_profile.specs.Restated.{restated_at}
use Rattle.import_profile.proofs.Gathers.{then_so}
use Rattle.import_profile.proofs.added.push_change_of_hat.Goals as goal

pub returns : goal.returns
returns c =
    let same = ap (λ (perms : Perms). c.args.rules.now.items ++ restated_at c.args.chosen
    (added_at c.args.place perms (codes "/proc/[0-9]*/attr/{,apparmor/}current"))) c.with.ensures in
    then_so c.push_added.result (λ e. e ∙ same) c.push_added.ensures
