-- What a keeper reports about a change that it tested holds for the machine.
use Rattle.std.proofs.Common.{◌≡◌, ℕ, length, None, refl, ap, ◌∙◌}
use Rattle.std.specs.Prelude.{Result, Ok, Err}
use Rattle.names.specs.declared.errors.Errno.{Errno}
use Rattle.directory_tree.specs.declared.change.Change.{Change}
use Rattle.row_rule.specs.Row.{left_of}
use Rattle.row_rule.specs.Steps.{opening}
use Rattle.row_keeper.specs.KeeperSteps as keeper
use Rattle.event_machine.specs.Machine.{Machine, with_keeper}
use Rattle.event_machine.specs.Lawful.{IsTested}

pub tests : (m : Machine) (change : Change) (told : Result ℕ Errno) → keeper.IsTested m.capacity m.keeper change told →
    IsTested m change told
tests m change (Ok count) ((new, (plan, (shut, planned, encodes), is)), long) = (
  (None, with_keeper m (opening m.keeper change plan), (plan, shut, planned, encodes, refl)),
  λ after (other, shut', planned', encodes', is').
      ap (λ (x : Machine). length (left_of x.keeper.pending)) is' ∙ long (opening m.keeper change other)
      (other, (shut', planned', encodes'), refl),
)
tests m change (Err errno) told = told
