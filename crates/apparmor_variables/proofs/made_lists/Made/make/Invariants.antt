-- The way leads from the name that was asked for, and what was known is known.
use Rattle.std.proofs.Common.{◌+◌, ◌-◌, ◌*◌, length, reverse}
use Rattle.apparmor_variables.specs.inner.Known.{known_in}
use Rattle.apparmor_variables.specs.inner.Way.{IsSound, IsWay, KnowsAll, made_count, variable_at, first_name}
use Rattle.apparmor_variables.proofs.made_lists.Made.make.Given as goal

abbrev pub ghost-enter : goal.ghost-enter
ghost-enter a = a.name.now

abbrev pub ghost-advance : goal.ghost-advance
ghost-advance a = first_name a.declared.now (reverse a.way.now.items) (variable_at a.declared.now a.step.variable).name

abbrev pub invariant-loop-step : goal.invariant-loop-step
invariant-loop-step l = record {
  sound : IsSound l.declared l.self;
  way : IsWay l.declared l.self.lists.items l.self.met.items l.name (reverse l.way.items);
  more : KnowsAll (known_in l.declared l.fn.self.lists.items) (known_in l.declared l.self.lists.items);
}

abbrev pub decreases-loop-step : goal.decreases-loop-step
decreases-loop-step l = (length l.declared - made_count l.self.lists.items) *
    (length l.declared + 1) + (length l.declared - length l.way.items)
