use Rattle.std.proofs.Common.{List, sym, subst}
use Rattle.apparmor_variables.specs.Variables.{Variable}
use Rattle.apparmor_variables.specs.inner.Way.{IsSound}
use Rattle.apparmor_variables.proofs.lists.Lists.set_first.Goals as goal

pub forget_first-requires : goal.forget_first-requires
forget_first-requires c = (c.self.inside.declared, c.self.invariant)

pub invariant_of-self-2 : goal.invariant_of-self-2
invariant_of-self-2 c =
    subst (λ (variables : List Variable). IsSound variables c.forget_first.new.self) (sym c.in_ok-set_first.ensures.first)
    (c.forget_first.ensures c.self.inside.declared c.self.invariant c.args.value.now)
