-- A group's tokens with its last alternative, and that all its items are full.
use Rattle.std.proofs.Common.{ap}
use Rattle.std.specs.Result.{is_ok}
use Rattle.rule_reader.proofs.TokenSteps.{group_closes, full_group}
use Rattle.rule_reader.proofs.reader.builder.Builder.close_group.Goals as goal

pub invariant_of-self-in-Some : goal.invariant_of-self-in-Some
invariant_of-self-in-Some c = record {
  full = full_group c.in-Some.group c.args.self.now.items.items c.replace-items.new.dest.items c.push-in-Some.new.self.items
      c.replace-items.result c.push.new.self (is_ok c.push-in-Some.result) (ap (λ v. v.items) c.replace-items.ensures.value)
      c.in_ok-push.ensures.items (ap (λ v. v.items) c.replace-items.ensures.after) c.push-in-Some.ensures.items c.args.self.now.full;
}

pub returns-in_ok-push-2-clause-tokens : goal.returns-in_ok-push-2-clause-tokens
returns-in_ok-push-2-clause-tokens c _ =
    group_closes c.args.self.now.groups.items c.pop.new.self.items c.in-Some.group c.args.self.now.items.items
    c.replace-items.new.dest.items c.push-in-Some.new.self.items c.replace-items.result c.push.new.self c.in-Some.ensures.items
    (ap (λ v. v.items) c.replace-items.ensures.value) c.in_ok-push.ensures.items (ap (λ v. v.items) c.replace-items.ensures.after)
    c.in_ok-push-2.ensures.items
