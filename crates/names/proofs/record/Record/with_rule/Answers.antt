use Rattle.std.proofs.Common.{rules}
use Rattle.names.specs.Hits.{hits_after}
use Rattle.names.proofs.record.Record.with_rule.Goals as goal

pub returns : goal.returns
returns c = c.of_each.ensures (hits_after c.args.self.now c.args.kind c.args.perms c.args.number) (λ p hits post. search rules)
