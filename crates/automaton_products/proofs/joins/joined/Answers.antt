use Rattle.std.proofs.Common.{rules}
use Rattle.automaton_products.proofs.JoinedRecords.{each_hits, each_of}
use Rattle.automaton_products.proofs.joins.joined.Goals as goal

pub returns : goal.returns
returns c = c.of_each.ensures (each_hits c.args.one.now c.args.other.now) (λ p hits post. search (rules, each_of))
