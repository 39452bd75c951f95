use Rattle.std.proofs.Common.{rules}
use Rattle.rule_reader.specs.ReadHeader.{header_at}
use Rattle.rule_reader.proofs.reader.header.header_of.Goals as goal

pub returns-then-eq : goal.returns-then-eq
unfolding header_at
returns-then-eq c = let h = c.named_header_of.ensures c.args.bytes.now c.in-Some.ensures.some.1 in search rules
