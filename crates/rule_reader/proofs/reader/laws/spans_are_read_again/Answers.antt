use Rattle.rule_reader.proofs.SpanLaws.{spans_again}
use Rattle.rule_reader.proofs.reader.laws.spans_are_read_again.Goals as goal

pub returns : goal.returns
returns c = spans_again
