use Rattle.std.proofs.Common.{append_assoc, rules}
use Rattle.trace_test.proofs.compose.count_sentence.Goals as goal

pub returns : goal.returns
returns c = simp append_assoc (search rules)
