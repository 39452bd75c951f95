use Rattle.trace_script.proofs.LineTexts.{lines_again}
use Rattle.trace_script.proofs.laws.lines_are_the_text.Goals as goal

pub returns : goal.returns
returns c = lines_again
