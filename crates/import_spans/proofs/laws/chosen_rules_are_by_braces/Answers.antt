use Rattle.import_spans.proofs.ByBraces.{chosen_by_braces}
use Rattle.import_spans.proofs.laws.chosen_rules_are_by_braces.Goals as goal

pub returns : goal.returns
returns c = chosen_by_braces
