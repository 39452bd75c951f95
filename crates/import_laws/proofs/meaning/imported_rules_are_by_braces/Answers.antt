use Rattle.import_laws.proofs.ByBraces.{rules_by_braces}
use Rattle.import_laws.proofs.meaning.imported_rules_are_by_braces.Goals as goal

pub returns : goal.returns
returns c variables choice = rules_by_braces variables choice (λ reading. c.chosen_rules_are_by_braces.ensures reading choice)
