use Rattle.rule_writer.proofs.CanonRules as canon
use Rattle.rule_writer.proofs.laws.rule_texts_are_read.Goals as goal

pub returns-clause-again : goal.returns-clause-again
returns-clause-again c = canon.text_again

pub returns-clause-line : goal.returns-clause-line
returns-clause-line c = canon.line_of_text
