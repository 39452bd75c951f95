use Rattle.rule_writer.proofs.Canon as canon
use Rattle.rule_writer.proofs.laws.canonical_texts_are_read.Goals as goal

pub returns-clause-again : goal.returns-clause-again
returns-clause-again c = canon.again c.profiles_can_be_read.ensures.read

pub returns-clause-readable : goal.returns-clause-readable
returns-clause-readable c = canon.readable_iff c.profiles_can_be_read.ensures.read

pub returns-clause-apart : goal.returns-clause-apart
returns-clause-apart c = canon.canon_apart c.profiles_can_be_read.ensures.read c.one_outcome.ensures.one_profile
