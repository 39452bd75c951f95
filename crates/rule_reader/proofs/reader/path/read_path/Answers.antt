-- What is read is valid where it is.
use Rattle.rule_globs.specs.Tokens.{tokens_of}
use Rattle.rule_reader.proofs.ReadStands.{read_stands}
use Rattle.rule_reader.proofs.reader.path.read_path.Goals as goal

pub returns-in-Ok-items_of-clause-stand : goal.returns-in-Ok-items_of-clause-stand
returns-in-Ok-items_of-clause-stand c =
    read_stands c.deref.result.now (tokens_of c.in-Ok-items_of.items.items) c.in-Ok-items_of.rest.now c.in-Ok-items_of.ensures.gives
