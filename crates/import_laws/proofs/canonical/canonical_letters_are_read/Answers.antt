use Rattle.import_laws.proofs.LettersRead.{letters_read}
use Rattle.import_laws.proofs.canonical.canonical_letters_are_read.Goals as goal

pub returns : goal.returns
returns c = letters_read
