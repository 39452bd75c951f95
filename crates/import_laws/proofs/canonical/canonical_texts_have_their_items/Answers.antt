use Rattle.import_laws.proofs.ItemsRead.{reads_canonical}
use Rattle.import_laws.proofs.canonical.canonical_texts_have_their_items.Goals as goal

pub returns : goal.returns
returns c = reads_canonical
