-- The tokens that were read are those of items, whose led paths match the same names.
use Rattle.import_profile.proofs.ImportLaws.{imported_same}
use Rattle.import_profile.proofs.path_laws.imported_paths_take_the_same.Goals as goal

pub returns : goal.returns
returns c = imported_same
