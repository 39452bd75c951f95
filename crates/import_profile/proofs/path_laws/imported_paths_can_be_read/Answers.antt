-- All of them pass both tests.
use Rattle.std.proofs.lemmas.List.Sums.{AllPass-from_list_all}
use Rattle.rule_profile.specs.Readable.{is_path}
use Rattle.import_profile.specs.ImportedPaths.{imported_paths}
use Rattle.import_profile.specs.Settled.{is_settled}
use Rattle.import_profile.proofs.ImportLaws.{imported_readable, imported_settled}
use Rattle.import_profile.proofs.path_laws.imported_paths_can_be_read.Goals as goal

pub returns-clause-readable : goal.returns-clause-readable
returns-clause-readable c text = AllPass-from_list_all is_path (imported_paths text) (imported_readable text)

pub returns-clause-settled : goal.returns-clause-settled
returns-clause-settled c text = AllPass-from_list_all is_settled (imported_paths text) (imported_settled text)
