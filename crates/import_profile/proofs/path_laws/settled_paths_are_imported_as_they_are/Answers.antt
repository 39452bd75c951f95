-- The canonical text is read as the path, which leads to itself.
use Rattle.std.proofs.lemmas.List.Sums.{AllPass-from_list_all}
use Rattle.rule_profile.specs.Readable.{is_path}
use Rattle.import_profile.specs.ImportedPaths.{imported_paths}
use Rattle.import_profile.specs.Settled.{is_settled}
use Rattle.import_profile.proofs.ImportLaws.{imported_readable, imported_settled, imported_as_it_is}
use Rattle.import_profile.proofs.path_laws.settled_paths_are_imported_as_they_are.Goals as goal

pub returns-clause-again : goal.returns-clause-again
returns-clause-again c text k d h =
    imported_as_it_is _ (AllPass-from_list_all is_path (imported_paths text) (imported_readable text) k d h)
    (AllPass-from_list_all is_settled (imported_paths text) (imported_settled text) k d h)

pub returns-clause-settled : goal.returns-clause-settled
returns-clause-settled c = imported_as_it_is
