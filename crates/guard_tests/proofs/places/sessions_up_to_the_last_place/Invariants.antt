use Rattle.guard_tests.proofs.places.sessions_up_to_the_last_place.Given as goal

abbrev pub ghosts-all_places_by : goal.ghosts-all_places_by
ghosts-all_places_by g a = record { table = a.keeper.table }
