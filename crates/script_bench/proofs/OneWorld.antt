-- The one world that a plain tree sees.
use Rattle.directory_tree.specs.Plain.{Plain, tree_of}
use Rattle.directory_tree.specs.Tree.{WellFormed}
use Rattle.directory_tree.specs.Walk.{Root}
use Rattle.path_lookup.specs.World.{World}

abbrev pub one_world : ((p : Plain) → WellFormed (tree_of p)) → Plain → World
one_world well p = record { tree = tree_of p; named = λ n. Root; sound = well p }
