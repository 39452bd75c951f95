use Rattle.directory_tree.specs.Components.{steps_of}
use Rattle.directory_tree.specs.Tree.{root}
use Rattle.directory_tree.specs.Walk.{max_links}
use Rattle.directory_tree.proofs.LinkCounts.{refused_past}
use Rattle.directory_tree.proofs.laws.links.at_most_forty_links.Goals as goal

pub returns : goal.returns
returns c = λ t last text. refused_past t last max_links root (steps_of text)
