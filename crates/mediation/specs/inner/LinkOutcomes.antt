-- What a judged link makes of the tree, by its verdict.
use Rattle.directory_tree.specs.declared.change.Change.{Change}
use Rattle.directory_tree.specs.Plain.{Plain, changed}
use Rattle.rule_judge.specs.declared.links.LinkVerdict.{LinkVerdict}
use Rattle.rule_judge.specs.declared.links.LinkVerdict.TheVariants.{Refused, Wider, Fine}

abbrev pub settled : Plain → Change → LinkVerdict → Plain
settled plain change Fine = changed plain change
settled plain change (Refused v) = plain
settled plain change (Wider extra) = plain
