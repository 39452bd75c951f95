-- A place of a text as it is written: `LINE:COLUMN` (our own).
use Rattle.std.specs.Prelude.{ℕ, List, ◌++◌, codes, decimal}
use Rattle.rule_explain.specs.declared.place.Place.{Place}

abbrev pub place_text : Place → List ℕ
place_text place = decimal place.line ++ (codes ":" ++ decimal place.column)
