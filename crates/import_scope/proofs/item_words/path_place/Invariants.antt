-- What comes before the parts that are left, and what comes before the word in them.
use Rattle.std.proofs.Common.{◌≡◌, ◌+◌, drop}
use Rattle.apparmor_rules.specs.RuleWords.{is_path}
use Rattle.import_scope.specs.ItemWords.{bytes_before}
use Rattle.import_scope.proofs.item_words.path_place.Given as goal

abbrev pub invariant-loop-part : goal.invariant-loop-part
invariant-loop-part l = l.place + bytes_before is_path (drop l.part-index l.parts) ≡ l.before + bytes_before is_path l.parts
