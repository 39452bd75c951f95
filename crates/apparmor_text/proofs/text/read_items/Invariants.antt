-- The items so far, and those that are read from here on, are those of the text; no more profiles are open than bytes were read.
use Rattle.std.proofs.Common.{◌≤◌, ◌+◌, ◌++◌, List, Option, length}
use Rattle.apparmor_text.specs.Parts.{ItemValue}
use Rattle.apparmor_words.specs.Steps.{Stop}
use Rattle.apparmor_text.specs.Readings.{}
use Rattle.apparmor_text.specs.Texts.{ReadsFrom, at_start}
use Rattle.apparmor_text.proofs.text.read_items.Given as goal

abbrev pub invariant-loop-rest : goal.invariant-loop-rest
invariant-loop-rest l = record {
  so_far : (others : List ItemValue) (end : Option Stop) → ReadsFrom l.position l.rest others end →
      ReadsFrom at_start l.text (l.items.items ++ others) end;
  few : l.position.depth + length l.rest ≤ length l.text;
}

abbrev pub decreases-loop-rest : goal.decreases-loop-rest
decreases-loop-rest l = length l.rest
