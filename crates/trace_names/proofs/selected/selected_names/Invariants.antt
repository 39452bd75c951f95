-- What was written of the names before the rest, and what is to be written of the rest.
use Rattle.std.proofs.Common.{◌≡◌, ◌++◌, length}
use Rattle.std.specs.List.{flat_map}
use Rattle.matcher.specs.Profiles.{rules_of}
use Rattle.trace_names.specs.Choices.{end_byte}
use Rattle.trace_names.specs.NameLists.{names_of}
use Rattle.trace_names.specs.inner.Written.{judged_text}
use Rattle.trace_names.proofs.selected.selected_names.Given as goal

abbrev pub invariant-loop-name : goal.invariant-loop-name
invariant-loop-name l =
    l.text.items ++ flat_map (judged_text l.choice (rules_of l.profile) l.ask) (names_of (end_byte l.choice.end) l.rest)
    ≡ flat_map (judged_text l.choice (rules_of l.profile) l.ask) (names_of (end_byte l.choice.end) l.list)

abbrev pub decreases-loop-name : goal.decreases-loop-name
decreases-loop-name l = length l.rest
