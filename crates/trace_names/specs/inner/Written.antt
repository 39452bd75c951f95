-- What is written of one name.
use Rattle.std.specs.Prelude.{ℕ, List, [], if◌then◌else◌}
use Rattle.names.specs.declared.permissions.Perms.{Perms}
use Rattle.rule_globs.specs.PlainVerdict.{verdict}
use Rattle.rule_profile.specs.Profile.{RuleValue}
use Rattle.trace_names.specs.Choices.{is_selected}
use Rattle.trace_names.specs.Names.{name_text}
use Rattle.trace_names.specs.declared.choice.NamesChoice.{NamesChoice}

-- the name, if its verdict is one that is chosen
abbrev pub judged_text : NamesChoice → List RuleValue → Perms → List ℕ → List ℕ
judged_text choice rules ask name = if is_selected choice.selection (verdict rules name ask)
    then name_text choice name (verdict rules name ask)
    else []
