use Rattle.std.proofs.Common.{◌∙◌, ap}
use Rattle.std.proofs.lemmas.List.Elements.{All-filter}
use Rattle.rule_globs.specs.PlainVerdict.{verdict}
use Rattle.trace_names.specs.Choices.{end_byte, is_selected}
use Rattle.trace_names.specs.NameLists.{names_of}
use Rattle.trace_names.specs.Names.{after_name, selected}
use Rattle.trace_names.proofs.Joined.{IsEndless, names_endless, parted_again}
use Rattle.trace_names.proofs.Selections.{plain_texts}
use Rattle.trace_names.proofs.laws.written_names_are_a_list.Goals as goal

pub returns : goal.returns
returns c choice rules ask list plain =
    let end = end_byte choice.end in
    let chosen = selected choice.selection rules ask (names_of end list) in
    ap (names_of end) (plain_texts end choice.verdicts (λ name. after_name (verdict rules name ask)) chosen plain)
    ∙ parted_again end chosen (All-filter (λ name. is_selected choice.selection (verdict rules name ask)) (IsEndless end)
    (names_of end list) (names_endless end list))
