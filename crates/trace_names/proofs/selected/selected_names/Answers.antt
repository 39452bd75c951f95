use Rattle.std.proofs.Common.{◌++◌, ◌∙◌, ap, append-nil, refl, sym}
use Rattle.std.specs.List.{flat_map}
use Rattle.matcher.specs.Profiles.{rules_of}
use Rattle.rule_globs.specs.PlainVerdict.{verdict}
use Rattle.trace_names.specs.Choices.{end_byte, is_selected}
use Rattle.trace_names.specs.NameLists.{names_of}
use Rattle.trace_names.specs.Names.{name_text}
use Rattle.trace_names.specs.inner.Written.{judged_text}
use Rattle.trace_names.proofs.Selections.{texts_of_passing}
use Rattle.trace_names.proofs.selected.selected_names.Goals as goal

pub returns : goal.returns
returns c =
    let choice = c.args.choice in
    let rules = rules_of c.args.profile.now in
    let end = end_byte choice.end in
    sym (append-nil c.loop-name.text.items)
    ∙ ap (λ rest. c.loop-name.text.items ++ flat_map (judged_text choice rules c.args.ask) (names_of end rest))
    (sym (c.in_default.ensures.none refl))
    ∙ c.loop-name.invariant
    ∙ sym (texts_of_passing (λ name. is_selected choice.selection (verdict rules name c.args.ask))
    (λ name. name_text choice name (verdict rules name c.args.ask)) (names_of end c.args.list.now))
