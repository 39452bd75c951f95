-- What the bytes without a cell lead to, at depth 0 and over a chain.
use Rattle.std.proofs.Common.{◌∙◌, sym, ap}
use Rattle.indexmap.proofs.MapLemmas.{OnOk-map}
use Rattle.automaton_rows.specs.Automata.{target}
use Rattle.automaton_rows.specs.Rows.{target_in}
use Rattle.table_image.specs.inner.PackSteps.{without_cell}
use Rattle.table_image.proofs.OtherBytes.{others_as, leads_flat, leads_on}
use Rattle.table_image.proofs.choice.others_of.Goals as goal

pub returns-then-choice-eq0 : goal.returns-then-choice-eq0
returns-then-choice-eq0 c =
    let choice = c.args.choice in
    let a = c.args.dfa.now in
    OnOk-map c.others.result _ _
    (others_as (target_in c.row-row.result.now) (target_in c.one_range.result) (target a c.args.state)
    (without_cell a choice.default choice.depth) c.others.new.bytes.items c.others.new.targets c.row-row.ensures.targets
    (λ b small. c.one_range.ensures.target b small ∙ sym (leads_flat a choice.default choice.depth b c.if-choice-eq0.true)))
    c.others.ensures

pub returns : goal.returns
returns c =
    let choice = c.args.choice in
    let a = c.args.dfa.now in
    OnOk-map c.others-2.result _ _
    (others_as (target_in c.row-row.result.now) (target_in c.row.result.now) (target a c.args.state)
    (without_cell a choice.default choice.depth) c.others-2.new.bytes.items c.others-2.new.targets c.row-row.ensures.targets
    (λ b small. c.row.ensures.targets b small ∙ ap (λ z. target a z b) c.from.ensures
    ∙ sym (leads_on a choice.default choice.depth b c.requires.default c.if-choice-eq0.false)))
    c.others-2.ensures
