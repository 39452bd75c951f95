use Rattle.std.proofs.Common.{map, sym, ◌∙◌}
use Rattle.rule_profile.specs.Profile.{rule_value}
use Rattle.rule_reader.proofs.ReadCodeText.{text_goes_on, text_done, text_is_profile}
use Rattle.rule_reader.proofs.SpanLoops.{spans_there}
use Rattle.rule_reader.proofs.reader.text.text_of.Goals as goal

pub returns-then-not-is_empty-clause-gives : goal.returns-then-not-is_empty-clause-gives
returns-then-not-is_empty-clause-gives c =
    rw c.fault_here.ensures (text_goes_on c.args.bytes.now c.in_ok-after_blank.field-0.now c.in_ok-name.name.now c.in_ok-name.rest.now
    c.in_ok-after_blank-2.field-0.now c.in_ok-rules.rest.now c.in_ok-rest.rest.now (map rule_value c.in_ok-rules.rules.items)
    c.in_ok-after_blank.ensures c.in_ok-name.ensures c.in_ok-after_blank-2.ensures c.in_ok-rules.ensures.gives c.in_ok-rest.ensures
    (sym c.is_empty.ensures ∙ c.if-not-is_empty.true))

pub new-requires : goal.new-requires
new-requires c =
    let whole = text_done c.args.bytes.now c.in_ok-after_blank.field-0.now c.in_ok-name.name.now c.in_ok-name.rest.now
    c.in_ok-after_blank-2.field-0.now c.in_ok-rules.rest.now c.in_ok-rest.rest.now (map rule_value c.in_ok-rules.rules.items)
    c.in_ok-after_blank.ensures c.in_ok-name.ensures c.in_ok-after_blank-2.ensures c.in_ok-rules.ensures.gives c.in_ok-rest.ensures
    (sym c.is_empty.ensures ∙ c.if-not-is_empty.false) in
    let named = text_is_profile c.args.bytes.now
    (record { name = c.in_ok-name.name.now; rules = map rule_value c.in_ok-rules.rules.items }) whole in
    rw c.in_ok-name-2.ensures.items named

pub returns-clause-spans : goal.returns-clause-spans
returns-clause-spans c =
    c.new.ensures.spans ∙ c.in_ok-rules.ensures.spans
    ∙ sym (spans_there c.args.bytes.now c.in_ok-after_blank.field-0.now c.in_ok-name.name.now c.in_ok-name.rest.now
    c.in_ok-after_blank-2.field-0.now c.in_ok-after_blank.ensures c.in_ok-name.ensures c.in_ok-after_blank-2.ensures)
