use Rattle.std.proofs.Common.{◌≡◌, ◌++◌, ◌∷◌, List, suc, drop, sym, ap, ◌∙◌, drop-cons}
use Rattle.apparmor_text.specs.Parts.{ItemValue}
use Rattle.import_spans.specs.Cuts.{cut_item}
use Rattle.apparmor_variables.specs.Variables.{Variable}
use Rattle.import_profile.specs.FileRules.{item_reading, rules_at, rules_in}
use Rattle.import_profile.specs.Restated.{restated_rules}
use Rattle.import_profile.specs.inner.GatheredRules.{one_too_many}
use Rattle.import_profile.proofs.Gathers.{rules_step}
use Rattle.import_profile.proofs.TooMany.{too_many_before}
use Rattle.import_profile.proofs.gathered.gather.Goals as goal

pub returns-in-Some-clause-too_many : goal.returns-in-Some-clause-too_many
returns-in-Some-clause-too_many c =
    let chosen = c.args.choice.subject in
    let variables = c.args.lists.now in
    let item = c.item-item.result in
    let cut = c.loop-item.cut in
    let before = c.loop-item.rules.items in
    let now = c.take_item.new.rules.items in
    let later = drop (suc c.loop-item.item-index) c.args.items.now in
    let others = rules_in variables chosen later (cut_item (item_reading variables chosen item) item cut) in
    let left : drop c.loop-item.item-index c.args.items.now ≡ item ∷ later =
    drop-cons c.args.items.now c.loop-item.item-index item c.loop-item-test.true ∙ ap (λ (x : ItemValue). x ∷ later)
    (sym c.item-item.is) in
    let pushed = c.in_ok-take_item.ensures.rules ∙ ap (λ (v : List Variable). before ++ restated_rules chosen (rules_at v item cut))
    c.loop-item.invariant.lists in
    let all = rules_step chosen (rules_at variables item cut) others before now pushed
    ∙ ap (λ (l : List ItemValue). before ++ restated_rules chosen (rules_in variables chosen l cut)) (sym left)
    ∙ c.loop-item.invariant.rules in
    too_many_before now (restated_rules chosen others) _ c.in-Some.place all (ap one_too_many (sym c.deref.ensures.value)
    ∙ sym c.in-Some.ensures)
