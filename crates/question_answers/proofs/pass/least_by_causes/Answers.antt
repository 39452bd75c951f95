-- One representative after another.
use Rattle.std.proofs.Common.{◌∙◌, ◌+◌, ℕ, List, [], Vec, Global, arith, sym, ap, subst}
use Rattle.std.proofs.lemmas.Option.{same_Some}
use Rattle.profile_questions.specs.declared.answer.Answers.{Answers}
use Rattle.question_answers.specs.LeastNames.{listed}
use Rattle.question_answers.specs.contracts.cause.CausesPartialEq.TheImpl as causes_impl
use Rattle.question_answers.specs.declared.cause.Causes.{Causes}
use Rattle.question_answers.specs.inner.Causes.{HasNoted}
use Rattle.question_answers.proofs.Noted.{in_or_not}
use Rattle.question_answers.proofs.Scan.{ArePassed, listed_more, passed_first, passed_last, passed_new, passed_old}
use Rattle.question_answers.proofs.pass.least_by_causes.Goals.{then-branch+in_ok-name+in_ok-keep, else-branch}
use Rattle.question_answers.proofs.pass.least_by_causes.Goals as goal

pub loop-index-init : goal.loop-index-init
loop-index-init c below third given =
    let compared = c.args.comparison.now in
    subst (λ (z : List Causes). ArePassed below compared c.args.wanted c.args.ask 0 z (listed c.new-names.result.items))
    (sym c.new-seen.ensures.empty)
    (subst (λ (z : List (Vec ℕ Global)). ArePassed below compared c.args.wanted c.args.ask 0 [] (listed z))
    (sym c.new-names.ensures.items) (passed_first below compared c.args.wanted c.args.ask))

pub loop-index-preserved : goal.loop-index-preserved
loop-index-preserved c below third given =
    let compared = c.args.comparison.now in
    let index = c.loop-index.index in
    let noted = subst (λ (a : Answers). HasNoted compared index a c.args.ask c.loop-index.seen.keys c.note.new.seen.keys
    c.in_ok-note.field-0) c.answers-answers.ensures c.in_ok-note.ensures in
    elim c.if-branch.branch [
      | then-branch+in_ok-name+in_ok-keep w ↦
          let same = same_Some w.in_ok-name.field-0.items noted.0 (sym w.in_ok-name.ensures ∙ noted.2) in
          subst (λ (z : List (List ℕ)). ArePassed below compared c.args.wanted c.args.ask (index + 1) c.note.new.seen.keys z)
          (sym (listed_more c.loop-index.names.items c.if-branch.names.items w.in_ok-name.field-0 noted.0
          (ap (λ (v : Vec (Vec ℕ Global) Global). v.items) w.names-is ∙ w.in_ok-keep.ensures) same))
          (passed_new below compared c.args.wanted c.args.ask c.pattern_rules_allow_what_they_take.ensures
          c.reasons_are_right.ensures.only c.args.restricted third given c.len-index-end.ensures.names
          (in_or_not causes_impl.eq-value.it c.equal_causes_are_one.ensures.one c.equal_causes_are_one.ensures.itself) index
          c.loop-index.seen.keys c.note.new.seen.keys c.in_ok-note.field-0 noted (listed c.loop-index.names.items)
          (c.loop-index.invariant below third given) w.if-branch.true)
      | else-branch w ↦
          subst (λ (z : Vec (Vec ℕ Global) Global). ArePassed below compared c.args.wanted c.args.ask (index + 1) c.note.new.seen.keys
          (listed z.items)) (sym w.names-is)
          (passed_old below compared c.args.wanted c.args.ask c.pattern_rules_allow_what_they_take.ensures
          c.reasons_are_right.ensures.only c.args.restricted third given c.len-index-end.ensures.names
          (in_or_not causes_impl.eq-value.it c.equal_causes_are_one.ensures.one c.equal_causes_are_one.ensures.itself) index
          c.loop-index.seen.keys c.note.new.seen.keys c.in_ok-note.field-0 noted (listed c.loop-index.names.items)
          (c.loop-index.invariant below third given) w.if-branch.false)
    ]

pub returns : goal.returns
returns c below third given =
    passed_last below c.args.comparison.now c.args.wanted c.args.ask c.pattern_rules_allow_what_they_take.ensures
    c.reasons_are_right.ensures.only c.args.restricted third given c.len-index-end.ensures.names c.loop-index.index
    c.loop-index.seen.keys (listed c.loop-index.names.items) (omega (arith, c.loop-index-test.false, c.len-index-end.ensures.len))
    (c.loop-index.invariant below third given)
