-- The names that are wanted, by their pairs of reasons or the least of all.
use Rattle.std.proofs.Common.{◌≡◌, ◌∙◌, sym, ap, subst}
use Rattle.std.proofs.lemmas.Result.{IfOk-weaker}
use Rattle.names.specs.Permissions.{only}
use Rattle.names.specs.declared.permissions.Perms.{Perms}
use Rattle.question_answers.specs.Alone.{AreAlone, IsDifference}
use Rattle.question_answers.specs.LeastNames.{AreLeast, AreLeastNames, listed}
use Rattle.question_answers.specs.declared.least.Wanted.{Wanted}
use Rattle.question_answers.specs.declared.quantifier.Witnesses.{Witnesses}
use Rattle.question_answers.specs.inner.Causes.{HasCauses}
use Rattle.question_answers.specs.inner.Wants.{IsWantedOf, alone_by}
use Rattle.question_answers.proofs.Translations.{each_pair, least_too, wanted_alone}
use Rattle.question_answers.proofs.alone.differences.Goals as goal

pub returns-in-Least : goal.returns-in-Least
returns-in-Least c below third given =
    let compared = c.args.comparison.now in
    let p = c.args.permission in
    let side = c.args.side in
    let wanted : c.alone_by-wanted.result ≡ alone_by side (only p) = c.alone_by-wanted.ensures ∙ ap (alone_by side) c.with-ask.ensures in
    IfOk-weaker c.least_alone.result _ _
    (λ names are.
    subst (λ (w : Witnesses). AreAlone w below compared.first compared.second p side (listed names.items)) (sym c.in-Least.is)
    (least_too (IsWantedOf below compared (alone_by side (only p))) (IsDifference below compared.first compared.second p side)
    (wanted_alone below compared p side) (listed names.items)
    (subst (λ (w : Wanted). AreLeast (IsWantedOf below compared w) (listed names.items)) wanted are)))
    (c.least_alone.ensures below third given)

pub returns-in-EachRule : goal.returns-in-EachRule
returns-in-EachRule c below third given =
    let compared = c.args.comparison.now in
    let p = c.args.permission in
    let side = c.args.side in
    let wanted : c.alone_by-wanted.result ≡ alone_by side (only p) = c.alone_by-wanted.ensures ∙ ap (alone_by side) c.with-ask.ensures in
    IfOk-weaker c.least_by_causes.result _ _
    (λ names are.
    subst (λ (w : Witnesses). AreAlone w below compared.first compared.second p side (listed names.items)) (sym c.in-EachRule.is)
    (each_pair below compared p side (listed names.items)
    (subst (λ (ask : Perms). AreLeastNames (HasCauses below compared (alone_by side (only p)) ask) (listed names.items)) c.with-ask.ensures
    (subst (λ (w : Wanted). AreLeastNames (HasCauses below compared w c.with-ask.result) (listed names.items)) wanted are))))
    (c.least_by_causes.ensures below third given)
