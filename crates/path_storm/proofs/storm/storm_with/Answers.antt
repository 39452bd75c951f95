use Rattle.std.proofs.Common.{◌*◌, ap, ◌∙◌, sym}
use Rattle.std.proofs.lemmas.Result.{IfOk-weaker}
use Rattle.path_storm.proofs.Counts.{all_answers, each_answered}
use Rattle.path_storm.proofs.storm.storm_with.Goals as goal

pub returns-clause-answers : goal.returns-clause-answers
returns-clause-answers g c =
    let opens = c.args.plan.now.opens in
    let log = c.in_ok-log.log in
    let opened = c.in_ok-log.ensures.opened in
    IfOk-weaker c.report.result _ _
    (λ report is. is.answers ∙ all_answers opens log.sessions.items (each_answered log.ask opens log.sessions.items opened.1)
    ∙ ap (λ n. n * opens) (sym log.sessions.ok.0 ∙ opened.0))
    c.report.ensures.ok

pub returns-clause-told : goal.returns-clause-told
returns-clause-told g c = IfOk-weaker c.report.result _ _ (λ report is. (c.in_ok-log.log, c.in_ok-log.ensures, is)) c.report.ensures.ok
