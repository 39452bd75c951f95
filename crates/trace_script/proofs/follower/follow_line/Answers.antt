use Rattle.std.proofs.Common.{◌≡◌, [], true, false, Err, sym, subst, rules}
use Rattle.trace_report.specs.laws.Endings.{appends_nothing}
use Rattle.trace_script.specs.declared.section.Section.{Section}
use Rattle.trace_script.specs.Engine.{section_value}
use Rattle.trace_script.specs.Script.{is_end}
use Rattle.trace_script.specs.FollowedScripts.{IsLineFollowed}
use Rattle.trace_script.specs.laws.LineEnds.{within_ends, within_goes_on, policy_stopped}
use Rattle.trace_script.proofs.follower.follow_line.Goals as goal

pub returns-in_err-do_policy-in-Within-clause-line : goal.returns-in_err-do_policy-in-Within-clause-line
returns-in_err-do_policy-in-Within-clause-line g c limit =
    let engine = g.L.LineFollower.engine limit in
    let state = g.L.LineFollower.state c.args.follower.now c.args.on.now in
    let new = g.L.LineFollower.state c.do_policy.new.self c.do_policy.new.on in
    let ends : is_end c.args.line.now ≡ true = search rules in
    let told : c.from_residual.result ≡ Err c.in_err-do_policy-in-Within.field-0.0 = search rules in
    rw told (policy_stopped engine state c.args.section c.in-Within.start c.in-Within.text c.args.number c.args.line.now c.in-Within.is
    c.deref.result.now new _ _ c.in_err-do_policy-in-Within.field-0.0 ends c.deref.ensures.value
    (c.in_err-do_policy-in-Within.ensures.line limit))

pub returns-then-eq-clause-line : goal.returns-then-eq-clause-line
returns-then-eq-clause-line g c limit =
    let engine = g.L.LineFollower.engine limit in
    let state = g.L.LineFollower.state c.args.follower.now c.args.on.now in
    let new = g.L.LineFollower.state c.do_policy.new.self c.do_policy.new.on in
    let ends : is_end c.args.line.now ≡ true = search rules in
    let done = c.in_ok-do_policy-in-Within.ensures.line limit in (
      done.0,
      within_ends engine state c.args.section c.in-Within.start c.in-Within.text c.args.number c.args.line.now c.in-Within.is
          c.deref.result.now done.0 new ends c.deref.ensures.value done.1,
      done.2,
    )

pub returns-in_ok-text-in-Within-clause-line : goal.returns-in_ok-text-in-Within-clause-line
returns-in_ok-text-in-Within-clause-line g c limit =
    let engine = g.L.LineFollower.engine limit in
    let state = g.L.LineFollower.state c.args.follower.now c.args.on.now in
    let goes_on : is_end c.args.line.now ≡ false = search rules in (
      [],
      within_goes_on engine state c.args.section c.in-Within.start c.in-Within.text c.args.number c.args.line.now c.in-Within.is
          c.in_ok-text-in-Within.text.items goes_on c.in_ok-text-in-Within.ensures,
      appends_nothing (g.A.Write.contents c.args.answers.now),
    )

pub returns-in-Outside-clause-line : goal.returns-in-Outside-clause-line
returns-in-Outside-clause-line g c limit =
    let engine = g.L.LineFollower.engine limit in
    let P : Section → Type 0 = λ section. IsLineFollowed engine
    (g.L.LineFollower.state c.args.follower.now c.args.on.now) (section_value section) c.args.number c.args.line.now
    (g.L.LineFollower.state c.do_line.new.self c.do_line.new.on)
    (g.A.Write.contents c.args.answers.now) (g.A.Write.contents c.do_line.new.answers) c.do_line.result in
    subst P (sym c.in-Outside.is) (c.do_line.ensures.line limit)
