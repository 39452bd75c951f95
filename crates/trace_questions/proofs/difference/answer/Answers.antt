-- The texts that were read, or that may have been, and the answer on them.
use Rattle.std.specs.Prelude.{option_map}
use Rattle.trace_questions.specs.Differences.{IsDiffOutputFor, below_asked}
use Rattle.trace_questions.specs.declared.sides.SideFault.TheVariants.{Neither}
use Rattle.trace_report.specs.laws.Endings.{text_of}
use Rattle.trace_questions.proofs.DiffAnswers.{Asked, answered_on, fault_passed_on, unasked, unread}
use Rattle.trace_questions.proofs.difference.answer.Goals as goal

pub returns-in_err-below-clause-output : goal.returns-in_err-below-clause-output
returns-in_err-below-clause-output g c =
    let old = text_of (g.O.Read.remaining c.args.old.now) in
    let new = text_of (g.N.Read.remaining c.args.new.now) in
    let w = c.args.report in
    let asked : Asked = below_asked (option_map (λ pattern. pattern.now) c.args.below) in
    let f = c.in_err-below.field-0.0 in (
      old.0,
      new.0,
      old.1,
      new.1,
      fault_passed_on (IsDiffOutputFor w asked old.0 new.0) c.from_residual.result (Neither f) c.from_residual.ensures.1
          (unasked w asked old.0 new.0 f c.in_err-below.ensures),
    )

pub returns-in_err-before-clause-output : goal.returns-in_err-before-clause-output
returns-in_err-before-clause-output g c =
    let old = text_of (g.O.Read.remaining c.args.old.now) in
    let new = text_of (g.N.Read.remaining c.args.new.now) in
    let w = c.args.report in
    let asked : Asked = below_asked (option_map (λ pattern. pattern.now) c.args.below) in
    let f = c.in_err-before.field-0.0 in
    let is = c.in_ok-below.ensures in (
      old.0,
      new.0,
      old.1,
      new.1,
      fault_passed_on (IsDiffOutputFor w asked old.0 new.0) c.from_residual-in_err-before.result (Neither f)
          c.from_residual-in_err-before.ensures.1 (unread w asked is.0 old.0 new.0 f is.1 c.in_err-before.ensures),
    )

pub returns-in_err-after-clause-output : goal.returns-in_err-after-clause-output
returns-in_err-after-clause-output g c =
    let old = text_of (g.O.Read.remaining c.args.old.now) in
    let new = text_of (g.N.Read.remaining c.args.new.now) in
    let w = c.args.report in
    let asked : Asked = below_asked (option_map (λ pattern. pattern.now) c.args.below) in
    let f = c.in_err-after.field-0.0 in
    let is = c.in_ok-below.ensures in (
      old.0,
      new.0,
      old.1,
      new.1,
      fault_passed_on (IsDiffOutputFor w asked old.0 new.0) c.from_residual-in_err-after.result (Neither f)
          c.from_residual-in_err-after.ensures.1 (unread w asked is.0 old.0 new.0 f is.1 c.in_err-after.ensures),
    )

pub returns-clause-output : goal.returns-clause-output
returns-clause-output g c =
    let w = c.args.report in
    let asked : Asked = below_asked (option_map (λ pattern. pattern.now) c.args.below) in
    let is = c.in_ok-below.ensures in
    let before = c.in_ok-before.before.items in
    let after = c.in_ok-after.after.items in (
      before,
      after,
      c.in_ok-before.ensures,
      c.in_ok-after.ensures,
      answered_on w asked is.0 before after c.deref.result.now c.deref-2.result.now
          c.answer_on.result is.1 c.deref.ensures.value c.deref-2.ensures.value (c.answer_on.ensures is.0 is.2),
    )
