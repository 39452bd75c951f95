-- One permission after another.
use Rattle.std.proofs.Common.{◌≡◌, ◌∙◌, ◌+◌, Bool, List, arith, sym, ap, subst}
use Rattle.std.specs.HashSet.{HashSet}
use Rattle.names.specs.declared.permissions.Permission.TheVariants.{Read}
use Rattle.question_answers.specs.declared.cause.Causes.{Causes}
use Rattle.question_answers.specs.inner.Causes.{AreNoted}
use Rattle.question_answers.proofs.Noted.{AreFirst, all_noted, asked_noted, unasked_noted}
use Rattle.question_answers.proofs.notes.insert_all.Goals.{then-contains+in_ok-new, else-contains}
use Rattle.question_answers.proofs.notes.insert_all.Goals as goal

pub loop-permission-preserved : goal.loop-permission-preserved
loop-permission-preserved c =
    let law = c.permissions_are_numbered.ensures in
    let records = c.args.records.now in
    let ask = c.args.ask in
    let i = c.loop-permission.permission-index in
    let old = c.args.seen.now.keys in
    let mid = c.loop-permission.seen.keys in
    let lt = c.loop-permission-test.true in
    elim c.if-contains.branch [
      | then-contains+in_ok-new w ↦ record {
        noted = subst (λ (z : List Causes). AreNoted old z c.if-contains.new (AreFirst records ask (i + 1)))
            (sym (ap (λ (s : HashSet Causes _). s.keys) w.seen-is))
            (subst (λ (z : Bool). AreNoted old w.insert.new.seen.keys z (AreFirst records ask (i + 1))) (sym w.new-is)
            (asked_noted law.there law.only records ask i lt Read (sym c.contains.ensures ∙ w.if-contains.true) old mid
            w.insert.new.seen.keys c.loop-permission.new w.in_ok-new.field-0 c.loop-permission.invariant.noted
            (subst (λ (k : Causes). AreNoted mid w.insert.new.seen.keys w.in_ok-new.field-0 (λ z. z ≡ k)) w.causes_of.ensures
            w.in_ok-new.ensures)));
      }
      | else-contains w ↦ record {
        noted = subst (λ (z : List Causes). AreNoted old z c.if-contains.new (AreFirst records ask (i + 1)))
            (sym (ap (λ (s : HashSet Causes _). s.keys) w.seen-is))
            (subst (λ (z : Bool). AreNoted old mid z (AreFirst records ask (i + 1))) (sym w.new-is)
            (unasked_noted law.there law.only records ask i lt Read (sym c.contains.ensures ∙ w.if-contains.false) old mid
            c.loop-permission.new c.loop-permission.invariant.noted));
      }
    ]

pub returns : goal.returns
returns c =
    all_noted c.permissions_are_numbered.ensures.below c.args.records.now c.args.ask c.loop-permission.permission-index
    (omega (arith, c.loop-permission-test.false)) c.args.seen.now.keys c.loop-permission.seen.keys c.loop-permission.new
    c.loop-permission.invariant.noted
