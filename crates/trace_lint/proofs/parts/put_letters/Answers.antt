-- One more letter decides nothing, or it decides something, or the rule doesn't have it.
use Rattle.std.proofs.Common.{◌∙◌, Vec, Global, ap, sym}
use Rattle.trace_lint.specs.declared.findings.Part.{Part}
use Rattle.trace_lint.proofs.LetterParts.{all_letters, letter_absent, letter_added, letter_decides}
use Rattle.trace_lint.proofs.parts.put_letters.Goals.{then-contains+then-decides_none_of+in_ok-put, else-contains}
use Rattle.trace_lint.proofs.parts.put_letters.Goals.{else-contains-via-then-contains+else-decides_none_of}
use Rattle.trace_lint.proofs.parts.put_letters.Goals.{else-contains-via-else-contains}
use Rattle.trace_lint.proofs.parts.put_letters.Goals as goal

pub loop-letter-preserved : goal.loop-letter-preserved
loop-letter-preserved c = elim c.if-contains.branch [
  | then-contains+then-decides_none_of+in_ok-put w ↦
      letter_added c.args.rule c.args.letters c.args.decided c.loop-letter.letter-index _ c.loop-letter-test.true c.args.parts.now.items
      c.loop-letter.parts.items c.loop-letter.invariant c.if-contains.parts.items w.held_by.result
      (sym c.contains.ensures ∙ w.if-contains.true) w.held_by.ensures (sym w.decides_none_of.ensures ∙ w.if-decides_none_of.true)
      (ap (λ (z : Vec Part Global). z.items) w.parts-is ∙ w.in_ok-put.ensures)
  | else-contains w ↦ ap (λ (z : Vec Part Global). z.items) w.parts-is
      ∙ (elim w.else-contains.branch [
        | else-contains-via-then-contains+else-decides_none_of v ↦
            letter_decides c.args.rule c.args.letters c.args.decided c.loop-letter.letter-index _ c.loop-letter-test.true
            c.args.parts.now.items c.loop-letter.parts.items c.loop-letter.invariant v.held_by.result
            (sym c.contains.ensures ∙ v.if-contains.true) v.held_by.ensures
            (sym v.decides_none_of.ensures ∙ v.if-decides_none_of.false)
        | else-contains-via-else-contains v ↦
            letter_absent c.args.rule c.args.letters c.args.decided c.loop-letter.letter-index _ c.loop-letter-test.true
            c.args.parts.now.items c.loop-letter.parts.items c.loop-letter.invariant (sym c.contains.ensures ∙ v.if-contains.false)
      ])
]

pub returns : goal.returns
returns c =
    all_letters c.args.rule c.args.letters c.args.decided c.loop-letter.letter-index c.args.parts.now.items c.loop-letter.parts.items
    c.loop-letter-test.false c.loop-letter.invariant
