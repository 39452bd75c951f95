use Rattle.std.proofs.Common.{ap, arith, map, ◌∙◌}
use Rattle.import_origins.specs.inner.Marks.{mark_value}
use Rattle.import_origins.proofs.MarkLaws.{marks_after_feed, marks_after_other}
use Rattle.import_origins.proofs.included.IncludedFiles.of.Goals as goal
use Rattle.import_origins.proofs.included.IncludedFiles.of.Goals.{then-byte-eq10+in_ok-push_mark, else-byte-eq10}

pub loop-i-preserved : goal.loop-i-preserved
loop-i-preserved c =
    elim c.if-byte-eq10.branch [
      | then-byte-eq10+in_ok-push_mark w ↦
          record {
            start = omega (arith, w.start-is);
            marks = marks_after_feed c.args.text.now c.loop-i.start c.if-byte-eq10.start c.loop-i.i (map mark_value c.loop-i.marks.items)
                (map mark_value c.if-byte-eq10.marks.items) c.loop-i-test.true w.if-byte-eq10.true w.start-is
                (ap (λ m. map mark_value m.items) w.marks-is ∙ w.in_ok-push_mark.ensures) c.loop-i.invariant.marks;
          }
      | else-byte-eq10 w ↦
          record {
            start = omega (arith, w.start-is);
            marks = marks_after_other c.args.text.now c.loop-i.start c.if-byte-eq10.start c.loop-i.i (map mark_value c.loop-i.marks.items)
                (map mark_value c.if-byte-eq10.marks.items) c.loop-i.invariant.start c.loop-i-test.true w.if-byte-eq10.false w.start-is
                (ap (λ m. map mark_value m.items) w.marks-is) c.loop-i.invariant.marks;
          }
    ]
