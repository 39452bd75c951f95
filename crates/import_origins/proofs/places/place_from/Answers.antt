use Rattle.std.proofs.Common.{◌∙◌}
use Rattle.import_origins.proofs.PlaceLaws.{place_behind_feed_of_part, place_behind_other_of_part}
use Rattle.import_origins.proofs.places.place_from.Goals as goal
use Rattle.import_origins.proofs.places.place_from.Goals.{then-byte-eq10, else-byte-eq10}

pub loop-byte-preserved : goal.loop-byte-preserved
loop-byte-preserved c =
    elim c.if-byte-eq10.branch [
      | then-byte-eq10 w ↦
          w.place-is
          ∙ place_behind_feed_of_part c.args.text.now c.args.start c.args.end c.loop-byte.byte-index c.loop-byte.place
          c.loop-byte.invariant c.requires.within c.loop-byte-test.true w.if-byte-eq10.true
      | else-byte-eq10 w ↦
          w.place-is
          ∙ place_behind_other_of_part c.args.text.now c.args.start c.args.end c.loop-byte.byte-index c.loop-byte.place
          c.loop-byte.invariant c.requires.within c.loop-byte-test.true w.if-byte-eq10.false
    ]
