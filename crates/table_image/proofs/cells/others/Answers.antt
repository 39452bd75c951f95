-- One more range is there.
use Rattle.std.proofs.Common.{◌∙◌, ◌+◌, ◌≤◌, sym, arith}
use Rattle.automaton_rows.specs.Rows.{target_in}
use Rattle.table_image.proofs.OtherBytes.{all_others, range_more}
use Rattle.table_image.proofs.cells.others.Goals as goal

pub returns-then-last : goal.returns-then-last
returns-then-last c =
    let is = c.loop-own.invariant in
    let target = target_in c.args.row.now in
    let without = target_in c.args.without.now in
    let last = c.min-last.result in
    let added = c.in_ok-push_range.ensures in
    all_others target without (last + 1) c.push_range.new.bytes.items c.push_range.new.targets (omega (arith, c.if-last.true))
    (range_more target without c.loop-own.from last c.head-range.result.target c.head-default.result.target
    c.loop-own.bytes.items c.loop-own.targets c.push_range.new.bytes.items c.push_range.new.targets
    (omega (arith, c.min-last.ensures, c.head-range.ensures.here, c.head-default.ensures.here))
    (λ b le low. sym (is.own_targets b le) ∙ c.head-range.ensures.target b (omega (arith, low, c.min-last.ensures)))
    (λ b le low. sym (is.other_targets b le) ∙ c.head-default.ensures.target b (omega (arith, low, c.min-last.ensures)))
    added.kept added.added added.within added.outside is.before)

pub loop-own-preserved : goal.loop-own-preserved
loop-own-preserved c =
    let is = c.loop-own.invariant in
    let target = target_in c.args.row.now in
    let without = target_in c.args.without.now in
    let last = c.min-last.result in
    let from = c.loop-own.from in
    let added = c.in_ok-push_range.ensures in
    let ascend : from ≤ last = omega (arith, c.min-last.ensures, c.head-range.ensures.here, c.head-default.ensures.here) in
    record {
      own_row = c.rest_after-own.ensures.row (omega (arith, c.if-last.false));
      own_targets = λ b le. c.rest_after-own.ensures.targets b (omega (arith, le)) ∙ is.own_targets b (omega (arith, le, ascend));
      other_row = c.rest_after-other.ensures.row (omega (arith, c.if-last.false));
      other_targets = λ b le. c.rest_after-other.ensures.targets b (omega (arith, le)) ∙ is.other_targets b (omega (arith, le, ascend));
      before = range_more target without from last c.head-range.result.target c.head-default.result.target
          c.loop-own.bytes.items c.loop-own.targets c.push_range.new.bytes.items c.push_range.new.targets ascend
          (λ b le low. sym (is.own_targets b le) ∙ c.head-range.ensures.target b (omega (arith, low, c.min-last.ensures)))
          (λ b le low. sym (is.other_targets b le) ∙ c.head-default.ensures.target b (omega (arith, low, c.min-last.ensures)))
          added.kept added.added added.within added.outside is.before;
    }
