use Rattle.std.proofs.Common.{◌%◌, ◌≡◌, arith}
use Rattle.open_session.specs.inner.StageData.{call_of, walker_of}
use Rattle.open_session.proofs.Tellings.{still_decides}
use Rattle.open_session.proofs.walk.Checked.told_of.Goals as goal

pub unreachable-requires : goal.unreachable-requires
unreachable-requires c =
    let checked = c.args.self.now in
    let even : checked.walk.noted % 2 ≡ 0 = omega arith in
    still_decides checked.walk.words.0 c.args.room.now (call_of checked.walk.policed.call) (walker_of checked.walk) checked.last
    checked.seen.events checked.walk.next c.requires.ended.walks.right c.requires.ended.ended c.requires.ended.saw even
    c.requires.last c.in-Read.is
