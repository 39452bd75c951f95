use Rattle.std.proofs.Common.{ℕ, ◌≡◌, ◌+◌, ◌-◌, length, get_or}
use Rattle.open_session.proofs.Readings.{reads_after, reads_none}
use Rattle.open_session.proofs.walk.Walk.read_from.Goals as goal

pub returns : goal.returns
returns c =
    let old = c.args.self in
    let reach = c.reach_on-words.ensures in
    let end = c.reach_on-words.result.end in
    let word_is : c.cell-word.result ≡ get_or c.args.row.now.1 c.args.place 0 = (cc) in
    let n : ℕ = c.count.result - c.count-known.result + 1 in
    let n_is : n ≡ length c.reach_on-words.result.words.1 - length c.read.new.self.1 + 1 =
    (λ i. c.count.ensures i - c.count-known.ensures i + 1) in
    reads_after c.args.row.now.0 c.args.row.now.1 c.args.room.now c.reach_on-words.new.room old c.args.place c.cell-word.result
    c.args.further n c.read.new.self c.reach_on-words.result.words c.deref.result.now end c.after.result c.counted-count.result
    c.requires.stands c.requires.chosen c.requires.long word_is c.in-Ok.ensures.ok c.deref.ensures.value reach.capacity reach.reads
    reach.decided reach.lacks reach.sound c.after.ensures n_is c.counted-count.ensures

pub returns-in_default : goal.returns-in_default
returns-in_default c =
    reads_none c.args.row.now.0 c.args.row.now.1 c.args.room.now c.args.further c.args.self c.read.new.self c.requires.stands
    c.in_default.ensures.refused c.args.place c.requires.chosen
