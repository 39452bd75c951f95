-- The chain begins at the default, with one look-up less.
use Rattle.std.proofs.Common.{rules, ◌≡◌, ◌+◌, ◌<◌, ◌∙◌, arith}
use Rattle.tables.specs.Tables.{Table, look_ups}
use Rattle.table_verifier.proofs.Looks.{onward_chain}
use Rattle.table_verifier.proofs.chains.onward.Goals as goal

pub chain-requires-clause-room : goal.chain-requires-clause-room
chain-requires-clause-room g c =
    let t : Table = g.E.Entries.table c.args.entries.now in
    let byte : c.args.byte < 256 = search rules in
    let on = c.chains_fall.ensures.next t c.args.at.state c.args.byte c.stay_in_bounds.ensures c.requires.at.0 byte in
    let chained = onward_chain t c.args.at.state c.args.byte c.args.default c.depth_at.result on c.requires.unowned c.requires.default
    c.depth_at.ensures c.if-depth_at-eq0.false in
    let one : look_ups t c.args.at.state c.args.byte ≡ look_ups t c.args.default c.args.byte + 1 = chained.1 in
    omega (arith, one, c.requires.room)

pub returns-clause-next : goal.returns-clause-next
returns-clause-next g c =
    let t : Table = g.E.Entries.table c.args.entries.now in
    let byte : c.args.byte < 256 = search rules in
    let on = c.chains_fall.ensures.next t c.args.at.state c.args.byte c.stay_in_bounds.ensures c.requires.at.0 byte in
    let chained = onward_chain t c.args.at.state c.args.byte c.args.default c.depth_at.result on c.requires.unowned c.requires.default
    c.depth_at.ensures c.if-depth_at-eq0.false in
    chained.0 ∙ c.chain.ensures.next

pub returns-clause-look_ups : goal.returns-clause-look_ups
returns-clause-look_ups g c =
    let t : Table = g.E.Entries.table c.args.entries.now in
    let byte : c.args.byte < 256 = search rules in
    let on = c.chains_fall.ensures.next t c.args.at.state c.args.byte c.stay_in_bounds.ensures c.requires.at.0 byte in
    let chained = onward_chain t c.args.at.state c.args.byte c.args.default c.depth_at.result on c.requires.unowned c.requires.default
    c.depth_at.ensures c.if-depth_at-eq0.false in
    let one : look_ups t c.args.at.state c.args.byte ≡ look_ups t c.args.default c.args.byte + 1 = chained.1 in
    omega (arith, one, c.chain.ensures.look_ups)
