-- The state has no cell for the byte, and has a depth.
use Rattle.std.proofs.Common.{rules, ◌≡◌, ◌+◌, ◌<◌, Some, slice_get, subst}
use Rattle.tables.specs.Tables.{Table}
use Rattle.table_verifier.proofs.Looks.{looked_onward}
use Rattle.table_verifier.proofs.chains.look_once.Goals as goal

pub returns-clause-looked : goal.returns-clause-looked
returns-clause-looked g c =
    let t : Table = g.E.Entries.table c.args.entries.now in
    let byte : c.args.byte < 256 = search rules in
    let owner : slice_get t.check (c.base_at.result + c.args.byte) ≡ Some c.check_at.result =
    subst (λ b. slice_get t.check (c.base_at.result + b) ≡ Some c.check_at.result) c.from.ensures c.check_at.ensures in
    looked_onward t c.args.state c.args.byte c.base_at.result c.check_at.result c.default_at-default.result c.depth_at.result
    (c.chains_fall.ensures.next t c.args.state c.args.byte c.stay_in_bounds.ensures c.requires.state byte)
    c.base_at.ensures.base owner c.if-check_at-state.false c.default_at-default.ensures.default c.depth_at.ensures
    c.if-depth_at-eq0.false c.default_at-default.ensures.there
