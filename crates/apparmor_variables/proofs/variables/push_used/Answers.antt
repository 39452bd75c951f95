use Rattle.std.proofs.Common.{◌++◌, map, refl, sym, ap, ◌∙◌, append-nil}
use Rattle.apparmor_pieces.specs.Pieces.{names_in}
use Rattle.apparmor_pieces.specs.laws.PieceSteps.{no_pieces}
use Rattle.apparmor_variables.proofs.variables.push_used.Goals as goal

pub returns : goal.returns
returns c =
    let all = map (λ name. name.now) c.loop-piece.names.items in
    sym (append-nil all) ∙ ap (λ ps. all ++ names_in ps) (sym (no_pieces c.loop-piece.rest.now (c.in_default.ensures.none refl)))
    ∙ c.loop-piece.invariant
