use Rattle.std.proofs.Common.{refl, sym, ap, ◌∙◌}
use Rattle.apparmor_variables.specs.Variables.{texts_from}
use Rattle.apparmor_variables.specs.inner.Known.{known_in}
use Rattle.apparmor_pieces.specs.laws.PieceSteps.{no_pieces}
use Rattle.apparmor_variables.proofs.one_list.texts_of.Goals as goal

pub returns : goal.returns
returns c =
    sym c.loop-piece.invariant
    ∙ ap (texts_from (known_in c.args.declared.now c.args.made.now) c.loop-piece.texts)
    (no_pieces c.loop-piece.rest.now (c.in_default.ensures.none refl))
