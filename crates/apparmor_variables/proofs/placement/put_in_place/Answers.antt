use Rattle.std.proofs.Common.{refl, sym, ap, ◌∙◌}
use Rattle.std.proofs.lemmas.Result.{err_from_is_err_and}
use Rattle.apparmor_pieces.specs.Pieces.{pieces}
use Rattle.apparmor_variables.specs.PathTexts.{text_of}
use Rattle.apparmor_variables.specs.Variables.{piece_texts}
use Rattle.apparmor_pieces.specs.CodePieces.{piece_value}
use Rattle.apparmor_variables.specs.inner.Known.{known_in}
use Rattle.apparmor_variables.proofs.PathSteps.{piece_refused}
use Rattle.apparmor_pieces.specs.laws.PieceSteps.{no_pieces}
use Rattle.apparmor_variables.proofs.placement.put_in_place.Goals as goal

pub returns-clause-text : goal.returns-clause-text
returns-clause-text g c =
    let so_far = c.loop-piece.invariant in (
      so_far.0,
      sym so_far.2 ∙ ap (text_of (known_in c.args.declared.now c.args.made.now) so_far.0)
          (no_pieces c.loop-piece.rest.now (c.in_default.ensures.none refl)),
      so_far.1,
    )

pub returns-in_err-add_piece-clause-refused : goal.returns-in_err-add_piece-clause-refused
returns-in_err-add_piece-clause-refused g c =
    let known = known_in c.args.declared.now c.args.made.now in
    let so_far = c.loop-piece.invariant in
    let here = sym (ap (text_of known so_far.0) c.in-Some.ensures.some) ∙ so_far.2 in
    let p = err_from_is_err_and c.from_residual.result c.from_residual.ensures.1 in
    rw (p.1, p.2)
    (λ text h. piece_refused c.in_err-add_piece.field-0.0 known (g.S.Sink.Holds c.add_piece.new.sink) so_far.0 (pieces c.in-Some.more.now)
    c.ends_with_slash-after_slash.result c.begins_with_slash.result (piece_texts known (piece_value c.in-Some.piece)) text
    (c.ends_with_slash-after_slash.ensures so_far.0 so_far.1) c.begins_with_slash.ensures
    (c.in_err-add_piece.ensures so_far.0 so_far.1) (here ∙ h))
