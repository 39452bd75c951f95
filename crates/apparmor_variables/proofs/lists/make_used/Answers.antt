use Rattle.std.proofs.Common.{◌≡◌, List, [], ◌∷◌, ◌++◌, refl, sym, ap, ◌∙◌, subst, append_assoc, append-nil}
use Rattle.std.proofs.lemmas.Result.{err_from_is_err_and}
use Rattle.apparmor_pieces.specs.Pieces.{Text, Piece, use_of, pieces, names_in, used_names}
use Rattle.apparmor_variables.specs.Problems.{HasProblem}
use Rattle.apparmor_variables.specs.PathTexts.{PathProblem, OfUse}
use Rattle.apparmor_pieces.specs.CodePieces.{piece_value}
use Rattle.apparmor_variables.specs.inner.Known.{known_in}
use Rattle.apparmor_variables.specs.inner.Way.{AreKnown}
use Rattle.apparmor_pieces.specs.laws.PieceSteps.{no_pieces}
use Rattle.apparmor_variables.proofs.KnownLists.{are_listed, are_known_more, known_and_one}
use Rattle.apparmor_variables.proofs.PathSteps.{tells_more}
use Rattle.apparmor_variables.proofs.lists.make_used.Goals as goal

-- the next use
one_use : (rest more name : Text) (p : Piece) → pieces rest ≡ p ∷ pieces more → p ≡ use_of name → used_names rest ≡ name ∷ used_names more
one_use rest more name p cut is = ap names_in (cut ∙ ap (λ (q : Piece). q ∷ pieces more) is)

pub returns-in_err-make-clause-fault : goal.returns-in_err-make-clause-fault
returns-in_err-make-clause-fault c =
    let variables = c.args.declared.now in
    let path = c.args.path.now in
    let name = c.in-Use.name.now in
    let made = c.loop-piece.made in
    let before = c.loop-piece.invariant.known in
    let used = one_use c.loop-piece.rest.now c.in-Some.more.now name (piece_value c.in-Some.piece) c.in-Some.ensures.some
    (ap piece_value c.in-Use.is) in
    let p = err_from_is_err_and c.from_residual.result c.from_residual.ensures.1 in
    rw (p.1, p.2)
    (tells_more (HasProblem variables [] name) (PathProblem variables path) c.in_err-make.field-0.0
    (λ problem h. OfUse before.0 (used_names c.in-Some.more.now) name problem (before.1 ∙ ap (λ (x : List Text). before.0 ++ x) used)
    (are_listed variables (known_in variables made.lists.items) c.loop-piece.invariant.sound.levels c.loop-piece.invariant.sound.right
    before.0 before.2) h)
    c.in_err-make.ensures.fault)

pub loop-piece-preserved-in_ok-make : goal.loop-piece-preserved-in_ok-make
loop-piece-preserved-in_ok-make c =
    let variables = c.args.declared.now in
    let name = c.in-Use.name.now in
    let before = c.loop-piece.invariant.known in
    let old = known_in variables c.loop-piece.made.lists.items in
    let new = known_in variables c.make.new.self.lists.items in
    let used = one_use c.loop-piece.rest.now c.in-Some.more.now name (piece_value c.in-Some.piece) c.in-Some.ensures.some
    (ap piece_value c.in-Use.is) in
    record {
      sound = c.in_ok-make.ensures.sound;
      known = (
        before.0 ++ name ∷ [],
        before.1 ∙ ap (λ (x : List Text). before.0 ++ x) used ∙ sym (append_assoc before.0 (name ∷ []) (used_names c.in-Some.more.now)),
        known_and_one new before.0 name (are_known_more old new c.in_ok-make.ensures.more before.0 before.2) c.in_ok-make.ensures.known,
      );
    }

pub returns-clause-known : goal.returns-clause-known
returns-clause-known c =
    let before = c.loop-piece.invariant.known in
    let none = no_pieces c.loop-piece.rest.now (c.in_default.ensures.none refl) in
    subst (AreKnown (known_in c.args.declared.now c.loop-piece.made.lists.items))
    (sym (before.1 ∙ ap (λ ps. before.0 ++ names_in ps) none ∙ append-nil before.0)) before.2
