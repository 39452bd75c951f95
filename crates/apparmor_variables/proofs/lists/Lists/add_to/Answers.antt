use Rattle.std.proofs.Common.{List, [], ap, ◌∙◌, subst, sym}
use Rattle.std.proofs.lemmas.Result.{err_from_is_err_and}
use Rattle.apparmor_pieces.specs.Pieces.{pieces}
use Rattle.apparmor_variables.specs.Variables.{Variable, list_at}
use Rattle.apparmor_variables.specs.PathTexts.{path_text, IsSubstituted, PathProblem}
use Rattle.apparmor_variables.specs.Faults.{Tells}
use Rattle.apparmor_variables.specs.inner.Gives.{fault_of}
use Rattle.apparmor_variables.specs.inner.Known.{known_in}
use Rattle.apparmor_variables.proofs.PathSteps.{text_more, told_of_text}
use Rattle.apparmor_variables.proofs.lists.Lists.add_to.Goals as goal

pub returns-clause-text : goal.returns-clause-text
returns-clause-text g c =
    let variables = c.self.inside.declared in
    let made = c.make_used.new.made in
    let path = c.args.path.now in
    let n = c.in_ok-make_used.ensures.sound.levels in
    let placed = c.in_ok-put_in_place.ensures.text in
    let is = ap (λ lists. path_text (known_in variables lists) path) (sym c.deref.ensures.value) ∙ placed.1 in (
      placed.0,
      subst (λ (vs : List Variable). IsSubstituted vs path placed.0) c.self.view_is
          (record {
            levels = n;
            is = text_more (known_in variables made.lists.items) (list_at n variables) c.in_ok-make_used.ensures.sound.right []
                (pieces path) placed.0 is;
            short = g.met.S.Sink.short c.put_in_place.new.sink placed.0 placed.2;
          }),
      placed.2,
    )

pub returns-in_err-put_in_place-clause-fault : goal.returns-in_err-put_in_place-clause-fault
returns-in_err-put_in_place-clause-fault g c =
    let variables = c.self.inside.declared in
    let made = c.make_used.new.made in
    let path = c.args.path.now in
    let n = c.in_ok-make_used.ensures.sound.levels in
    let p = err_from_is_err_and c.from_residual-in_err-put_in_place.result c.from_residual-in_err-put_in_place.ensures.1 in
    rw (p.1, p.2)
    (subst (λ (vs : List Variable). Tells (PathProblem vs path) (fault_of c.in_err-put_in_place.field-0.0)) c.self.view_is
    (told_of_text variables path (known_in variables made.lists.items) n c.in_ok-make_used.ensures.sound.right
    c.in_ok-make_used.ensures.known c.in_err-put_in_place.field-0.0
    (λ text h. c.in_err-put_in_place.ensures.refused text (ap (λ lists. path_text (known_in variables lists) path)
    c.deref.ensures.value ∙ h))))
