use Rattle.std.proofs.Common.{◌≡◌, false, take, sym, ap, ◌∙◌, inr, true≢false}
use Rattle.directory_tree.specs.Components.{is_filled}
use Rattle.path_lookup.proofs.NameParts.{has_component}
use Rattle.path_lookup.proofs.name.put_component.Goals as goal

pub returns-then-length-eq0-clause-fault : goal.returns-then-length-eq0-clause-fault
returns-then-length-eq0-clause-fault g c = λ front.
    let look = g.L.Look in
    let got = c.in_ok-length.ensures in
    inr (λ w seen.
    let before = got.narrows w seen in
    let filled = has_component w.tree w.sound (look.means c.args.entry w) (look.stands _ w c.args.entry before c.requires.known)
    (c.requires.below w before) in
    let empty : is_filled (take c.in_ok-length.length c.component.new.room) ≡ false = ap (λ n. is_filled (take n c.component.new.room))
    c.if-length-eq0.true in
    true≢false (sym filled ∙ ap is_filled (got.answer w seen) ∙ empty))
