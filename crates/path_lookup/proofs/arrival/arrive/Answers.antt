use Rattle.std.proofs.Common.{◌≡◌, ◌∙◌, sym, ap, true, false}
use Rattle.std.specs.Prelude.{bytes_eq}
use Rattle.std.specs.Option.{unwrap_or}
use Rattle.directory_tree.specs.Components.{dot, dot_dot}
use Rattle.path_lookup.proofs.Arrivals.{arrive_up, unwrap_map}
use Rattle.path_lookup.proofs.arrival.arrive.Goals as goal

pub returns-then-eq-2-clause-answer : goal.returns-then-eq-2-clause-answer
returns-then-eq-2-clause-answer g c = λ w seen links xs ends.
    let look = g.L.Look in
    let directory = c.args.directory in
    let known = c.in_ok-parent.ensures.keeps directory c.requires.known in
    let same = c.unwrap_or.ensures in
    let no_dot : bytes_eq c.args.component.now dot ≡ false = ap (bytes_eq c.args.component.now) (sym c.as_slice.ensures) ∙ sym c.eq.ensures
    ∙ c.if-eq.false in
    let dots : bytes_eq c.args.component.now dot_dot ≡ true = ap (bytes_eq c.args.component.now) (sym c.as_slice-2.ensures)
    ∙ sym c.eq-2.ensures ∙ c.if-eq-2.true in
    arrive_up w.tree c.args.last w.sound (look.means directory w) (look.means c.unwrap_or.result w) (look.stands _ w directory seen known)
    (c.requires.directory w (c.in_ok-parent.ensures.narrows w seen)) (ap (λ e. look.means e w) same ∙ unwrap_map (λ e. look.means e w)
    c.in_ok-parent.field-0 directory ∙ ap (λ o. unwrap_or o (look.means directory w)) (sym (c.in_ok-parent.ensures.answer w seen)))
    c.args.component.now no_dot dots links xs
