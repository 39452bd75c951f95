use Rattle.std.proofs.Common.{◌≡◌, ◌∙◌, sym, ap, true, ◌&&◌, rules}
use Rattle.std.specs.Option.{option_map}
use Rattle.directory_tree.specs.declared.node.Last.TheVariants.{Stay}
use Rattle.directory_tree.specs.Walk.{stays, is_last}
use Rattle.directory_tree.specs.Spots.{kind_at}
use Rattle.path_lookup.proofs.Arrivals.{arrive_down, directory_goes, file_ends, file_fails, link_stays}
use Rattle.path_lookup.proofs.Arrivals.{directory_stands}
use Rattle.path_lookup.proofs.arrival.arrive_down.Goals as goal

pub returns-in-Directory-clause-answer : goal.returns-in-Directory-clause-answer
returns-in-Directory-clause-answer g c = λ w seen links xs ends.
    let look = g.L.Look in
    let entry = c.in-Some.entry in
    let there = c.in_ok-entry.ensures.answer w (c.in_ok-kind.ensures.narrows w seen)
    ∙ ap (option_map (λ e. look.means e w)) c.in-Some.is in
    let down = arrive_down w.tree c.args.last links (look.means c.args.directory w) (look.means entry w) c.args.component.now xs
    c.requires.no_dot c.requires.no_dot_dot there in
    let shape = c.in_ok-kind.ensures.answer w seen ∙ c.in-Directory.is in
    let known = c.in_ok-kind.ensures.keeps entry (rw c.in-Some.is at c.in_ok-entry.ensures.known) in (
      down ∙ directory_goes (is_last xs) c.args.last _ _ _ (kind_at (look.means entry w)) shape,
      directory_stands w.tree w.sound (look.means entry w) (look.stands _ w entry seen known) shape,
    )

pub returns-in-File-clause-answer : goal.returns-in-File-clause-answer
returns-in-File-clause-answer g c = λ w seen links xs ends.
    let look = g.L.Look in
    let entry = c.in-Some.entry in
    let there = c.in_ok-entry.ensures.answer w (c.in_ok-kind.ensures.narrows w seen)
    ∙ ap (option_map (λ e. look.means e w)) c.in-Some.is in
    let down = arrive_down w.tree c.args.last links (look.means c.args.directory w) (look.means entry w) c.args.component.now xs
    c.requires.no_dot c.requires.no_dot_dot there in
    let shape = c.in_ok-kind.ensures.answer w seen ∙ c.in-File.is in (
      down ∙ file_ends (is_last xs) c.args.last _ _ _ (kind_at (look.means entry w)) shape (ends ∙ c.if-ends.true),
      λ e. cc (sym e ∙ shape),
      ends ∙ c.if-ends.true,
    )

pub returns-in-File-2-clause-fault : goal.returns-in-File-2-clause-fault
returns-in-File-2-clause-fault g c = λ links xs ends w seen.
    let look = g.L.Look in
    let entry = c.in-Some.entry in
    let there = c.in_ok-entry.ensures.answer w (c.in_ok-kind.ensures.narrows w seen)
    ∙ ap (option_map (λ e. look.means e w)) c.in-Some.is in
    let down = arrive_down w.tree c.args.last links (look.means c.args.directory w) (look.means entry w) c.args.component.now xs
    c.requires.no_dot c.requires.no_dot_dot there in
    let shape = c.in_ok-kind.ensures.answer w seen ∙ c.in-File-2.is in
    down ∙ file_fails (is_last xs) c.args.last _ _ _ (kind_at (look.means entry w)) shape (ends ∙ c.if-ends.false)

pub returns-in-Link-clause-answer : goal.returns-in-Link-clause-answer
returns-in-Link-clause-answer g c = λ w seen links xs ends.
    let look = g.L.Look in
    let entry = c.in-Some.entry in
    let there = c.in_ok-entry.ensures.answer w (c.in_ok-kind.ensures.narrows w seen)
    ∙ ap (option_map (λ e. look.means e w)) c.in-Some.is in
    let down = arrive_down w.tree c.args.last links (look.means c.args.directory w) (look.means entry w) c.args.component.now xs
    c.requires.no_dot c.requires.no_dot_dot there in
    let shape = c.in_ok-kind.ensures.answer w seen ∙ c.in-Link.is in
    let stay : c.args.last ≡ Stay = search rules in
    let both : (is_last xs && stays c.args.last) ≡ true = λ i. (ends ∙ c.if-ends-2.true) i && stays (stay i) in (
      down ∙ link_stays (is_last xs) c.args.last _ _ _ (kind_at (look.means entry w)) shape both,
      λ e. cc (sym e ∙ shape),
      ends ∙ c.if-ends-2.true,
    )
