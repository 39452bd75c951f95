use Rattle.std.proofs.Common.{◌≡◌, Some, sym, subst, ap, ◌∙◌}
use Rattle.plain_tree.specs.declared.entry.PlainEntry.TheVariants as entry
use Rattle.directory_tree.specs.Plain.{tree_of}
use Rattle.directory_tree.specs.Tree.{Tree}
use Rattle.directory_tree.specs.Walk.{Spot}
use Rattle.directory_tree.specs.Walk.Spot.{Root}
use Rattle.directory_tree.specs.Spots.{directory_of}
use Rattle.plain_tree.specs.PlainEntry.{means_in}
use Rattle.directory_tree.proofs.Histories.{plain_well}
use Rattle.plain_tree.proofs.Entries.{directory_known, parent_some, parent_none}
use Rattle.plain_tree.proofs.look.PlainTreeLook.parent.Goals as goal

pub returns-in-Some-clause-known : goal.returns-in-Some-clause-known
returns-in-Some-clause-known c =
    let k = parent_some (tree_of c.args.self.now) c.in-Held.key.of c.in-Some.parent.now c.new.result (plain_well c.args.self.now)
    c.in-Some.ensures.parent c.new.ensures.of (c.new.ensures.component ∙ c.as_bytes.ensures) in
    (c.new.ensures.fits, k.0)

pub returns-in-Some-clause-answer : goal.returns-in-Some-clause-answer
returns-in-Some-clause-answer c = λ w sees.
    let k = parent_some (tree_of c.args.self.now) c.in-Held.key.of c.in-Some.parent.now c.new.result (plain_well c.args.self.now)
    c.in-Some.ensures.parent c.new.ensures.of (c.new.ensures.component ∙ c.as_bytes.ensures) in
    subst (λ (t : Tree). directory_of t (means_in t c.args.entry) ≡ Some (means_in t (entry.Held c.new.result))) (sym sees)
    (directory_known (tree_of c.args.self.now) c.args.entry c.in-Held.key c.in-Held.is c.requires ∙ ap (λ (s : Spot). Some s) k.1)

pub returns-in-None-clause-answer : goal.returns-in-None-clause-answer
returns-in-None-clause-answer c = λ w sees.
    subst (λ (t : Tree). directory_of t (means_in t c.args.entry) ≡ Some Root) (sym sees)
    (directory_known (tree_of c.args.self.now) c.args.entry c.in-Held.key c.in-Held.is c.requires ∙ ap (λ (s : Spot). Some s)
    (parent_none (tree_of c.args.self.now) c.in-Held.key.of c.in-None.ensures.parent))
