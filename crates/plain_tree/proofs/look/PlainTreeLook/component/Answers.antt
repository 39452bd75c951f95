use Rattle.std.proofs.Common.{◌≡◌, sym, subst}
use Rattle.directory_tree.specs.Plain.{tree_of}
use Rattle.directory_tree.specs.Tree.{Tree}
use Rattle.directory_tree.specs.Spots.{component_at}
use Rattle.plain_tree.specs.PlainEntry.{means_in, key_component}
use Rattle.plain_tree.proofs.Entries.{component_known}
use Rattle.plain_tree.proofs.look.PlainTreeLook.component.Goals as goal

pub returns-in-Held-clause-answer : goal.returns-in-Held-clause-answer
returns-in-Held-clause-answer c = λ w sees. subst (λ (t : Tree). component_at (means_in t c.args.entry) ≡ key_component c.in-Held.key)
    (sym sees) (component_known (tree_of c.args.self.now) c.args.entry c.in-Held.key c.in-Held.is c.requires)
