use Rattle.plain_tree.proofs.EmptyKeys.{empty_bytes}
use Rattle.plain_tree.proofs.directory.Directory.is_empty.Goals as goal

pub returns : goal.returns
returns c = let e = empty_bytes c.args.self.now.entries.entries in
    ((λ t. e.0 (c.is_empty.ensures.0 t)), (λ h. c.is_empty.ensures.1 (e.1 h)))
