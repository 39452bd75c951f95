use Rattle.std.proofs.Common.{Some, refl}
use Rattle.names.specs.laws.ByteKeys.{updates_bytes}
use Rattle.plain_tree.proofs.directory.Directory.set.Goals as goal

pub returns-in-Some : goal.returns-in-Some
returns-in-Some c = record {
  parent = refl;
  nodes = updates_bytes c.args.component.now c.args.self.now.entries (c.get_mut.follows.lender c.args.node) (Some c.args.node)
      ((c.get_mut.follows.holds c.args.node).3 c.requires);
}
