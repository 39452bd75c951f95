use Rattle.std.proofs.Common.{Some, refl}
use Rattle.names.specs.laws.ByteKeys.{updates_bytes}
use Rattle.plain_tree.proofs.directory.Directory.put.Goals as goal

pub returns-in-Ok-clause-ok : goal.returns-in-Ok-clause-ok
returns-in-Ok-clause-ok c = record {
  parent = refl;
  nodes = updates_bytes c.args.component.items c.args.self.now.entries c.insert.new.self
      (Some c.args.node) c.in-Ok.ensures.updates;
}
