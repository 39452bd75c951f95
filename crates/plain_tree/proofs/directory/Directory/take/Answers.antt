use Rattle.std.proofs.Common.{None, refl}
use Rattle.names.specs.laws.ByteKeys.{updates_bytes}
use Rattle.plain_tree.proofs.directory.Directory.take.Goals as goal

pub returns-clause-new : goal.returns-clause-new
returns-clause-new c = record {
  parent = refl;
  nodes = updates_bytes c.args.component.now c.args.self.now.entries c.remove.new.self None
      c.remove.ensures.updates;
}
