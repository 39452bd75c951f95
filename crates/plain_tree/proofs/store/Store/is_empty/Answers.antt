use Rattle.std.proofs.Common.{ap, sym, ◌∙◌, Option}
use Rattle.plain_tree.specs.declared.directory.Directory.{Directory}
use Rattle.plain_tree.specs.inner.Store.{node_of}
use Rattle.plain_tree.proofs.store.Store.is_empty.Goals as goal

pub returns-in-Some : goal.returns-in-Some
returns-in-Some c =
    let e = c.in-Some.ensures.value in (
      (λ t q. ap (λ (o : Option Directory). node_of o q) (sym e) ∙ c.is_empty.ensures.0 t q),
      (λ h. c.is_empty.ensures.1 (λ q. ap (λ (o : Option Directory). node_of o q) e ∙ h q)),
    )
