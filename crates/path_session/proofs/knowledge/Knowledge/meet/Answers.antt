use Rattle.std.proofs.Common.{refl, sym, ap, ◌∙◌, subst, rules}
use Rattle.std.specs.Prelude.{List, Option}
use Rattle.std.specs.Option.{unwrap_or}
use mathlib.Core.List.{IsPrefix}
use Rattle.dentry_cache.specs.Walks.{Walk}
use Rattle.directory_tree.specs.declared.change.Change.{Change}
use Rattle.profile_registry.specs.laws.Prefixes.{prefix_self}
use Rattle.path_session.specs.inner.Knowledge.{no_walk}
use Rattle.path_session.proofs.KeptRight.{all_later}
use Rattle.path_session.proofs.knowledge.Knowledge.meet.Goals as goal

pub invariant_of-self : goal.invariant_of-self
invariant_of-self c =
    let (some, share, right, step) = c.self.invariant in
    let mine = ap (λ (w : Option Walk). (unwrap_or w no_walk).view.seen) (sym c.take.ensures.value ∙ c.in-Some.is) in
    let met : IsPrefix c.in-Some.walker.view.seen c.meet.new.walker.view.seen = search rules in
    let longer = subst (λ (seen : List Change). IsPrefix seen c.meet.new.walker.view.seen) (sym mine) met in
    (refl, share, all_later _ _ _ _ _ _ longer (prefix_self _) (λ e there. there) right, step)
