use Rattle.std.proofs.Common.{◌∙◌, sym, ap, subst, rules}
use Rattle.std.specs.Prelude.{ℕ, Option, Some, nat_eq}
use Rattle.std.specs.Option.{option_eq}
use Rattle.profile_registry.specs.laws.Prefixes.{prefix_self}
use Rattle.path_session.specs.inner.Shares.{IsInStep}
use Rattle.path_session.proofs.KeptRight.{all_later}
use Rattle.path_session.proofs.SharesKept.{same_step}
use Rattle.path_session.proofs.knowledge.Knowledge.read_policy.Goals as goal

pub invariant_of-self : goal.invariant_of-self
invariant_of-self c =
    let (some, share, right, step) = c.self.invariant in
    let forgotten = subst (IsInStep c.read_policy.new.reader) (sym c.take-learned.ensures.after) tt in
    (some, search rules, all_later _ _ _ _ _ _ (prefix_self _) c.read_policy.ensures.seen (λ e there. there) right, forgotten)

pub invariant_of-self-then-eq : goal.invariant_of-self-then-eq
invariant_of-self-then-eq c =
    let (some, share, right, step) = c.self.invariant in
    let known = c.take-learned.ensures.value in
    let same = ap (λ (v : Option ℕ). option_eq nat_eq v (Some c.in_ok-version.version)) (sym known) ∙ sym c.eq.ensures ∙ c.if-eq.true in
    let again = same_step c.self.inside.reader c.read_policy.new.reader c.self.inside.learned_version c.in_ok-version.version
    c.read_policy.ensures.seen c.read_policy.ensures.learned c.in_ok-version.ensures.version step same in (
      some,
      search rules,
      all_later _ _ _ _ _ _ (prefix_self _) c.read_policy.ensures.seen (λ e there. there) right,
      subst (IsInStep c.read_policy.new.reader) (sym known) again,
    )

pub invariant_of-self-else-eq : goal.invariant_of-self-else-eq
invariant_of-self-else-eq c =
    let (some, share, right, step) = c.self.invariant in
    let forgotten = subst (IsInStep c.read_policy.new.reader) (sym c.take-learned.ensures.after) tt in
    (some, search rules, all_later _ _ _ _ _ _ (prefix_self _) c.read_policy.ensures.seen (λ e there. there) right, forgotten)
