use Rattle.std.proofs.Common.{◌≡◌, ◌∙◌, false, sym, ap, subst, rules}
use Rattle.std.specs.Prelude.{is_some}
use mathlib.Core.List.{IsPrefix}
use Rattle.path_session.specs.inner.Shares.{IsInStep}
use Rattle.path_session.proofs.KeptRight.{right_published}
use Rattle.path_session.proofs.knowledge.Knowledge.read_published.Goals as goal

pub invariant_of-self : goal.invariant_of-self
invariant_of-self c =
    let (some, share, right, step) = c.self.invariant in
    let begins : IsPrefix c.self.inside.reader.learned c.args.publisher.now.published = search rules in
    let forgotten = subst (IsInStep c.read_published.new.reader) (sym c.take-learned.ensures.after) tt in
    let known = c.is_some.ensures ∙ ap is_some c.take-learned.ensures.value in
    let none = λ (unknown : is_some c.self.inside.learned_version ≡ false). c.keep_if.ensures.none (known ∙ unknown) in (
      some,
      search rules,
      right_published _ c.self.inside.reader _ c.args.publisher.now.published c.self.inside.learned_version _ _ step begins
          c.read_published.ensures.longer none c.keep_if.ensures.entries right,
      forgotten,
    )

pub invariant_of-self-2 : goal.invariant_of-self-2
invariant_of-self-2 c =
    let (some, share, right, step) = c.self.invariant in
    let begins : IsPrefix c.self.inside.reader.learned c.args.publisher.now.published = search rules in
    let known = c.is_some.ensures ∙ ap is_some c.take-learned.ensures.value in
    let none = λ (unknown : is_some c.self.inside.learned_version ≡ false). c.keep_if.ensures.none (known ∙ unknown) in (
      some,
      search rules,
      right_published _ c.self.inside.reader _ c.args.publisher.now.published c.self.inside.learned_version _ _ step begins
          c.read_published.ensures.longer none c.keep_if.ensures.entries right,
      search rules,
    )
