use Rattle.std.proofs.Common.{◌≡◌, ℕ, List, refl, sym, ap, ◌∙◌, subst, rules}
use Rattle.std.specs.Prelude.{Option, IfOk}
use Rattle.std.specs.Option.{unwrap_or}
use mathlib.Core.List.{IsPrefix}
use Rattle.dentry_cache.specs.Walks.{Walk}
use Rattle.directory_tree.specs.declared.change.Change.{Change}
use Rattle.profile_registry.specs.laws.Prefixes.{prefix_self}
use Rattle.path_session.specs.inner.Knowledge.{no_walk, asked_by}
use Rattle.row_rule.specs.declared.view.WalkerView.{WalkerView}
use Rattle.verdict_cache.specs.Questions.{Kept}
use Rattle.path_session.specs.inner.Attempts.{HasTried}
use Rattle.path_session.specs.inner.Right.{IsRightFor}
use Rattle.path_session.proofs.KeptRight.{all_later, found_right, tried_on}
use Rattle.path_session.proofs.knowledge.Knowledge.try_walk.Goals as goal

pub invariant_of-self : goal.invariant_of-self
invariant_of-self c =
    let (some, share, right, step) = c.self.invariant in
    let mine = ap (λ (w : Option Walk). (unwrap_or w no_walk).view.seen) (sym c.take.ensures.value ∙ c.in-Some.is) in
    let longer = subst (λ (seen : List Change). IsPrefix seen c.attempt-walker.result.0.view.seen) (sym mine)
    c.attempt-walker.ensures.seen in
    (refl, share, all_later _ _ _ _ _ _ longer (prefix_self _) c.attempt-walker.ensures.entries right, step)

pub returns-clause-ok : goal.returns-clause-ok
returns-clause-ok c =
    let (some, share, right, step) = c.self.invariant in
    let own = c.args.self.now in
    let now = c.attempt-walker.result.0.view in
    let mine = ap (λ (w : Option Walk). (unwrap_or w no_walk).view.seen) (sym c.take.ensures.value ∙ c.in-Some.is) in
    let longer = subst (λ (seen : List Change). IsPrefix seen now.seen) (sym mine) c.attempt-walker.ensures.seen in
    let same : c.self.inside.reader.seen ≡ own.reading.seen = search rules in
    let named : c.deref.result.now ≡ own.profile = search rules in
    let walker : c.in-Some.walker.view ≡ own.walk.view = search rules in
    let known = λ (version : ℕ) (kept : Kept).
    found_right _ now.seen _ own.reading.seen c.self.inside.verdicts c.args.path.now c.deref.result.now own.profile c.args.ask version
    c.args.policy_version kept longer same named right in
    let Known = λ (version : ℕ). IsRightFor now.seen own.reading.seen
    (asked_by own c.args.path.now c.args.ask version c.args.policy_version) in
    let tried = tried_on c.in-Some.walker.view now _ Known c.args.path.now c.args.ask c.attempt-walker.new.room c.attempt-walker.result.1
    known c.attempt-walker.ensures.ok in
    subst (λ (before : WalkerView). IfOk c.attempt-walker.result.1 (HasTried before now Known c.args.path.now c.args.ask
    c.attempt-walker.new.room)) walker tried
