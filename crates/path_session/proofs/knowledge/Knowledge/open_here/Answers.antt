use Rattle.std.proofs.Common.{◌≡◌, ℕ, List, length, sym, ap, ◌∙◌, subst, rules}
use Rattle.std.specs.Option.{unwrap_or}
use mathlib.Core.List.{IsPrefix}
use Rattle.dentry_cache.specs.Models.{Held}
use Rattle.directory_tree.specs.declared.change.Change.{Change}
use Rattle.directory_tree.specs.Plain.{tree_of}
use Rattle.mediation.specs.Opens.{reached}
use Rattle.profile_registry.specs.laws.Prefixes.{prefix_self}
use Rattle.path_session.specs.inner.Knowledge.{no_walk, asked_by}
use Rattle.kept_verdicts.specs.KeptFiles.{kept_of}
use Rattle.path_session.specs.KeeperStates.{plain_of}
use Rattle.path_session.specs.inner.Right.{IsRightFor}
use Rattle.path_session.proofs.KeptRight.{all_later, found_right}
use Rattle.path_session.proofs.knowledge.Knowledge.open_here.Goals as goal

pub invariant_of-self : goal.invariant_of-self
invariant_of-self c =
    let (some, share, right, step) = c.self.invariant in
    (some, share, all_later _ _ _ _ _ _ (prefix_self _) (prefix_self _) c.look.ensures.entries right, step)

pub returns-in-Some-clause-right : goal.returns-in-Some-clause-right
returns-in-Some-clause-right c =
    let (some, share, right, step) = c.self.invariant in
    let own = c.args.self.now in
    let history = c.args.keeper.now.history in
    let changes = (unwrap_or c.self.inside.walker no_walk).view.seen in
    let kept = kept_of c.look.new.room c.in-Some.file in
    let all : changes ≡ history = search rules in
    let longer = subst (λ (later : List Change). IsPrefix changes later) all (prefix_self changes) in
    let same : c.self.inside.reader.seen ≡ own.reading.seen = search rules in
    let named : c.deref.result.now ≡ own.profile = search rules in
    let version : c.version-tree_version.result ≡ length history = search rules in
    let found = found_right changes history _ own.reading.seen c.self.inside.verdicts c.args.path.now c.deref.result.now own.profile
    c.args.ask c.version-tree_version.result c.args.policy_version kept longer same named right c.in-Some.ensures.found in
    subst (λ (tree : ℕ). IsRightFor history own.reading.seen (asked_by own c.args.path.now c.args.ask tree c.args.policy_version) kept)
    version found

pub invariant_of-self-in_default : goal.invariant_of-self-in_default
invariant_of-self-in_default c =
    let (some, share, right, step) = c.self.invariant in
    (some, share, all_later _ _ _ _ _ _ (prefix_self _) (prefix_self _) c.look.ensures.entries right, step)

pub returns-in-Err-clause-fault : goal.returns-in-Err-clause-fault
returns-in-Err-clause-fault c =
    ap (λ (k : Held). reached (tree_of (plain_of k)) c.args.path.now c.args.ask) (sym c.meets_its_history.ensures.same)
    ∙ c.in-Err.ensures.end
