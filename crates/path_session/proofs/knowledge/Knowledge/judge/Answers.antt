use Rattle.std.proofs.Common.{◌≡◌, List, ℕ, length, take, Some, sym, subst, rules}
use Rattle.std.specs.Option.{unwrap_or}
use Rattle.justification.specs.Versions.{IsTreeAt}
use Rattle.mediation.specs.Deeds.{policy_after}
use Rattle.mediation.specs.Judge.{verdict_by}
use Rattle.mediation.specs.Judgments.{reached_of}
use Rattle.mediation.specs.PolicyChanges.{judge_shared}
use Rattle.verdict_cache.specs.Questions.{Kept}
use Rattle.path_session.specs.inner.Knowledge.{no_walk}
use Rattle.path_session.specs.inner.Right.{IsRightFor}
use Rattle.path_session.proofs.KeptRight.{one_more, judged_right}
use Rattle.path_session.proofs.knowledge.Knowledge.judge.Goals as goal

pub invariant_of-self : goal.invariant_of-self
invariant_of-self c =
    let (some, share, right, step) = c.self.invariant in
    let changes = (unwrap_or c.self.inside.walker no_walk).view.seen in
    let seen = c.self.inside.reader.seen in
    let own = c.self.inside.profile.items in
    let (t, at, is) = c.requires.reached in
    let file = reached_of c.args.room.now c.args.file.now in
    let judge = judge_shared c.in-Some.profile in
    let there : IsTreeAt changes c.args.tree_version t = search rules in
    let published : policy_after seen own ≡ Some judge = search rules in
    let whole : c.args.policy_version ≡ length seen = search rules in
    let says : c.judge_name.result ≡ verdict_by judge (take c.args.file.now.name_length c.args.room.now) c.args.ask = search rules in
    let new = judged_right changes seen own c.args.path.now c.args.ask c.args.tree_version c.args.policy_version t file judge
    c.judge_name.result there is published whole says in
    let name = take c.args.file.now.name_length c.args.room.now in
    let kept : Kept = record { verdict = c.judge_name.result; node = c.args.file.now.node; name = name } in
    let asked = subst (λ (profile : List ℕ). IsRightFor changes seen (record {
      path = c.args.path.now;
      profile = profile;
      ask = c.args.ask;
      tree = c.args.tree_version;
      policy = c.args.policy_version;
    }) kept) (sym c.deref-2.ensures.value) new in
    (some, share, one_more _ _ _ _ _ _ c.keep.ensures right asked, step)
