-- Changes that were tried.
use Rattle.std.proofs.Common.{◌≡◌, ◌+◌, ◌++◌, ℕ, [], ◌∷◌, arith}
use Rattle.std.proofs.lemmas.List.Elements.{All-nil, All-append, All-push}
use Rattle.names.specs.declared.errors.Errno.{Errno}
use Rattle.directory_tree.specs.declared.change.Change.{Change}
use Rattle.matcher.specs.declared.profiles.PolicyChange.{PolicyChange}
use Rattle.path_storm.specs.Logs.{IsOfStorm, IsTreeLog, IsReplacement, IsPolicyLog}
use Rattle.path_storm.specs.declared.log.TreeLog.{TreeLog}
use Rattle.path_storm.specs.declared.log.PolicyLog.{PolicyLog}
use Rattle.path_storm.proofs.Pushed.{both, none_yet, one_more}

pub no_tree : (log : TreeLog) → log.made.items ≡ [] → log.refused.items ≡ [] → IsTreeLog 0 log
no_tree log is nor =
    record { count = omega (arith, none_yet log.made is, none_yet log.refused nor); each = rw is (All-nil IsOfStorm) }

pub tree_made : (tried : ℕ) (before now : TreeLog) (change : Change) → now.made.items ≡ before.made.items ++ change ∷ []
    → now.refused ≡ before.refused → IsOfStorm change → IsTreeLog tried before → IsTreeLog (tried + 1) now
tree_made tried before now change is same ours log = record {
  count = rw same (omega (arith, one_more before.made now.made change is, log.count));
  each = rw is (All-push IsOfStorm before.made.items change log.each ours);
}

pub tree_refused : (tried : ℕ) (before now : TreeLog) (errno : Errno) → now.made ≡ before.made
    → now.refused.items ≡ before.refused.items ++ errno ∷ [] → IsTreeLog tried before → IsTreeLog (tried + 1) now
tree_refused tried before now errno same is log = record {
  count = rw same (omega (arith, one_more before.refused now.refused errno is, log.count));
  each = rw same log.each;
}

pub tree_follows : (tried more : ℕ) (before those now : TreeLog) → now.made.items ≡ before.made.items ++ those.made.items
    → now.refused.items ≡ before.refused.items ++ those.refused.items → IsTreeLog tried before → IsTreeLog more those
    → IsTreeLog (tried + more) now
tree_follows tried more before those now made refused log then = record {
  count =
      omega (
        arith,
        both before.made those.made now.made made,
        both before.refused those.refused now.refused refused,
        log.count,
        then.count,
      );
  each = rw made (All-append IsOfStorm before.made.items those.made.items log.each then.each);
}

pub no_policy : (log : PolicyLog) → log.made.items ≡ [] → log.refused.items ≡ [] → IsPolicyLog 0 log
no_policy log is nor =
    record { count = omega (arith, none_yet log.made is, none_yet log.refused nor); each = rw is (All-nil IsReplacement) }

pub policy_made : (tried : ℕ) (before now : PolicyLog) (change : PolicyChange) → now.made.items ≡ before.made.items ++ change ∷ []
    → now.refused ≡ before.refused → IsReplacement change → IsPolicyLog tried before → IsPolicyLog (tried + 1) now
policy_made tried before now change is same ours log = record {
  count = rw same (omega (arith, one_more before.made now.made change is, log.count));
  each = rw is (All-push IsReplacement before.made.items change log.each ours);
}

pub policy_refused : (tried : ℕ) (before now : PolicyLog) (errno : Errno) → now.made ≡ before.made
    → now.refused.items ≡ before.refused.items ++ errno ∷ [] → IsPolicyLog tried before → IsPolicyLog (tried + 1) now
policy_refused tried before now errno same is log = record {
  count = rw same (omega (arith, one_more before.refused now.refused errno is, log.count));
  each = rw same log.each;
}

pub policy_follows : (tried more : ℕ) (before those now : PolicyLog) → now.made.items ≡ before.made.items ++ those.made.items
    → now.refused.items ≡ before.refused.items ++ those.refused.items → IsPolicyLog tried before → IsPolicyLog more those
    → IsPolicyLog (tried + more) now
policy_follows tried more before those now made refused log then = record {
  count =
      omega (
        arith,
        both before.made those.made now.made made,
        both before.refused those.refused now.refused refused,
        log.count,
        then.count,
      );
  each = rw made (All-append IsReplacement before.made.items those.made.items log.each then.each);
}
