-- What a session knows of the tree and of the policy, and how an open ends by it.
use Rattle.std.specs.Prelude.{◌≡◌, ℕ, List, [], length, take, Option, IsSome, Result, Ok, Err}
use Rattle.std.specs.Option.{option_map}
use Rattle.std.specs.declared.alloc.Global.{Global}
use Rattle.std.specs.declared.sync.Arc.{Arc}
use Rattle.names.specs.declared.permissions.Perms.{Perms}
use Rattle.matcher.specs.declared.profiles.AnyProfile.{AnyProfile}
use Rattle.mediation.specs.Deeds.{policy_after}
use Rattle.mediation.specs.PolicyChanges.{judge_shared}
use Rattle.dentry_cache.specs.Walks.{Walk}
use Rattle.profile_registry.specs.Views.{Reading}
use Rattle.row_rule.specs.declared.count.Busy.{Busy}
use Rattle.row_rule.specs.Steps.{newcomer}
use Rattle.justification.specs.declared.answer.Answer.{Answer}
use Rattle.justification.specs.declared.answer.Answer.TheVariants as answer
use Rattle.verdict_cache.specs.Questions.{Asked}
use Rattle.path_session.specs.declared.quick.Opened.{Opened}

-- its walker, its reader of the policy, the profile that it opens by, what it read last under that name, and how often it answered
-- by a kept verdict, modulo 2^64
pub record Knowing : Type 0 where
  pub walk : Walk
  pub reading : Reading
  pub profile : List ℕ
  pub published : Option (Arc AnyProfile Global)
  pub kept_answers : ℕ

-- what it read last is what the policy has published under its name as far as it was seen
abbrev pub IsReadAt : Knowing → ℕ → Type 0
IsReadAt known policy =
    (option_map judge_shared known.published ≡ policy_after known.reading.seen known.profile) × (policy ≡ length known.reading.seen)

-- the same, and it is a profile
abbrev pub IsCurrent : Knowing → ℕ → Type 0
IsCurrent known policy = IsSome known.published × IsReadAt known policy

abbrev pub asked_by : Knowing → List ℕ → Perms → ℕ → ℕ → Asked
asked_by known path ask tree policy = record { path = path; profile = known.profile; ask = ask; tree = tree; policy = policy }

-- an answer names these versions, of those that it names
abbrev pub IsOfVersions : ℕ → ℕ → Answer → Type 0
IsOfVersions tree policy (answer.Judged verdict node tree_version policy_version) = (tree_version ≡ tree) × (policy_version ≡ policy)
IsOfVersions tree policy (answer.Failed errno tree_version) = tree_version ≡ tree
IsOfVersions tree policy (answer.NoProfile policy_version) = policy_version ≡ policy
IsOfVersions tree policy (answer.Busy began ended) = Unit {0}
IsOfVersions tree policy answer.NoEntry = Unit {0}

-- the answer to an open that ended so, by the policy of this version, and the name that it judged
abbrev pub answer_of : ℕ → Result Opened Busy → Answer
answer_of policy (Ok opened) = elim opened.file [
  | Ok file ↦ answer.Judged file.verdict file.node opened.tree_version policy
  | Err errno ↦ answer.Failed errno opened.tree_version
]
answer_of policy (Err busy) = answer.Busy busy.began busy.ended

abbrev pub name_of : List ℕ → Result Opened Busy → List ℕ
name_of room (Ok opened) = elim opened.file [ Ok file ↦ take file.name_length room | Err errno ↦ [] ]
name_of room (Err busy) = []

-- the view of a walker that is lent to a call, which no caller sees
abbrev pub no_walk : Walk
no_walk =
    record {
      table = record { words = 0; slots = 0; views_name = 0; atom = 0; block = 0; offset = 0; slot_names = [] };
      capacity = 0;
      view = newcomer;
    }
