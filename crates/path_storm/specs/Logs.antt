-- What the log of a storm says: how often each session opened, and which changes were made or refused.
use Rattle.std.specs.Prelude.{◌≡◌, ◌⊎◌, ◌≤◌, ◌+◌, ℕ, All, codes, vec_len}
use Rattle.std.specs.declared.vec.Vec.{Vec}
use Rattle.std.specs.declared.alloc.Global.{Global}
use Rattle.names.specs.declared.permissions.Permission.TheVariants.{Read}
use Rattle.names.specs.declared.permissions.Perms.{Perms}
use Rattle.names.specs.Permissions.{only}
use Rattle.directory_tree.specs.declared.change.Change.{Change}
use Rattle.directory_tree.specs.declared.change.Change.TheVariants.{Mkdir, Create, Rename}
use Rattle.matcher.specs.declared.profiles.PolicyChange.{PolicyChange}
use Rattle.matcher.specs.declared.profiles.PolicyChange.TheVariants.{Replace}
use Rattle.justification.specs.Justified.{Justified}
use Rattle.justification.specs.declared.answer.Answer.{Answer}
use Rattle.justification.specs.declared.answer.Answer.TheVariants.{NoEntry}
use Rattle.path_storm.specs.Counts.{IsCountOfOthers}
use Rattle.path_storm.specs.declared.setup.TheConstants.{FILE, PROFILE}
use Rattle.path_storm.specs.declared.log.SessionLog.{SessionLog}
use Rattle.path_storm.specs.declared.log.TreeLog.{TreeLog}
use Rattle.path_storm.specs.declared.log.PolicyLog.{PolicyLog}
use Rattle.path_storm.specs.declared.log.StormLog.{StormLog}
use Rattle.path_storm.specs.declared.plan.Plan.{Plan}

-- there was an entry into the policy
abbrev pub HasEntry : Answer → Type 0
HasEntry NoEntry = ⊥
HasEntry _ = Unit {0}

-- A session opened the file this often, by the storm's profile. It was let into the policy as often, less the opens that were
-- refused, and each answer is right for the changes that it has seen.
pub record IsOpenedBy (ask : Perms) (opens : ℕ) (own : SessionLog) : Type 0 where
  pub profile : own.session.profile ≡ PROFILE.now
  pub answers : vec_len own.answers ≡ opens
  pub refused : IsCountOfOthers HasEntry own.answers.items own.session.reading.refused
  pub entries : opens ≤ own.session.reading.entries + own.session.reading.refused
  pub justified : All (Justified PROFILE.now FILE.now ask own.session.walk.view.seen own.session.reading.seen) own.answers.items

-- as many sessions
abbrev pub AreOpened : Perms → ℕ → ℕ → Vec SessionLog Global → Type 0
AreOpened ask sessions opens all = (vec_len all ≡ sessions) × All (IsOpenedBy ask opens) all.items

-- a change of the tree in a storm: the directory, the file in it, and renames to and fro
abbrev pub IsOfStorm : Change → Type 0
IsOfStorm (Mkdir path) = path ≡ codes "/a"
IsOfStorm (Create path) = path ≡ FILE.now
IsOfStorm (Rename old new) = ((old ≡ codes "/a") × (new ≡ codes "/b")) ⊎ ((old ≡ codes "/b") × (new ≡ codes "/a"))
IsOfStorm _ = ⊥

-- this many changes of the tree were tried, each of them such a change; those that weren't made were refused
pub record IsTreeLog (tried : ℕ) (log : TreeLog) : Type 0 where
  pub count : vec_len log.made + vec_len log.refused ≡ tried
  pub each : All IsOfStorm log.made.items

-- the storm's profile is replaced
abbrev pub IsReplacement : PolicyChange → Type 0
IsReplacement (Replace name profile) = name.items ≡ PROFILE.now
IsReplacement _ = ⊥

-- the same of the policy
pub record IsPolicyLog (tried : ℕ) (log : PolicyLog) : Type 0 where
  pub count : vec_len log.made + vec_len log.refused ≡ tried
  pub each : All IsReplacement log.made.items

-- a storm of this plan: all opens are to read, and as many changes of either kind were tried as planned, after the directory, the
-- file and the first profile
pub record IsLogOf (plan : Plan) (log : StormLog) : Type 0 where
  pub ask : log.ask ≡ only Read
  pub opened : AreOpened log.ask plan.sessions plan.opens log.sessions
  pub tree : IsTreeLog (2 + plan.changes) log.tree
  pub policy : IsPolicyLog (1 + plan.changes) log.policy
