-- What the threads of a storm work on may be sent to them, or shared with them.
use denote.RattleType.{RattleType}
use denote.Param.Send.{IsSend, IsSync, sendable}
use Rattle.std.proofs.Crossing as boxes
use Rattle.profile_registry.specs.laws.ThreadSafety.{any_send, any_sync}
use Rattle.path_session.specs.laws.ThreadSafety.{session_send}
use Rattle.guarded_row.specs.declared.row.Row as row
use Rattle.path_storm.specs.contracts.profiles.Profiles as profiles
use Rattle.path_storm.specs.contracts.log.SessionLog as session_log
use Rattle.path_storm.specs.contracts.worker.Worker as worker
use Rattle.path_storm.specs.contracts.worker.Opens as opens
use Rattle.path_storm.specs.contracts.renames.Renames as renames
use Rattle.path_storm.specs.contracts.replacements.Replacements as replacements

pub opens_send : IsSend opens.the_row
opens_send = search sendable depth 20

pub renames_send : IsSend renames.the_row
renames_send = search sendable

pub replacements_send : IsSend replacements.the_row
replacements_send = search sendable

pub session_log_send : IsSend session_log.the_row
session_log_send = search (sendable, session_send, boxes.crosses) depth 40 fits 20000

pub profiles_sync : IsSync profiles.the_row
profiles_sync = search (sendable, any_send, any_sync, boxes.crosses) depth 40 fits 20000

module _ (M : RattleType) (g : row.Ghosts M.Denot) where
  pub worker_send : IsSend M → IsSend (worker.the_row M g)
  worker_send send = search (sendable, session_send, boxes.crosses) depth 40 fits 20000
