-- What the threads of a storm work on may move to them, or be shared with them.
use denote.RattleType.{RattleType}
use base.Fml.{Lft}
use mir.Syntax.{Lifetime}
use denote.Param.Send.{IsSend, IsSync, sendable}
use denote.Struct.Field.{u64-field}
use Rattle.std.proofs.Crossing as boxes
use Rattle.profile_registry.specs.laws.ThreadSafety.{any_send, any_sync}
use Rattle.path_session.specs.laws.ThreadSafety.{session_send}
use Rattle.path_guard.specs.laws.ThreadSafety.{guard_sync}
use Rattle.test_parts.proofs.draws.Random.TheSendSync as random_crosses
use Rattle.test_parts.proofs.rounds.Rounds.TheSendSync as rounds
use Rattle.guarded_row.specs.declared.row.Row as row
use Rattle.test_parts.specs.contracts.draws.Random as random
use Rattle.random_storms.specs.contracts.opens.sessions.Opener as opener
use Rattle.storm_parts.specs.contracts.questions.Question as question
use Rattle.random_storms.specs.contracts.opens.scene.Scene as scene

pub number_send : IsSend (u64-field).row
number_send = search sendable

pub random_send : IsSend random.the_row
random_send = random_crosses.the_send

question_sync : IsSync question.the_row
question_sync = search (sendable, boxes.crosses) depth 40 fits 20000

module _ (M : RattleType) (g : row.Ghosts M.Denot) where
  pub opener_send : IsSend M → IsSend (opener.the_row M g)
  opener_send send = search (sendable, session_send, boxes.crosses) depth 40 fits 20000

  pub scene_sync : IsSend M → (name : Lifetime) (life : Lft) → IsSync (scene.the_row (record { mir = name; lft = life }) M g)
  scene_sync send name life = search (sendable, guard_sync, question_sync, rounds.the_sync, any_send, any_sync, boxes.crosses)
      depth 40 fits 20000
