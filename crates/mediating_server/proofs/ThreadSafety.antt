-- What the threads of the server work on may move to them, or be shared with them.
use denote.RattleType.{RattleType}
use base.Fml.{Lft}
use mir.Syntax.{Lifetime, Sym, Ty}
use Rattle.std.proofs.Common.{ℕ, List, [], ◌∷◌}
use denote.Exit.{Kept}
use denote.Param.{param, arg}
use denote.Param.Send.{IsSend, IsSync, sendable, param_send, arg_send}
use denote.Param.SendFields.{declared_send, as_row_send}
use denote.Struct.Field.{row_field}
use denote.Struct.Tuple.{TupleAt, type_at}
use Rattle.std.proofs.Crossing as boxes
use Rattle.path_session.specs.laws.ThreadSafety.{session_send}
use Rattle.path_guard.specs.laws.ThreadSafety.{guard_sync}
use Rattle.guarded_row.specs.declared.row.Row as row
use Rattle.mediating_server.specs.contracts.desk.Requests as requests
use Rattle.mediating_server.specs.contracts.desk.Desk as desk
use Rattle.mediating_server.specs.contracts.worker.Worker as worker
use Rattle.mediating_server.specs.contracts.server.Scene as scene

module _ (I O : RattleType) (input : IsSend I) (output : IsSend O) where
  requests_send : IsSend (requests.the_row I)
  requests_send = search sendable depth 40 fits 20000

  pub desk_sync : IsSync (desk.the_row I O)
  desk_sync = search (sendable, requests_send, boxes.crosses) depth 40 fits 20000

  pub scene_sync : (name : Lifetime) (life : Lft) → IsSync (scene.the_row (record { mir = name; lft = life }) I O)
  scene_sync name life = search (sendable, desk_sync, boxes.crosses) depth 40 fits 20000

pub worker_send : (M : RattleType) (g : row.Ghosts M.Denot) → IsSend M → (name : Lifetime) (life : Lft) →
    IsSend (worker.the_row (record { mir = name; lft = life }) M g)
worker_send M g send name life = search (sendable, session_send, guard_sync, boxes.crosses) depth 40 fits 20000

-- a closure that captures three values may go to a thread where all of them may
module _ (i : ℕ) (layout : Ty) (kept : Kept) (name : Sym) where
  pub of_three : (A B C : RattleType) → IsSend A → IsSend B → IsSend C → IsSend (param i (arg layout kept (TupleAt name (A ∷ B ∷ C ∷ []))))
  of_three A B C a b c =
      let Ts : List RattleType = A ∷ B ∷ C ∷ [] in
      let whole : IsSend (TupleAt name Ts) = declared_send (type_at name Ts)
      (as_row_send (row_field A) a, (as_row_send (row_field B) b, (as_row_send (row_field C) c, tt))) in
      param_send i (arg layout kept (TupleAt name Ts)) (arg_send layout kept (TupleAt name Ts) whole)
