-- What a thread that opens files works on may be sent to it.
use denote.RattleType.{RattleType}
use mir.Syntax.{Sym, Ty}
use Rattle.std.proofs.Common.{ℕ, List, [], ◌∷◌}
use denote.Exit.{Kept}
use denote.Param.{param, arg}
use denote.Param.Send.{IsSend, IsSync, sendable, param_send, arg_send}
use denote.Param.SendFields.{declared_send, as_row_send}
use denote.Struct.Field.{row_field, u8-field, u64-field}
use denote.Struct.Tuple.{TupleAt, type_at}
use Rattle.std.proofs.Crossing as boxes
use Rattle.std.specs.contracts.sync.atomic.AtomicBool as flag

pub byte_sync : IsSync (u8-field).row
byte_sync = search sendable

pub number_sync : IsSync (u64-field).row
number_sync = search sendable

pub flag_sync : IsSync flag.the_row
flag_sync = search (sendable, boxes.crosses)

-- a closure that captures this many may be sent to a thread if all of them may
pub of_five : (i : ℕ) (layout : Ty) (kept : Kept) (name : Sym) (A B C D E : RattleType) → IsSend A → IsSend B → IsSend C →
    IsSend D → IsSend E →
    IsSend (param i (arg layout kept (TupleAt name (A ∷ B ∷ C ∷ D ∷ E ∷ []))))
of_five i layout kept name A B C D E a b c d e =
    let Ts : List RattleType = A ∷ B ∷ C ∷ D ∷ E ∷ [] in
    let whole : IsSend (TupleAt name Ts) =
    declared_send (type_at name Ts) (
      as_row_send (row_field A)
          a,
      (as_row_send (row_field B) b, (as_row_send (row_field C) c, (as_row_send (row_field D) d, (as_row_send (row_field E) e, tt)))),
    )
    in
    param_send i (arg layout kept (TupleAt name Ts)) (arg_send layout kept (TupleAt name Ts) whole)
