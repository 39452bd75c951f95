-- A closure that captures five or six values may go to a thread where all of them may.
use denote.RattleType.{RattleType}
use mir.Syntax.{Sym, Ty}
use Rattle.std.proofs.Common.{List, [], ◌∷◌, ℕ}
use denote.Exit.{Kept}
use denote.Param.{param, arg}
use denote.Param.Send.{IsSend, param_send, arg_send}
use denote.Param.SendFields.{declared_send, as_row_send}
use denote.Struct.Field.{row_field}
use denote.Struct.Tuple.{TupleAt, type_at}

module _ (i : ℕ) (layout : Ty) (kept : Kept) (name : Sym) where
  pub of_five : (A B C D E : RattleType) → IsSend A → IsSend B → IsSend C → IsSend D → IsSend E →
      IsSend (param i (arg layout kept (TupleAt name (A ∷ B ∷ C ∷ D ∷ E ∷ []))))
  of_five A B C D E a b c d e =
      let Ts : List RattleType = A ∷ B ∷ C ∷ D ∷ E ∷ [] in
      let whole : IsSend (TupleAt name Ts) =
      declared_send (type_at name Ts) (
        as_row_send (row_field A) a,
        (
          as_row_send (row_field B) b,
          (
            as_row_send (row_field C) c,
            (
              as_row_send (row_field D) d,
              (as_row_send (row_field E) e, tt),
            ),
          ),
        ),
      ) in
      param_send i (arg layout kept (TupleAt name Ts)) (arg_send layout kept (TupleAt name Ts) whole)

  pub of_six : (A B C D E F : RattleType) → IsSend A → IsSend B → IsSend C → IsSend D → IsSend E → IsSend F →
      IsSend (param i (arg layout kept (TupleAt name (A ∷ B ∷ C ∷ D ∷ E ∷ F ∷ []))))
  of_six A B C D E F a b c d e f =
      let Ts : List RattleType = A ∷ B ∷ C ∷ D ∷ E ∷ F ∷ [] in
      let whole : IsSend (TupleAt name Ts) =
      declared_send (type_at name Ts) (
        as_row_send (row_field A) a,
        (
          as_row_send (row_field B) b,
          (
            as_row_send (row_field C) c,
            (
              as_row_send (row_field D) d,
              (as_row_send (row_field E) e, (as_row_send (row_field F) f, tt)),
            ),
          ),
        ),
      ) in
      param_send i (arg layout kept (TupleAt name Ts)) (arg_send layout kept (TupleAt name Ts) whole)
