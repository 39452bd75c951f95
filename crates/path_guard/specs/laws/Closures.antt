-- A closure that captures three or four values may go to a thread where all of them may.
use denote.RattleType.{RattleType}
use mir.Syntax.{Sym, Ty}
use Rattle.std.proofs.Common.{ℕ, List, [], ◌∷◌}
use denote.Exit.{Kept}
use denote.Param.{param, arg}
use denote.Param.Send.{IsSend, param_send, arg_send}
use denote.Param.SendFields.{declared_send, as_row_send}
use denote.Struct.Field.{row_field}
use denote.Struct.Tuple.{TupleAt, type_at}

module _ (i : ℕ) (layout : Ty) (kept : Kept) (name : Sym) where
  pub of_four : (A B C D : RattleType) → IsSend A → IsSend B → IsSend C → IsSend D →
      IsSend (param i (arg layout kept (TupleAt name (A ∷ B ∷ C ∷ D ∷ []))))
  of_four A B C D a b c d =
      let Ts : List RattleType = A ∷ B ∷ C ∷ D ∷ [] in
      let whole : IsSend (TupleAt name Ts) =
      declared_send (type_at name Ts)
      (as_row_send (row_field A) a, (as_row_send (row_field B) b, (as_row_send (row_field C) c, (as_row_send (row_field D) d, tt)))) in
      param_send i (arg layout kept (TupleAt name Ts)) (arg_send layout kept (TupleAt name Ts) whole)

  pub of_three : (A B C : RattleType) → IsSend A → IsSend B → IsSend C → IsSend (param i (arg layout kept (TupleAt name (A ∷ B ∷ C ∷ []))))
  of_three A B C a b c =
      let Ts : List RattleType = A ∷ B ∷ C ∷ [] in
      let whole : IsSend (TupleAt name Ts) = declared_send (type_at name Ts)
      (as_row_send (row_field A) a, (as_row_send (row_field B) b, (as_row_send (row_field C) c, tt))) in
      param_send i (arg layout kept (TupleAt name Ts)) (arg_send layout kept (TupleAt name Ts) whole)
