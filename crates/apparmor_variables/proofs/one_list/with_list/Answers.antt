use Rattle.std.proofs.Common.{◌≡◌, List, [], ◌∷◌, length, Some, sym, ap, ◌∙◌, subst, arith}
use Rattle.std.specs.Prelude.{slice_get}
use Rattle.apparmor_pieces.specs.Pieces.{Text}
use Rattle.apparmor_variables.specs.Variables.{fitting, each_with}
use Rattle.apparmor_variables.specs.inner.Gives.{Gives}
use Rattle.apparmor_variables.proofs.one_list.with_list.Goals as goal

-- a list of one text
only : (list : List Text) (text : Text) → length list ≡ 1 → slice_get list 0 ≡ Some text → text ∷ [] ≡ list
only [] text one at = absurd (omega arith)
only (t ∷ []) text one at = let h : t ≡ text = cc in ap (λ (x : Text). x ∷ []) (sym h)
only (t ∷ u ∷ list) text one at = absurd (omega arith)

pub returns-then-len-eq1 : goal.returns-then-len-eq1
returns-then-len-eq1 c =
    subst (λ (list : List Text). Gives c.each_with_end.result (fitting (each_with c.args.texts list)))
    (only c.args.list.now c.text.result.now (sym c.len.ensures ∙ c.if-len-eq1.true) c.text.ensures) c.each_with_end.ensures
