-- A map whose keys are bytes is empty where no look-up finds anything.
use Rattle.std.proofs.Common.{◌≡◌, ℕ, Bool, true, List, [], ◌∷◌, length, Some, None, sym, refl, ap, ◌∙◌, cond, arith}
use Rattle.std.specs.Prelude.{◌↔◌}
use Rattle.std.specs.Ordering.{is_eq, nat_cmp}
use Rattle.std.specs.Cmp.Lexicographic.{slice_cmp}
use Rattle.std.specs.declared.vec.Vec.{Vec}
use Rattle.std.specs.BTreeMap.{is_at}
use Rattle.std.specs.Map.{lookup}
use Rattle.std.proofs.lemmas.Map.Text.{is_eq-slice_cmp}
use Rattle.std.proofs.lemmas.Slice.Eq.{bytes_eq-Decides}
use Rattle.std.proofs.lemmas.Option.{none-some}

pub empty_bytes : {Z X : Type 0} (es : List (Vec ℕ Z × X)) → (length es ≡ 0)
    ↔ ((c : List ℕ) → lookup (is_at (λ k. slice_cmp nat_cmp c k.items)) es ≡ None)
empty_bytes [] = (λ h c. refl, λ h. refl)
empty_bytes (e ∷ es) = (
  (λ h. absurd (omega arith)),
  (λ h.
      let here : is_eq (slice_cmp nat_cmp e.0.items e.0.items) ≡ true = is_eq-slice_cmp e.0.items e.0.items
      ∙ (bytes_eq-Decides e.0.items e.0.items).1 refl in
      absurd (none-some e.1
      (sym (h e.0.items) ∙ ap (λ (b : Bool). cond b (Some e.1) (lookup (is_at (λ k. slice_cmp nat_cmp e.0.items k.items)) es)) here))),
)
