-- Hits that are read permission by permission.
use Rattle.std.proofs.Common.{◌≡◌, ⊎_elim, ℕ, ◌+◌, ◌==◌, ◌<◌, List, length, get_or, sym, ap, ◌∙◌, arith}
use Rattle.std.proofs.Math.ListN.{set}
use Rattle.std.proofs.lemmas.Bool.{cases_lt, cases_Bool, eqb-true, eqb-false}
use Rattle.std.proofs.lemmas.List.{get_or-set_same, get_or-set_other}
use Rattle.names.specs.declared.permissions.Permission.{Permission}
use Rattle.names.specs.Permissions.{all_permissions, index}
use Rattle.names.specs.Least.{no_hit}
use Rattle.names.specs.declared.record.LeastHits.{LeastHits}

module _ (hits : Permission → LeastHits) where
  -- the permissions before i have their hits
  abbrev pub AreFilledBefore : ℕ → List LeastHits → Type 0
  AreFilledBefore i list = (p : Permission) → index p < i → get_or list (index p) no_hit ≡ hits p

  pub filled_more : ((p other : Permission) → get_or all_permissions (index p) other ≡ p) →
      (i : ℕ) (list : List LeastHits) (q : Permission) (k : ℕ) (h : LeastHits) → index q ≡ i → k ≡ index q → i < length list → h ≡ hits q →
      AreFilledBefore i list → AreFilledBefore (i + 1) (set list k h)
  filled_more there i list q k h at place lt is before p low = ⊎_elim
      (λ same.
      let here : index p ≡ k = eqb-true (index p) k same in
      let one : q ≡ p = sym (there q p) ∙ ap (λ z. get_or all_permissions z p) (sym place ∙ sym here) ∙ there p p in
      ap (λ z. get_or (set list k h) z no_hit) here ∙ get_or-set_same list k h no_hit (omega (arith, place, at, lt)) ∙ is ∙ ap hits one)
      (λ other.
      let apart = eqb-false (index p) k other in
      get_or-set_other list k (index p) h no_hit apart
      ∙ before p (⊎_elim (λ l. l) (λ le. absurd (apart (omega (arith, le, low, at, place)))) (cases_lt (index p) i)))
      (cases_Bool (index p == k))
