-- The closure of one more entry.
use Rattle.std.proofs.Common.{◌≡◌, ◌⊎◌, ◌↔◌, inl, inr, ⊎_elim, ◌==◌, ◌||◌, ◌++◌, ◌<◌, true, false, true≢false, ℕ, zero, suc, List, [], ◌∷◌}
use Rattle.std.proofs.Common.{length, Some, slice_get, slice_index_or, refl, sym, ap, ◌∙◌, subst}
use Rattle.std.proofs.Math.Bool.{or-true}
use Rattle.std.proofs.lemmas.Bool.{eqb-true}
use Rattle.std.proofs.lemmas.Bool.Decides.{eqb_tells}
use Rattle.std.proofs.lemmas.Option.{none-some, same_Some, slice_get_read}
use Rattle.glob_automaton.specs.declared.chart.Entry.{Entry}
use Rattle.glob_automaton.specs.declared.chart.Entry.TheVariants as entry
use Rattle.glob_automaton.specs.inner.Chart.{IsIn, at_place, at_run, past_run, one_side, other_side}
use Rattle.glob_automaton.specs.inner.PlaceBits.{has_place}
use Rattle.glob_automaton.proofs.DrawingLaws.{in_nothing, in_place, in_run, in_either}
use Rattle.glob_automaton.proofs.PlaceLists.{either_has}

-- what holds of each element of a list, and of one that is appended
pub pushed_each : {X : Type 0} (P : ℕ → X → Type 0) (xs : List X) (x : X) → ((i : ℕ) (y : X) → slice_get xs i ≡ Some y → P i y) →
    P (length xs) x →
    (i : ℕ) (y : X) → slice_get (xs ++ x ∷ []) i ≡ Some y → P i y
pushed_each P [] x all new zero y at = subst (P 0) (same_Some x y at) new
pushed_each P [] x all new (suc i) y at = absurd (none-some y at)
pushed_each P (z ∷ xs) x all new zero y at = all zero y at
pushed_each P (z ∷ xs) x all new (suc i) y at = pushed_each (λ k w. P (suc k) w) xs x (λ k w there. all (suc k) w there) new i y at

-- the entry that was read is there
pub entry_stands : (entries : List Entry) (e : ℕ) (read x : Entry) → e < length entries → read ≡ slice_index_or entries e read → read ≡ x →
    slice_get entries e ≡ Some x
entry_stands entries e read x within at is = slice_get_read entries _ e read refl within at ∙ ap (λ z. Some z) is

abbrev pub Has : List ℕ → ℕ → Type 0
Has words q = has_place words q ≡ true

module _ (entries : List Entry) (e : ℕ) (old : List ℕ) (none : (q : ℕ) → has_place old q ≡ false) where
  not_old : (q : ℕ) → ¬ (Has old q)
  not_old q h = true≢false (sym h ∙ none q)

  pub nothing_live : slice_get entries e ≡ Some entry.Nothing → (q : ℕ) → Has old q ↔ IsIn entries e q
  nothing_live stands q = (λ h. absurd (not_old q h), λ live. absurd (in_nothing entries e q stands live))

  -- a place that was added is the only one
  added : (p : ℕ) (new : List ℕ) → ((q : ℕ) → has_place new q ≡ (has_place old q || (q == p))) → (q : ℕ) → Has new q ↔ (q ≡ p)
  added p new is q = (
    λ h. ⊎_elim (λ was. absurd (not_old q was)) (λ same. eqb-true q p same) (either_has (has_place old q) (q == p) (sym (is q) ∙ h)),
    λ same. is q ∙ ap (λ z. has_place old q || z) (⊎_elim (λ h. h.0) (λ h. absurd (h.1 same)) (eqb_tells q p)) ∙ or-true (has_place old q),
  )

  pub place_live : (p : ℕ) (new : List ℕ) → slice_get entries e ≡ Some (entry.Place p) →
      ((q : ℕ) → has_place new q ≡ (has_place old q || (q == p))) →
      (q : ℕ) → Has new q ↔ IsIn entries e q
  place_live p new stands is q = (
    λ h. subst (λ z. IsIn entries e z) (sym ((added p new is q).0 h)) (at_place entries e p stands),
    λ live. (added p new is q).1 (in_place entries e p q stands live),
  )

  pub run_live : (p behind : ℕ) (mid new : List ℕ) → slice_get entries e ≡ Some (entry.Run p behind) →
      ((q : ℕ) → has_place mid q ≡ (has_place old q || (q == p))) → ((q : ℕ) → Has new q ↔ (Has mid q ⊎ IsIn entries behind q)) →
      (q : ℕ) → Has new q ↔ IsIn entries e q
  run_live p behind mid new stands is then q = (
    λ h. ⊎_elim
        (λ here. subst (λ z. IsIn entries e z) (sym ((added p mid is q).0 here)) (at_run entries e p behind stands))
        (λ live. past_run entries e p behind q stands live)
        ((then q).0 h),
    λ live. (then q).1 (⊎_elim
        (λ same. inl ((added p mid is q).1 same))
        (λ more. inr more)
        (in_run entries e p behind q stands live)),
  )

  pub either_live : (one other : ℕ) (mid new : List ℕ) → slice_get entries e ≡ Some (entry.Either one other) →
      ((q : ℕ) → Has mid q ↔ (Has old q ⊎ IsIn entries one q)) → ((q : ℕ) → Has new q ↔ (Has mid q ⊎ IsIn entries other q)) →
      (q : ℕ) → Has new q ↔ IsIn entries e q
  either_live one other mid new stands first then q = (
    λ h. ⊎_elim
        (λ was. ⊎_elim (λ o. absurd (not_old q o)) (λ live. one_side entries e one other q stands live) ((first q).0 was))
        (λ live. other_side entries e one other q stands live)
        ((then q).0 h),
    λ live. (then q).1 (⊎_elim (λ u. inl ((first q).1 (inr u))) (λ u. inr u) (in_either entries e one other q stands live)),
  )
