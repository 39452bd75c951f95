-- Entries, as one permission after another is noted.
use Rattle.std.proofs.Common.{◌≡◌, ◌≢◌, ◌⊎◌, ◌↔◌, inl, inr, ⊎_elim, ℕ, ◌+◌, ◌-◌, ◌<◌, ◌≤◌, ◌==◌, ◌||◌, true, List, length, get_or}
use Rattle.std.proofs.Common.{eq-eqb, refl, sym, ap, ◌∙◌, subst, arith}
use Rattle.std.specs.Prelude.{slice_set}
use Rattle.std.proofs.lemmas.Bool.{cases_eq, cases_lt, eqb-true, or_cases, or_left, or_right}
use Rattle.std.proofs.lemmas.List.{get_or-set_same, get_or-set_other, get_or_default, length-set}
use Rattle.names.specs.declared.permissions.Permission.{Permission}
use Rattle.names.specs.declared.permissions.Perms.{Perms}
use Rattle.names.specs.declared.record.Record.{Record}
use Rattle.names.specs.Least.{hits_of}
use Rattle.names.specs.Permissions.{all_permissions, has, index, letter, permission_count, with_permission}
use Rattle.names.specs.laws.PermissionSets.{has-set_of, same_letter}
use Rattle.rule_influence.specs.inner.Deciders.{AreNoted, IsAdded, IsNoted, decider, no_perms}

-- what the set with one more permission has
has_with : (s : Perms) (added p : Permission) → (has (with_permission s added) p ≡ true) ↔ ((has s p ≡ true) ⊎ (p ≡ added))
has_with s added p =
    let is = has-set_of (λ q. has s q || (letter q == letter added)) p in (
      λ h. ⊎_elim inl (λ e. inr (same_letter p added (eqb-true (letter p) (letter added) e)))
          (or_cases (has s p) (letter p == letter added) (sym is ∙ h)),
      ⊎_elim
          (λ h. is ∙ or_left (has s p) (letter p == letter added) h)
          (λ e. is ∙ or_right (has s p) (letter p == letter added) (eq-eqb (letter p) (letter added) (ap letter e))),
    )

module _ (number : ℕ) (added : Permission) (old : List Perms) where
  pub added_none : (number ≡ 0) ⊎ (length old < number) → IsAdded number added old old
  added_none none = record {
    each = refl;
    noted = λ i p lt. (inl, ⊎_elim (λ h. h) (λ h. absurd (⊎_elim (λ z. omega (arith, z, h.0)) (λ z. omega (arith, z, h.0, lt)) none)));
  }

  pub added_there : (d value : Perms) → number ≢ 0 → number ≤ length old →
      value ≡ with_permission (get_or old (number - 1) d) added → IsAdded number added old (slice_set old (number - 1) value)
  added_there d value nonzero le is =
      let new : List Perms = slice_set old (number - 1) value in
      let there : number - 1 < length old = omega (arith, nonzero, le) in
      let set : value ≡ with_permission (get_or old (number - 1) no_perms) added =
      is ∙ ap (λ z. with_permission z added) (get_or_default old (number - 1) d no_perms there) in record {
        each = length-set old (number - 1) value;
        noted = λ i p lt. ⊎_elim
            (λ e.
            let back : number ≡ i + 1 = omega (arith, nonzero, e) in
            let here : get_or new i no_perms ≡ with_permission (get_or old i no_perms) added =
            ap (λ z. get_or new z no_perms) e ∙ get_or-set_same old (number - 1) value no_perms there ∙ set
            ∙ ap (λ z. with_permission (get_or old z no_perms) added) (sym e) in
            let means = has_with (get_or old i no_perms) added p in (
              λ h. ⊎_elim inl (λ same. inr (back, same)) (means.0 (ap (λ z. has z p) (sym here) ∙ h)),
              λ h. ap (λ z. has z p) here ∙ means.1 (⊎_elim inl (λ both. inr both.1) h),
            ))
            (λ ne.
            let here : has (get_or new i no_perms) p ≡ has (get_or old i no_perms) p =
            ap (λ z. has z p) (get_or-set_other old (number - 1) i value no_perms ne) in (
              λ h. inl (sym here ∙ h),
              ⊎_elim (λ h. here ∙ h) (λ both. absurd (ne (omega (arith, both.0)))),
            ))
            (cases_eq i (number - 1));
      }

-- the permissions before the index are noted
pub record AreNotedBefore (hits reversed : Record) (k : ℕ) (old new : List Perms) : Type 0 where
  pub each : length new ≡ length old
  pub noted : (i : ℕ) (p : Permission) → i < length old →
      IsNoted new i p ↔ (IsNoted old i p ⊎ ((index p < k) × (decider (length old) (hits_of hits p) (hits_of reversed p) ≡ i + 1)))

module _ (hits reversed : Record) (old : List Perms) where
  pub noted_none : AreNotedBefore hits reversed 0 old old
  noted_none = record { each = refl; noted = λ i p lt. (inl, ⊎_elim (λ h. h) (λ h. absurd (omega (arith, h.0)))) }

  pub noted_all : (k : ℕ) (new : List Perms) → ((p : Permission) → index p < permission_count) → permission_count ≤ k →
      AreNotedBefore hits reversed k old new → AreNoted hits reversed old new
  noted_all k new below le so_far = record {
    each = so_far.each;
    noted = λ i p lt.
        let before = so_far.noted i p lt in (
          λ h. ⊎_elim inl (λ both. inr both.1) (before.0 h),
          λ h. before.1 (⊎_elim inl (λ e. inr (omega (arith, le, below p), e)) h),
        );
  }

  module _ (there : (p other : Permission) → get_or all_permissions (index p) other ≡ p) where
    same_place : (p q : Permission) → index p ≡ index q → p ≡ q
    same_place p q e = sym (there p q) ∙ ap (λ z. get_or all_permissions z q) e ∙ there q q

    pub noted_more : (k number : ℕ) (q : Permission) (mid new : List Perms) → index q ≡ k →
        number ≡ decider (length old) (hits_of hits q) (hits_of reversed q) →
        IsAdded number q mid new → AreNotedBefore hits reversed k old mid → AreNotedBefore hits reversed (k + 1) old new
    noted_more k number q mid new at is more so_far = record {
      each = more.each ∙ so_far.each;
      noted = λ i p lt.
          let before = so_far.noted i p lt in
          let now = more.noted i p (omega (arith, lt, so_far.each)) in (
            λ h. ⊎_elim
                (λ was. ⊎_elim inl (λ both. inr (omega (arith, both.0), both.1)) (before.0 was))
                (λ both. inr (
                  omega (arith, at, ap index both.1),
                  subst (λ z. decider (length old) (hits_of hits z) (hits_of reversed z) ≡ i + 1) (sym both.1) (sym is ∙ both.0),
                ))
                (now.0 h),
            λ h. ⊎_elim
                (λ was. now.1 (inl (before.1 (inl was))))
                (λ both. ⊎_elim
                (λ less. now.1 (inl (before.1 (inr (less, both.1)))))
                (λ ge.
                let one : p ≡ q = same_place p q (omega (arith, at, ge, both.0)) in
                now.1 (inr (
                  is ∙ subst (λ z. decider (length old) (hits_of hits z) (hits_of reversed z) ≡ i + 1) one both.1,
                  one,
                )))
                (cases_lt (index p) k))
                h,
          );
    }
