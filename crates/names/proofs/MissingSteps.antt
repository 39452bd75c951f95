-- What is missing, as permissions are tried one after another.
use Rattle.std.proofs.Common.{◌≡◌, ⊎_elim, ℕ, ◌+◌, ◌&&◌, ◌==◌, Bool, true, false, if◌then◌else◌, slice_index_or, sym, ap, ◌∙◌, subst}
use Rattle.std.proofs.lemmas.Bool.{cases_Bool}
use Rattle.names.specs.declared.permissions.Permission.{Permission}
use Rattle.names.specs.declared.permissions.Perms.{Perms}
use Rattle.names.specs.Permissions.{all_permissions, has, index, with_permission}
use Rattle.names.proofs.PermsTests.{IsPassedBefore, passed-more, passed-same}
use Rattle.names.specs.Least.{hits_of}
use Rattle.names.specs.declared.record.LeastHits.{LeastHits}
use Rattle.names.specs.declared.record.Record.{Record}

module _ (r : Record) (ask : Perms) where
  -- it is asked, and no rule allows it
  abbrev pub is_missing : Permission → Bool
  is_missing p = has ask p && ((hits_of r p).allow == 0)

  module _ (there : (p other : Permission) → slice_index_or all_permissions (index p) other ≡ p) where
    -- the permission at the index is asked
    pub missing-asked : (i : ℕ) (q : Permission) (h : LeastHits) (s t u : Perms) → index q ≡ i → h ≡ hits_of r q → has ask q ≡ true →
        u ≡ t → t ≡ (if h.allow == 0 then with_permission s q else s) → IsPassedBefore is_missing i s → IsPassedBefore is_missing (i + 1) u
    missing-asked i q h s t u at is asked same made before =
        let told : is_missing q ≡ (h.allow == 0) = ap (λ (b : Bool). b && ((hits_of r q).allow == 0)) asked
        ∙ ap (λ (x : LeastHits). x.allow == 0) (sym is) in
        let chosen : u ≡ (if h.allow == 0 then with_permission s q else s) = same ∙ made in
        ⊎_elim
        (λ none. subst (IsPassedBefore is_missing (i + 1)) (sym (chosen ∙ ap (λ (b : Bool). if b then with_permission s q else s) none))
        (passed-more is_missing there i q s at (told ∙ none) before))
        (λ some. subst (IsPassedBefore is_missing (i + 1)) (sym (chosen ∙ ap (λ (b : Bool). if b then with_permission s q else s) some))
        (passed-same is_missing there i q s at (told ∙ some) before))
        (cases_Bool (h.allow == 0))

    -- the permission at the index isn't asked
    pub missing-skip : (i : ℕ) (q : Permission) (s u : Perms) → index q ≡ i → has ask q ≡ false → u ≡ s → IsPassedBefore is_missing i s →
        IsPassedBefore is_missing (i + 1) u
    missing-skip i q s u at not_asked same before = subst (IsPassedBefore is_missing (i + 1)) (sym same)
        (passed-same is_missing there i q s at (ap (λ (b : Bool). b && ((hits_of r q).allow == 0)) not_asked) before)
