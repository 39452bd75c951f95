-- The record of the hits of one rule alone.
use Rattle.std.proofs.Common.{◌≡◌, ℕ, ◌≤◌, ◌∙◌, IsTrue, false, true≢false, inl, inr, ⊎_elim, refl, sym, ap, subst, if◌then◌else◌}
use Rattle.std.proofs.lemmas.Bool.{cases_Bool}
use Rattle.names.specs.declared.permissions.Permission.{Permission}
use Rattle.names.specs.declared.permissions.Perms.{Perms}
use Rattle.names.specs.Permissions.{has}
use Rattle.names.specs.declared.kind.RuleKind.{RuleKind}
use Rattle.names.specs.declared.kind.RuleKind.TheVariants.{Allow, Deny}
use Rattle.names.specs.declared.record.LeastHits.{LeastHits}
use Rattle.names.specs.Hits.{no_hits, hits_after, hits_with, record_with}
use Rattle.names.specs.Least.{IsLeastOrNone, hits_of, no_hit, record_of}

-- `S kind p` is the set of the numbers of rules of a kind that hit with a permission
module _ (made : (hits : Permission → LeastHits) (p : Permission) → hits_of (record_of hits) p ≡ hits p)
    (S : RuleKind → Permission → ℕ → Type 0) where
  abbrev pub AreLeastOf : Permission → LeastHits → Type 0
  AreLeastOf p hits = IsLeastOrNone (S Allow p) hits.allow × IsLeastOrNone (S Deny p) hits.deny

  none_of : (p : Permission) → hits_of no_hits p ≡ no_hit
  none_of p = made (λ q. no_hit) p

  -- where no rule hits
  pub nobody_hits : ((kind : RuleKind) (p : Permission) (n : ℕ) → ¬ (S kind p n)) → (p : Permission) → AreLeastOf p (hits_of no_hits p)
  nobody_hits none p = subst (AreLeastOf p) (sym (none_of p)) (inl (refl, λ n h. none Allow p n h), inl (refl, λ n h. none Deny p n h))

  -- where a rule of this kind, with these permissions and this number, hits, and no other one
  module _ (kind : RuleKind) (perms : Perms) (number : ℕ)
      (only : (k : RuleKind) (p : Permission) (n : ℕ) → S k p n → (kind ≡ k) × IsTrue (has perms p) × (number ≤ n))
      (there : (k : RuleKind) (p : Permission) → kind ≡ k → IsTrue (has perms p) → S k p number) where
    least_there : (k : RuleKind) (p : Permission) → kind ≡ k → IsTrue (has perms p) → IsLeastOrNone (S k p) number
    least_there k p is holds = inr (there k p is holds, λ n h. (only k p n h).2)

    no_other_kind : (k : RuleKind) (p : Permission) → ¬ (kind ≡ k) → IsLeastOrNone (S k p) 0
    no_other_kind k p other = inl (refl, λ n h. other (only k p n h).0)

    not_held : (k : RuleKind) (p : Permission) → has perms p ≡ false → IsLeastOrNone (S k p) 0
    not_held k p lacks = inl (refl, λ n h. true≢false (sym (only k p n h).1 ∙ lacks))

    held : (p : Permission) (k : RuleKind) → kind ≡ k → IsTrue (has perms p) → AreLeastOf p (hits_with no_hit k number)
    held p Allow is holds = (least_there Allow p is holds, no_other_kind Deny p (λ e. absurd (cc (is, e))))
    held p Deny is holds = (no_other_kind Allow p (λ e. absurd (cc (is, e))), least_there Deny p is holds)

    pub one_hits : (p : Permission) → AreLeastOf p (hits_of (record_with no_hits kind perms number) p)
    one_hits p = subst (AreLeastOf p) (sym (made (hits_after no_hits kind perms number) p)) (⊎_elim
        (λ yes.
        subst (AreLeastOf p) (sym (ap (λ b. if b then hits_with (hits_of no_hits p) kind number else hits_of no_hits p) yes
        ∙ ap (λ z. hits_with z kind number) (none_of p)))
        (held p kind refl yes))
        (λ no.
        subst (AreLeastOf p) (sym (ap (λ b. if b then hits_with (hits_of no_hits p) kind number else hits_of no_hits p) no ∙ none_of p))
        (not_held Allow p no, not_held Deny p no))
        (cases_Bool (has perms p)))
