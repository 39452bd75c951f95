-- Candidates, as one permission after another is looked at.
use Rattle.std.proofs.Common.{◌≡◌, ◌≢◌, ◌⊎◌, inl, inr, ⊎_elim, ℕ, ◌+◌, ◌<◌, ◌≤◌, List, Contains, get_or, sym, ap, ◌∙◌, subst, arith}
use Rattle.std.proofs.lemmas.Bool.{cases_lt}
use Rattle.names.specs.declared.permissions.Permission.{Permission}
use Rattle.names.specs.Permissions.{all_permissions, index, permission_count}
use Rattle.profile_questions.specs.declared.comparison.Records.{Records}
use Rattle.rule_globs.specs.Glob.{Takes}
use Rattle.rule_globs.specs.Rules.{pattern}
use Rattle.rule_profile.specs.Rules.{rule_value}
use Rattle.rule_influence.specs.StandIns.{IsAscending}
use Rattle.rule_influence.specs.declared.candidates.Case.{Case}
use Rattle.rule_influence.specs.inner.Candidates.{IsAtName, IsCandidate, candidate}
use Rattle.rule_influence.specs.inner.Lists.{AreAdded}

module _ (case : Case) (records : Records) where
  abbrev pub candidate_of : Permission → ℕ
  candidate_of p = candidate case.count case.number (rule_value case.rule.now) case.perms records p

  -- a candidate of the permissions before the index
  abbrev pub IsBefore : ℕ → ℕ → Type 0
  IsBefore k n = (p : Permission) × (index p < k) × (candidate_of p ≡ n) × (n ≢ 0)

  -- and the rule matches the name
  abbrev pub IsAtBefore : List ℕ → ℕ → ℕ → Type 0
  IsAtBefore name k n = IsBefore k n × Takes (pattern (rule_value case.rule.now)) name

  -- it is in the list
  abbrev pub AreThereBefore : ℕ → List ℕ → Type 0
  AreThereBefore k list = (n : ℕ) → IsBefore k n → Contains list n

  pub there_all : (k : ℕ) (list : List ℕ) → ((p : Permission) → index p < permission_count) → permission_count ≤ k →
      AreThereBefore k list → (n : ℕ) → IsCandidate case records n → Contains list n
  there_all k list below le so_far n h = so_far n (h.0, omega (arith, below h.0, le), h.1, h.2)

  module _ (there : (p other : Permission) → get_or all_permissions (index p) other ≡ p) where
    same_place : (p q : Permission) → index p ≡ index q → p ≡ q
    same_place p q e = sym (there p q) ∙ ap (λ z. get_or all_permissions z q) e ∙ there q q

    -- a candidate of one more permission is one of those before it, or that of the permission
    more_cases : (k : ℕ) (q : Permission) → index q ≡ k → (n : ℕ) → IsBefore (k + 1) n →
        IsBefore k n ⊎ ((candidate_of q ≡ n) × (n ≢ 0))
    more_cases k q at n h = ⊎_elim
        (λ less. inl (h.0, less, h.2, h.3))
        (λ ge.
        let one : h.0 ≡ q = same_place h.0 q (omega (arith, at, ge, h.1)) in
        inr (sym (ap candidate_of one) ∙ h.2, h.3))
        (cases_lt (index h.0) k)

    more_back : (k : ℕ) (q : Permission) → index q ≡ k → (n : ℕ) → IsBefore k n ⊎ ((candidate_of q ≡ n) × (n ≢ 0)) →
        IsBefore (k + 1) n
    more_back k q at n h = ⊎_elim
        (λ b. (b.0, omega (arith, b.1), b.2, b.3))
        (λ c. (q, omega (arith, at), c.0, c.1))
        h

    pub there_more : (k : ℕ) (q : Permission) (number : ℕ) (list : List ℕ) → index q ≡ k → number ≡ candidate_of q →
        (number ≢ 0 → Contains list number) → AreThereBefore k list → AreThereBefore (k + 1) list
    there_more k q number list at is one so_far n h = ⊎_elim
        (so_far n)
        (λ c. subst (Contains list) (is ∙ c.0) (one (λ z. c.1 (sym (is ∙ c.0) ∙ z))))
        (more_cases k q at n h)

    module _ (name : List ℕ) where
      pub added_none : (list : List ℕ) → IsAscending list → AreAdded (IsAtBefore name 0) list list
      added_none list up = record {
        ascending = up;
        members = λ n. (inl, ⊎_elim (λ h. h) (λ h. absurd (omega (arith, h.0.1))));
      }

      pub added_all : (k : ℕ) (old new : List ℕ) → ((p : Permission) → index p < permission_count) → permission_count ≤ k →
          AreAdded (IsAtBefore name k) old new → AreAdded (IsAtName case records name) old new
      added_all k old new below le so_far = record {
        ascending = so_far.ascending;
        members = λ n. (
          λ h. ⊎_elim inl (λ b. inr ((b.0.0, b.0.2, b.0.3), b.1)) ((so_far.members n).0 h),
          λ h. (so_far.members n).1 (⊎_elim inl (λ b. inr ((b.0.0, omega (arith, below b.0.0, le), b.0.1, b.0.2), b.1)) h),
        );
      }

      -- nothing is to be added for the permission
      pub added_not : (k : ℕ) (q : Permission) (number : ℕ) (old new : List ℕ) → index q ≡ k → number ≡ candidate_of q →
          (number ≢ 0 → Takes (pattern (rule_value case.rule.now)) name → Contains new number) →
          AreAdded (IsAtBefore name k) old new → AreAdded (IsAtBefore name (k + 1)) old new
      added_not k q number old new at is one so_far = record {
        ascending = so_far.ascending;
        members = λ n. (
          λ h. ⊎_elim inl (λ b. inr (more_back k q at n (inl b.0), b.1)) ((so_far.members n).0 h),
          ⊎_elim
              (λ h. (so_far.members n).1 (inl h))
              (λ b. ⊎_elim
              (λ before. (so_far.members n).1 (inr (before, b.1)))
              (λ c. subst (Contains new) (is ∙ c.0) (one (λ z. c.1 (sym (is ∙ c.0) ∙ z)) b.1))
              (more_cases k q at n b.0)),
        );
      }

      -- its candidate is added
      pub added_more : (k : ℕ) (q : Permission) (number : ℕ) (old mid new : List ℕ) → index q ≡ k → number ≡ candidate_of q → number ≢ 0 →
          Takes (pattern (rule_value case.rule.now)) name → AreAdded (IsAtBefore name k) old mid → AreAdded (λ n. n ≡ number) mid new →
          AreAdded (IsAtBefore name (k + 1)) old new
      added_more k q number old mid new at is nonzero taken so_far one = record {
        ascending = one.ascending;
        members = λ n. (
          λ h. ⊎_elim
              (λ was. ⊎_elim inl (λ b. inr (more_back k q at n (inl b.0), b.1)) ((so_far.members n).0 was))
              (λ e. inr (more_back k q at n (inr (sym is ∙ sym e, λ z. nonzero (sym e ∙ z))), taken))
              ((one.members n).0 h),
          ⊎_elim
              (λ h. (one.members n).1 (inl ((so_far.members n).1 (inl h))))
              (λ b. ⊎_elim
              (λ before. (one.members n).1 (inl ((so_far.members n).1 (inr (before, b.1)))))
              (λ c. (one.members n).1 (inr (sym c.0 ∙ sym is)))
              (more_cases k q at n b.0)),
        );
      }
