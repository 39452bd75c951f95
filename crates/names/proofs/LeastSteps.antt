-- The least of a set, as members are added.
use Rattle.std.proofs.Common.{◌≡◌, ◌≢◌, ◌⊎◌, inl, inr, ⊎_elim, ℕ, ◌+◌, ◌<◌, ◌≤◌, IsTrue, true, false, true≢false, get_or, refl, sym, ap}
use Rattle.std.proofs.Common.{◌∙◌, subst, arith}
use Rattle.std.proofs.lemmas.Bool.{cases_lt}
use Rattle.names.specs.declared.permissions.Permission.{Permission}
use Rattle.names.specs.declared.permissions.Perms.{Perms}
use Rattle.names.specs.Permissions.{all_permissions, has, index, permission_count}
use Rattle.names.specs.declared.record.LeastHits.{LeastHits}
use Rattle.names.specs.declared.record.Record.{Record}
use Rattle.names.specs.Least.{hits_of, IsLeastOrNone}
use Rattle.names.specs.Records.{ToldDenied}

-- the same members have the same least one
pub least-same : (S T : ℕ → Type 0) (n : ℕ) → ((m : ℕ) → S m → T m) → ((m : ℕ) → T m → S m) → IsLeastOrNone S n → IsLeastOrNone T n
least-same S T n to back least = ⊎_elim
    (λ h. inl (h.0, λ m t. h.1 m (back m t)))
    (λ h. inr (to n h.0, λ m t. h.1 m (back m t)))
    least

-- n is the deny number of something that is asked and precedes i
abbrev pub DeniedBefore : Record → Perms → ℕ → ℕ → Type 0
DeniedBefore r ask i n = (n ≢ 0) × ((p : Permission) × (index p < i) × IsTrue (has ask p) × ((hits_of r p).deny ≡ n))

-- With d added to the set, the lesser of its least member and d is the least.
least-more : (S T : ℕ → Type 0) (n d k : ℕ) → ((m : ℕ) → S m → T m) → (d ≢ 0 → T d) → ((m : ℕ) → T m → S m ⊎ (m ≡ d)) →
    ((m : ℕ) → T m → m ≢ 0) → IsLeastOrNone S n → IsLeastOrNone (λ m. (m ≢ 0) × ((m ≡ n) ⊎ (m ≡ d))) k → IsLeastOrNone T k
least-more S T n d k to here back nonzero least lesser = ⊎_elim
    (λ g. inl (
      g.0,
      λ m t. ⊎_elim
          (λ h. ⊎_elim (λ s. h.1 m s) (λ e. g.1 m (nonzero m t, inr e)) (back m t))
          (λ h. g.1 n (nonzero n (to n h.0), inl refl))
          least,
    ))
    (λ g. inr (
      ⊎_elim
          (λ e. ⊎_elim (λ h. absurd (g.0.0 (e ∙ h.0))) (λ h. subst T (sym e) (to n h.0)) least)
          (λ e. subst T (sym e) (here (λ z. g.0.0 (e ∙ z))))
          g.0.1,
      λ m t. ⊎_elim
          (λ s. ⊎_elim
          (λ h. absurd (h.1 m s))
          (λ h. let below : k ≤ n = g.1 n (nonzero n (to n h.0), inl refl) in let above : n ≤ m = h.1 m s in omega (arith, below, above))
          least)
          (λ e. g.1 m (nonzero m t, inr e))
          (back m t),
    ))
    lesser

module _ (below : (p : Permission) → index p < permission_count) (there : (p d : Permission) →
    get_or all_permissions (index p) d ≡ p) where
  -- two permissions at the same place are the same
  same_place : (p q : Permission) → index p ≡ index q → p ≡ q
  same_place p q e = sym (there p p) ∙ ap (λ i. get_or all_permissions i p) e ∙ there q p

  -- the permission at the index is asked: its deny number is added
  pub least-asked : (r : Record) (ask : Perms) (i n k l : ℕ) (p : Permission) (h : LeastHits) → index p ≡ i → h ≡ hits_of r p → l ≡ k →
      has ask p ≡ true → IsLeastOrNone (DeniedBefore r ask i) n → IsLeastOrNone (λ m. (m ≢ 0) × ((m ≡ n) ⊎ (m ≡ h.deny))) k →
      IsLeastOrNone (DeniedBefore r ask (i + 1)) l
  least-asked r ask i n k l p h at is same asked least lesser = subst (IsLeastOrNone (DeniedBefore r ask (i + 1))) (sym same)
      (least-more (DeniedBefore r ask i) (DeniedBefore r ask (i + 1)) n h.deny k
      (λ m s. (s.0, (s.1.0, omega (arith, s.1.1), s.1.2, s.1.3)))
      (λ z. (z, (p, omega (arith, at), asked, ap (λ x. x.deny) (sym is))))
      (λ m t. ⊎_elim
      (λ lt. inl (t.0, (t.1.0, lt, t.1.2, t.1.3)))
      (λ le. let e : index t.1.0 ≡ index p = omega (arith, at, le, t.1.1) in
      inr (sym t.1.3 ∙ ap (λ q. (hits_of r q).deny) (same_place t.1.0 p e) ∙ ap (λ x. x.deny) (sym is)))
      (cases_lt (index t.1.0) i))
      (λ m t. t.0)
      least lesser)

  -- the permission at the index isn't asked
  pub least-skip : (r : Record) (ask : Perms) (i n l : ℕ) (p : Permission) → index p ≡ i → l ≡ n → has ask p ≡ false →
      IsLeastOrNone (DeniedBefore r ask i) n → IsLeastOrNone (DeniedBefore r ask (i + 1)) l
  least-skip r ask i n l p at same not_asked least = subst (IsLeastOrNone (DeniedBefore r ask (i + 1))) (sym same)
      (least-same (DeniedBefore r ask i) (DeniedBefore r ask (i + 1)) n
      (λ m s. (s.0, (s.1.0, omega (arith, s.1.1), s.1.2, s.1.3)))
      (λ m t. ⊎_elim
      (λ lt. (t.0, (t.1.0, lt, t.1.2, t.1.3)))
      (λ le. let e : index t.1.0 ≡ index p = omega (arith, at, le, t.1.1) in
      absurd (true≢false (sym t.1.2 ∙ ap (has ask) (same_place t.1.0 p e) ∙ not_asked)))
      (cases_lt (index t.1.0) i))
      least)

  -- all precede the end of the list
  pub least-all : (r : Record) (ask : Perms) (i n : ℕ) → permission_count ≤ i → IsLeastOrNone (DeniedBefore r ask i) n →
      IsLeastOrNone (ToldDenied r ask) n
  least-all r ask i n le least = least-same (DeniedBefore r ask i) (ToldDenied r ask) n
      (λ m s. (s.0, (s.1.0, s.1.2, s.1.3)))
      (λ m t. (t.0, (t.1.0, omega (arith, le, below t.1.0), t.1.1, t.1.2)))
      least
