-- The verdict computed from a record is one that `IsTold` allows.
use Rattle.std.proofs.Common.{◌≡◌, ◌≢◌, ◌==◌, ◌&&◌, ◌||◌, ◌↔◌, ◌⊎◌, ⊎_elim, inl, inr, ℕ, ◌≤◌, nat_lt, Bool, true, false, List, [], ◌∷◌}
use Rattle.std.proofs.Common.{IsTrue, refl, sym, ap, ◌∙◌, subst, arith, eq-eqb, rules, true≢false}
use Rattle.std.specs.Prelude.{if◌then◌else◌}
use Rattle.std.specs.List.{list_any}
use Rattle.std.proofs.lemmas.Bool.{and_parts, and_from, eqb-true, ltb-true, ltb-false}
use Rattle.names.specs.Least.{hits_of}
use Rattle.names.specs.Records.{IsTold, ToldDenied, ToldMissing, NothingToldDenied}
use Rattle.names.specs.declared.record.Record.{Record}
use Rattle.names.specs.laws.PermissionSets.{has-set_of, none_found, one_found}
use Rattle.mediation.specs.Told.{lesser, least_deny, missing_in, told}
use Rattle.names.specs.Permissions.{has, all_permissions}
use Rattle.names.specs.declared.permissions.Permission.{Permission}
use Rattle.names.specs.declared.permissions.Perms.{Perms}
use Rattle.names.specs.declared.verdict.Verdict.TheVariants.{Denied, NoRule, Allowed}

-- the lesser of two numbers is one of them, and no nonzero one is below it
record IsLesser (one other least : ℕ) : Type 0 where
  which : (least ≡ one) ⊎ (least ≡ other)
  below_one : one ≢ 0 → (least ≢ 0) × (least ≤ one)
  below_other : other ≢ 0 → (least ≢ 0) × (least ≤ other)

lesser_by : (one other : ℕ) (none nothing less : Bool) → (one == 0) ≡ none → (other == 0) ≡ nothing → nat_lt one other ≡ less
    → IsLesser one other (if none then other else (if nothing || less then one else other))
lesser_by one other true nothing less e f g =
    let zero = eqb-true one 0 e in
    record { which = inr refl; below_one = λ h. absurd (h zero); below_other = λ h. (h, omega arith) }
lesser_by one other false true less e f g =
    let zero = eqb-true other 0 f in
    record { which = inl refl; below_one = λ h. (h, omega arith); below_other = λ h. absurd (h zero) }
lesser_by one other false false true e f g =
    let some : one ≢ 0 = λ h. true≢false (sym (eq-eqb one 0 h) ∙ e) in
    record { which = inl refl; below_one = λ h. (h, omega arith); below_other = λ h. (some, omega (arith, ltb-true one other g)) }
lesser_by one other false false false e f g =
    let some : other ≢ 0 = λ h. true≢false (sym (eq-eqb other 0 h) ∙ f) in
    record { which = inr refl; below_one = λ h. (some, ltb-false one other g); below_other = λ h. (h, omega arith) }

is_lesser : (one other : ℕ) → IsLesser one other (lesser one other)
is_lesser one other = lesser_by one other (one == 0) (other == 0) (nat_lt one other) refl refl refl

-- the permission is one of the list
abbrev IsOf : Permission → List Permission → Type 0
IsOf p [] = ⊥
IsOf p (q ∷ qs) = (p ≡ q) ⊎ IsOf p qs

is_of_all : (p : Permission) → IsOf p all_permissions
is_of_all = search (rules)

module _ (r : Record) (ask : Perms) where
  abbrev deny : Permission → ℕ
  deny p = (hits_of r p).deny

  -- the number is the deny number of something that is asked
  abbrev IsDeny : ℕ → Type 0
  IsDeny n = (p : Permission) × IsTrue (has ask p) × (deny p ≡ n)

  -- a least number that isn't 0 is that of something that is asked
  denied_by : (ps : List Permission) → (least_deny r ask ps ≡ 0) ⊎ IsDeny (least_deny r ask ps)
  denied_by [] = inl refl
  denied_by (p ∷ ps) = by (denied_by ps) (has ask p) refl
    where
      rest : ℕ
      rest = least_deny r ask ps

      of : (least : ℕ) → (rest ≡ 0) ⊎ IsDeny rest → has ask p ≡ true → (least ≡ deny p) ⊎ (least ≡ rest) → (least ≡ 0) ⊎ IsDeny least
      of least below asked (inl e) = inr (p, asked, sym e)
      of least (inl zero) asked (inr e) = inl (e ∙ zero)
      of least (inr (q, has, is)) asked (inr e) = inr (q, has, is ∙ sym e)

      by : (rest ≡ 0) ⊎ IsDeny rest → (asked : Bool) → has ask p ≡ asked
          → ((if asked then lesser (deny p) rest else rest) ≡ 0) ⊎ IsDeny (if asked then lesser (deny p) rest else rest)
      by below true e = of (lesser (deny p) rest) below e (is_lesser (deny p) rest).which
      by below false e = below

  -- nothing that is asked has a number below it
  abbrev IsNotBelow : ℕ → Permission → Type 0
  IsNotBelow n p = (n ≢ 0) × (n ≤ deny p)

  least_of : (ps : List Permission) (p : Permission) → IsOf p ps → IsTrue (has ask p) → deny p ≢ 0 → IsNotBelow (least_deny r ask ps) p
  least_of [] p is asked some = elim is [ ]
  least_of (q ∷ ps) p is asked some = by (λ more. least_of ps p more asked some) is (has ask q) refl
    where
      rest : ℕ
      rest = least_deny r ask ps

      under : (least : ℕ) → IsLesser (deny q) rest least → IsNotBelow rest p → IsNotBelow least p
      under least of (some, below) = let (least_some, least_below) = of.below_other some in (least_some, omega (arith, below, least_below))

      by : (IsOf p ps → IsNotBelow rest p) → (p ≡ q) ⊎ IsOf p ps → (b : Bool) → has ask q ≡ b →
          IsNotBelow (if b then lesser (deny q) rest else rest) p
      by further (inl e) true h = let P : Permission → Type 0 = λ x. IsNotBelow (lesser (deny x) rest) p in
          subst P e ((is_lesser (deny p) rest).below_one some)
      by further (inl e) false h = absurd (true≢false (sym asked ∙ ap (has ask) e ∙ h))
      by further (inr more) true h = under (lesser (deny q) rest) (is_lesser (deny q) rest) (further more)
      by further (inr more) false h = further more

  abbrev least : ℕ
  least = least_deny r ask all_permissions

  -- what is denied is not below the least number
  above : (n : ℕ) → ToldDenied r ask n → (least ≢ 0) × (least ≤ n)
  above n (nonzero, denied) =
      let (some, below) = least_of all_permissions denied.0 (is_of_all denied.0) denied.1 (λ zero. nonzero (sym denied.2 ∙ zero)) in
      (some, omega (arith, below, denied.2))

  least_denies : least ≢ 0 → ToldDenied r ask least
  least_denies some = (some, ⊎_elim (λ zero. absurd (some zero)) (λ is. is) (denied_by all_permissions))

  abbrev missing : Perms
  missing = missing_in r ask

  missing_is : (p : Permission) → IsTrue (has missing p) ↔ ToldMissing r ask p
  missing_is p =
      let is = has-set_of (λ q. has ask q && ((hits_of r q).allow == 0)) p in (
        λ h. let (asked, zero) = and_parts _ _ (sym is ∙ h) in (asked, eqb-true _ 0 zero),
        λ h. is ∙ and_from _ _ h.0 (eq-eqb _ 0 h.1),
      )

  by_missing : (some : Bool) → list_any (has missing) all_permissions ≡ some → NothingToldDenied r ask →
      IsTold r ask (if some then NoRule missing else Allowed)
  by_missing true e nothing = (nothing, one_found (has missing) e, missing_is)
  by_missing false e nothing = (nothing, λ p h. true≢false (sym ((missing_is p).1 h) ∙ none_found (has missing) e p))

  by_least : (none : Bool) → (least == 0) ≡ none →
      IsTold r ask (if none then (if list_any (has missing) all_permissions then NoRule missing else Allowed) else Denied least)
  by_least true e = by_missing (list_any (has missing) all_permissions) refl (λ n h. (above n h).0 (eqb-true least 0 e))
  by_least false e = (least_denies (λ zero. true≢false (sym (eq-eqb least 0 zero) ∙ e)), λ m h. (above m h).1)

  pub is_told : IsTold r ask (told r ask)
  unfolding told
  is_told = by_least (least == 0) refl
