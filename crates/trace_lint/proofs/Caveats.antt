-- A line warns of a stand-in exactly where one decides nothing of the part.
use Rattle.std.proofs.Common.{◌≡◌, ◌↔◌, ⊎_elim, ℕ, zero, suc, Bool, true, false, List, [], ◌∷◌, Option, Some, None}
use Rattle.std.proofs.Common.{Contains, cond, find, length, option_map, refl, sym, ap, ◌∙◌, subst, arith, true≢false}
use Rattle.std.proofs.lemmas.Bool.{cases_Bool}
use Rattle.std.proofs.lemmas.List.Elements.{All-contains}
use Rattle.names.specs.Permissions.{has}
use Rattle.names.specs.declared.permissions.Permission.{Permission}
use Rattle.names.specs.declared.permissions.Perms.{Perms}
use Rattle.rule_globs.specs.Rules.{RuleValue}
use Rattle.rule_influence.specs.Influence.{AreDecided, IsIdle}
use Rattle.rule_influence.specs.StandIns.{AreTheStandIns}
use Rattle.trace_lint.specs.Findings.{FindingValue, first_idle, idle_rule}
use Rattle.trace_lint.specs.Parts.{case_of, decided_by, decides_none_of, decides_nothing}
use Rattle.trace_lint.specs.declared.findings.Idle.{Idle}
use Rattle.trace_lint.proofs.AllFound.{list_numbered}
use Rattle.trace_lint.proofs.PartLaws.{contains_after, contains_first, idle_none, idle_nothing, none_idle, nothing_idle}
use Rattle.trace_lint.proofs.FirstIdle.{not_first}
use Rattle.trace_lint.specs.inner.Found.{IsNumber}

-- ---- the first that passes a test

module _ {X : Type 0} (test : X → Bool) where
  found_first : (xs : List X) (x : X) → find test xs ≡ Some x → Contains xs x × (test x ≡ true)
  found_first [] x e = cc (e)
  found_first (y ∷ xs) x e = by_test (test y) refl e (found_first xs x)
    where
      by_test : (b : Bool) → test y ≡ b → cond b (Some y) (find test xs) ≡ Some x →
          (find test xs ≡ Some x → Contains xs x × (test x ≡ true)) → Contains (y ∷ xs) x × (test x ≡ true)
      by_test true is e rest =
          let same : y ≡ x = cc (e) in (subst (λ z. Contains (y ∷ xs) z) same (contains_first y xs), ap test (sym same) ∙ is)
      by_test false is e rest = let later = rest e in (contains_after x y xs later.0, later.1)

  none_passes : (xs : List X) (x : X) → find test xs ≡ None → Contains xs x → test x ≡ false
  none_passes [] x e h = absurd (omega (arith, h.1))
  none_passes (y ∷ xs) x e (zero, lt, is) = ap test (sym is) ∙ (not_first (test y) y (find test xs) e).0
  none_passes (y ∷ xs) x e (suc k, lt, is) =
      none_passes xs x (not_first (test y) y (find test xs) e).1 (k, omega (arith, lt), is)

  none_found_first : (xs : List X) → ((x : X) → Contains xs x → test x ≡ false) → find test xs ≡ None
  none_found_first [] none = refl
  none_found_first (y ∷ xs) none = ap (λ b. cond b (Some y) (find test xs)) (none y (contains_first y xs))
      ∙ none_found_first xs (λ x h. none x (contains_after x y xs h))

module _ {X Y : Type 0} (f : X → Y) where
  none_mapped : (o : Option X) → option_map f o ≡ None → o ≡ None
  none_mapped None e = refl
  none_mapped (Some x) e = cc (e)

  some_mapped : (o : Option X) (y : Y) → option_map f o ≡ Some y → (x : X) × (o ≡ Some x) × (f x ≡ y)
  some_mapped None y e = cc (e)
  some_mapped (Some x) y e = (x, refl, cc (e))

-- ---- stand-ins that decide nothing of a part

module _ (rules : List RuleValue) (decided : List Perms) (are : AreDecided rules decided) (f : FindingValue)
    (stand : AreTheStandIns rules (case_of rules f.part) f.stand_ins)
    (first : f.idle ≡ first_idle decided (case_of rules f.part).perms f.stand_ins) where
  abbrev perms : Perms
  perms = (case_of rules f.part).perms

  abbrev IsIdleFor : ℕ → Type 0
  IsIdleFor n = (p : Permission) → has perms p ≡ true → IsIdle rules n p

  abbrev test : ℕ → Bool
  test n = decides_none_of perms (decided_by decided n)

  numbered : (n : ℕ) → Contains f.stand_ins n → IsNumber (length rules) n
  numbered n h = All-contains (IsNumber (length rules)) f.stand_ins n (list_numbered rules (case_of rules f.part) f.stand_ins stand) h

  pub no_caveat : (f.idle ≡ None) ↔ ((n : ℕ) → Contains f.stand_ins n → ¬ (IsIdleFor n))
  no_caveat = (
    λ none n h idle. true≢false (sym (idle_none rules decided are n (numbered n h).0 (numbered n h).1 perms idle)
        ∙ none_passes test f.stand_ins n (none_mapped (idle_rule decided) (find test f.stand_ins) (sym first ∙ none)) h),
    λ never. first ∙ ap (option_map (idle_rule decided)) (none_found_first test f.stand_ins
        (λ n h. ⊎_elim
        (λ is. absurd (never n h (none_idle rules decided are n (numbered n h).0 (numbered n h).1 perms is)))
        (λ is. is)
        (cases_Bool (test n)))),
  )

  abbrev Warned : ℕ → Bool → Type 0
  Warned n wholly = Contains f.stand_ins n × IsIdleFor n × ((wholly ≡ true) ↔ ((p : Permission) → IsIdle rules n p))

  warned : (n : ℕ) → find test f.stand_ins ≡ Some n → Warned n (decides_nothing (decided_by decided n))
  warned n is =
      let found = found_first test f.stand_ins n is in
      let number = numbered n found.0 in (
        found.0,
        none_idle rules decided are n number.0 number.1 perms found.1,
        (nothing_idle rules decided are n number.0 number.1, idle_nothing rules decided are n number.0 number.1),
      )

  pub caveat_of : (idle : Idle) → f.idle ≡ Some idle → Warned idle.rule idle.wholly
  caveat_of idle is =
      let (n, at, same) = some_mapped (idle_rule decided) (find test f.stand_ins) idle (sym first ∙ is) in
      subst (λ (z : Idle). Warned z.rule z.wholly) same (warned n at)
