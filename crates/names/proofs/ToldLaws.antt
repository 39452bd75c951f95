-- A record gives one verdict.
use Rattle.std.proofs.Common.{subst, ◌≡◌, ◌≢◌, ◌==◌, ◌&&◌, ◌↔◌, ⊎_elim, ℕ, Bool, true, false, IsTrue, refl, sym, ap, ◌∙◌, arith, eq-eqb}
use Rattle.std.proofs.Common.{true≢false}
use Rattle.std.proofs.lemmas.Bool.{and_parts, and_from, eqb-true}
use Rattle.names.specs.declared.permissions.Permission.{Permission}
use Rattle.names.specs.declared.permissions.Perms.{Perms}
use Rattle.names.specs.Permissions.{has, set_of}
use Rattle.names.specs.declared.verdict.Verdict.{Verdict}
use Rattle.names.specs.declared.verdict.Verdict.TheVariants.{Denied, NoRule, Allowed}
use Rattle.names.specs.declared.record.Record.{Record}
use Rattle.names.specs.laws.LeastNumbers.{least_none}
use Rattle.names.specs.Least.{hits_of, IsLeastOrNone}
use Rattle.names.specs.Grounds.{IsVerdictOn}
use Rattle.names.specs.declared.judgment.Grounds.{Grounds}
use Rattle.names.specs.Records.{IsTold, ToldDenied, ToldMissing, NothingToldDenied}
use Rattle.names.specs.laws.PermissionSets.{has-set_of, some_member, same_perms}

-- two tests for the same proposition are equal
same_test : (a b : Bool) {A : Type 0} → (IsTrue a ↔ A) → (IsTrue b ↔ A) → a ≡ b
same_test true true f g = refl
same_test true false f g = sym (g.1 (f.0 refl))
same_test false true f g = f.1 (g.0 refl)
same_test false false f g = refl

-- a record gives at most one verdict
pub one_told : (r : Record) (ask : Perms) (v w : Verdict) → IsTold r ask v → IsTold r ask w → v ≡ w
one_told r ask (Denied n) (Denied m) f g = let e : n ≡ m = omega (arith, f.1 m g.0, g.1 n f.0) in ap Denied e
one_told r ask (Denied n) (NoRule m) f g = absurd (g.0 n f.0)
one_told r ask (Denied n) Allowed f g = absurd (g.0 n f.0)
one_told r ask (NoRule m) (Denied n) f g = absurd (f.0 n g.0)
one_told r ask (NoRule m) (NoRule l) f g = ap NoRule (same_perms m l (λ p. same_test (has m p) (has l p) (f.2 p) (g.2 p)))
one_told r ask (NoRule m) Allowed f g = absurd (g.1 f.1.0 ((f.2 f.1.0).0 f.1.1))
one_told r ask Allowed (Denied n) f g = absurd (f.0 n g.0)
one_told r ask Allowed (NoRule m) f g = absurd (f.1 g.1.0 ((g.2 g.1.0).0 g.1.1))
one_told r ask Allowed Allowed f g = refl

-- a least number that isn't 0 gives a denial
pub told-denied : (r : Record) (ask : Perms) (n : ℕ) → IsLeastOrNone (ToldDenied r ask) n → n ≢ 0 → IsTold r ask (Denied n)
told-denied r ask n least nonzero = ⊎_elim (λ h. absurd (nonzero h.0)) (λ h. h) least

-- if the least number is 0, nothing is denied
nothing_told : (r : Record) (ask : Perms) (n : ℕ) → IsLeastOrNone (ToldDenied r ask) n → n ≡ 0 → NothingToldDenied r ask
nothing_told r ask n least zero = least_none (ToldDenied r ask) n (λ m t. t.0) least zero

abbrev pub has_no_allow : Record → Perms → Permission → Bool
has_no_allow r ask p = has ask p && ((hits_of r p).allow == 0)

-- the test finds what is asked and has no allow number
missing-told : (r : Record) (ask missing : Perms) (p : Permission) → missing ≡ set_of (has_no_allow r ask) →
    IsTrue (has missing p) ↔ ToldMissing r ask p
missing-told r ask missing p is =
    let same : has missing p ≡ has_no_allow r ask p = ap (λ s. has s p) is ∙ has-set_of (has_no_allow r ask) p in (
      λ h. let both = and_parts (has ask p) ((hits_of r p).allow == 0) (sym same ∙ h) in (both.0, eqb-true (hits_of r p).allow 0 both.1),
      λ t. same ∙ and_from (has ask p) ((hits_of r p).allow == 0) t.0 (eq-eqb (hits_of r p).allow 0 t.1),
    )

-- nothing is missing
pub told-allowed : (r : Record) (ask missing : Perms) (n : ℕ) → IsLeastOrNone (ToldDenied r ask) n → n ≡ 0 →
    missing ≡ set_of (has_no_allow r ask) →
    ((p : Permission) → has missing p ≡ false) → IsTold r ask Allowed
told-allowed r ask missing n least zero is nothing = (
  nothing_told r ask n least zero,
  λ p t. true≢false (sym ((missing-told r ask missing p is).1 t) ∙ nothing p),
)

-- something is missing
pub told-no_rule : (r : Record) (ask missing : Perms) (n : ℕ) → IsLeastOrNone (ToldDenied r ask) n → n ≡ 0 →
    missing ≡ set_of (has_no_allow r ask) →
    (((p : Permission) → has missing p ≡ false) → ⊥) → IsTold r ask (NoRule missing)
told-no_rule r ask missing n least zero is something = (
  nothing_told r ask n least zero,
  some_member missing something,
  λ p. missing-told r ask missing p is,
)

-- for the grounds of a record, their verdict is the one that the record gives
pub told-on : (r : Record) (ask : Perms) (g : Grounds) → IsLeastOrNone (ToldDenied r ask) g.rule →
    g.missing ≡ set_of (has_no_allow r ask) →
    (v : Verdict) → IsVerdictOn g v → IsTold r ask v
told-on r ask g least is (Denied n) h = subst (λ m. IsTold r ask (Denied m)) (sym h.1) (told-denied r ask g.rule least h.0)
told-on r ask g least is (NoRule m) h = subst (λ s. IsTold r ask (NoRule s)) (sym h.2)
    (told-no_rule r ask g.missing g.rule least h.0 is h.1)
told-on r ask g least is Allowed h = told-allowed r ask g.missing g.rule least h.0 is h.1

-- there is at most one verdict on given grounds
pub one_on : (g : Grounds) (v w : Verdict) → IsVerdictOn g v → IsVerdictOn g w → v ≡ w
one_on g (Denied n) (Denied m) f h = ap Denied (f.1 ∙ sym h.1)
one_on g (Denied n) (NoRule m) f h = absurd (f.0 h.0)
one_on g (Denied n) Allowed f h = absurd (f.0 h.0)
one_on g (NoRule m) (Denied n) f h = absurd (h.0 f.0)
one_on g (NoRule m) (NoRule l) f h = ap NoRule (f.2 ∙ sym h.2)
one_on g (NoRule m) Allowed f h = absurd (f.1 h.1)
one_on g Allowed (Denied n) f h = absurd (h.0 f.0)
one_on g Allowed (NoRule m) f h = absurd (h.1 f.1)
one_on g Allowed Allowed f h = refl
