-- What a record of least hits says is the verdict of the rules.
use Rattle.std.proofs.Common.{◌≢◌, ℕ, ◌≤◌, List, refl, sym, ◌∙◌, subst, arith}
use Rattle.names.specs.declared.permissions.Permission.{Permission}
use Rattle.names.specs.declared.permissions.Perms.{Perms}
use Rattle.rule_profile.specs.Profile.{RuleValue}
use Rattle.rule_globs.specs.Verdict.{Hits, Denies, IsMissing, IsVerdict}
use Rattle.names.specs.declared.kind.RuleKind.TheVariants.{Allow, Deny}
use Rattle.names.specs.declared.verdict.Verdict.{Verdict}
use Rattle.names.specs.declared.verdict.Verdict.TheVariants.{Denied, NoRule, Allowed}
use Rattle.names.specs.declared.record.Record.{Record}
use Rattle.names.specs.laws.LeastNumbers.{least_there, least_none, least_some, none_least}
use Rattle.names.specs.Least.{hits_of}
use Rattle.glob_automaton.specs.Least.{IsLeastRecord}
use Rattle.names.specs.Records.{IsTold, ToldDenied, ToldMissing, NothingToldDenied}

module _ (rules : List RuleValue) (name : List ℕ) (r : Record) (ask : Perms) (least : IsLeastRecord rules name r) where
  -- a rule that denies has no number 0
  hit-above : (p : Permission) (n : ℕ) → Hits rules Deny p name n → n ≢ 0
  hit-above p n h zero = let e : ⊥ = omega (arith, h.1.0, zero) in e

  -- a rule that allows has no number 0
  allow-above : (p : Permission) (n : ℕ) → Hits rules Allow p name n → n ≢ 0
  allow-above p n h zero = let e : ⊥ = omega (arith, h.1.0, zero) in e

  -- a number that is reported is that of a rule that denies
  told-denies : (n : ℕ) → ToldDenied r ask n → Denies rules name ask n
  told-denies n t =
      let some = least_some (Hits rules Deny t.1.0 name) (hits_of r t.1.0).deny (least t.1.0).1 (λ z. t.0 (sym t.1.2 ∙ z)) in
      (t.1.0, t.1.1, subst (Hits rules Deny t.1.0 name) t.1.2 some)

  -- below a rule that denies, or at it, a number is reported
  denies-told : (m : ℕ) → Denies rules name ask m → (n : ℕ) × ToldDenied r ask n × (n ≤ m)
  denies-told m d =
      let there = least_there (Hits rules Deny d.0 name) (hits_of r d.0).deny m (least d.0).1 d.2 in
      ((hits_of r d.0).deny, (hit-above d.0 (hits_of r d.0).deny there.0, (d.0, d.1, refl)), there.1)

  -- if no number is reported, no rule denies
  nothing-denied : NothingToldDenied r ask → (n : ℕ) → Denies rules name ask n → ⊥
  nothing-denied nothing n d = let t = denies-told n d in nothing t.0 t.1

  -- the same is missing
  missing-there : (p : Permission) → ToldMissing r ask p → IsMissing rules name ask p
  missing-there p t = (t.0, λ n h. least_none (Hits rules Allow p name) (hits_of r p).allow (allow-above p) (least p).0 t.1 n h)

  -- what no rule allows has no number
  there-missing : (p : Permission) → IsMissing rules name ask p → ToldMissing r ask p
  there-missing p m = (m.0, none_least (Hits rules Allow p name) (hits_of r p).allow (least p).0 m.1)

  pub told_is_verdict : (v : Verdict) → IsTold r ask v → IsVerdict rules name ask v
  told_is_verdict (Denied n) f = (
    told-denies n f.0,
    λ m d. let t = denies-told m d in let le : n ≤ t.0 = f.1 t.0 t.1 in omega (arith, le, t.2),
  )
  told_is_verdict (NoRule missing) f = (
    nothing-denied f.0,
    f.1,
    λ p. (λ h. missing-there p ((f.2 p).0 h), λ m. (f.2 p).1 (there-missing p m)),
  )
  told_is_verdict Allowed f = (nothing-denied f.0, λ p m. f.1 p (there-missing p m))
