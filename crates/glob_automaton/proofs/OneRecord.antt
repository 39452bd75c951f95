-- Each list of bytes has one record of least hits.
use Rattle.std.proofs.Common.{◌≡◌, ⊎_elim, ℕ, ◌-◌, Bool, IsTrue, false, List, Option, Some, None, slice_get, sym, ap, ◌∙◌, subst, arith}
use Rattle.names.specs.declared.permissions.Permission.{Permission}
use Rattle.rule_globs.specs.PlainVerdict.{takes}
use Rattle.rule_profile.specs.Profile.{RuleValue, pattern}
use Rattle.rule_globs.specs.Verdict.{Hits}
use Rattle.names.specs.declared.kind.RuleKind.TheVariants.{Allow, Deny}
use Rattle.names.specs.declared.record.LeastHits.{LeastHits}
use Rattle.names.specs.declared.record.Record.{Record}
use Rattle.names.specs.Hits.{no_hits}
use Rattle.names.specs.Least.{hits_of, IsLeastOrNone}
use Rattle.glob_automaton.specs.Least.{IsLeastRecord}
use Rattle.glob_automaton.proofs.HitSteps.{record_over, AreMatches, record_over_is_least}
use Rattle.glob_automaton.proofs.LiveTests.{TakesByCuts}
use Rattle.glob_automaton.proofs.ReachedSets.{at_index}

-- a set has one least member, or none
one_least : (S : ℕ → Type 0) (m n : ℕ) → IsLeastOrNone S m → IsLeastOrNone S n → m ≡ n
one_least S m n one other = ⊎_elim
    (λ h. ⊎_elim (λ k. omega (arith, h.0, k.0)) (λ k. absurd (h.1 n k.0)) other)
    (λ h. ⊎_elim (λ k. absurd (k.1 m h.0)) (λ k. let le = h.1 n k.0 in let ge = k.1 m h.0 in omega (arith, le, ge)) other)
    one

-- hits are by their two numbers
same_hits : (h k : LeastHits) → h.allow ≡ k.allow → h.deny ≡ k.deny → h ≡ k
same_hits h k one other =
    ap (λ z. record { allow = z; deny = h.deny }) one ∙ ap (λ z. record { allow = k.allow; deny = z }) other

-- a record is what it has for each permission
abbrev pub AreTheirHits : Type 0
AreTheirHits = (r s : Record) → ((p : Permission) → hits_of r p ≡ hits_of s p) → r ≡ s

pub one_record : AreTheirHits → (rules : List RuleValue) (name : List ℕ) (first second : Record) →
    IsLeastRecord rules name first → IsLeastRecord rules name second → first ≡ second
one_record same rules name first second one other = same first second (λ p. same_hits (hits_of first p) (hits_of second p)
    (one_least (Hits rules Allow p name) (hits_of first p).allow (hits_of second p).allow (one p).0 (other p).0)
    (one_least (Hits rules Deny p name) (hits_of first p).deny (hits_of second p).deny (one p).1 (other p).1))

-- whether a rule that may be there matches the name
may_take : List ℕ → Option RuleValue → Bool
may_take name None = false
may_take name (Some rule) = takes (pattern rule) name

pub some_record : TakesByCuts → (rules : List RuleValue) (name : List ℕ) → (r : Record) × IsLeastRecord rules name r
unfolding may_take
some_record cuts rules name = (record_over matches 0 no_hits rules, record_over_is_least rules name matches are)
  where
    matches : ℕ → Bool
    matches n = may_take name (slice_get rules (n - 1))

    are : AreMatches rules name matches
    are n rule at =
        let e : matches n ≡ takes (pattern rule) name = ap (may_take name) (at_index rules n rule at) in
        let law = cuts (pattern rule) name in (
          λ t. law.0 (subst IsTrue e t),
          λ h. subst IsTrue (sym e) (law.1 h),
        )
