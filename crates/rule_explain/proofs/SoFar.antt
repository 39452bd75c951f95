-- The first rules that hit, among the rules so far.
use Rattle.std.proofs.Common.{◌≡◌, ℕ, ◌+◌, ◌<◌, ◌≤◌, Bool, true, false, ◌&&◌, List, Option, Some, None, IsTrue, length, get_or, refl}
use Rattle.std.proofs.Common.{sym, ap, ap₂, ◌∙◌, true≢false}
use Rattle.std.specs.Prelude.{option_map}
use Rattle.std.specs.List.{position}
use Rattle.std.proofs.lemmas.Bool.{and_parts}
use Rattle.names.specs.declared.permissions.Permission.{Permission}
use Rattle.rule_globs.specs.PlainVerdict.{takes}
use Rattle.rule_globs.specs.Rules.{RuleValue, pattern, holds}
use Rattle.names.specs.declared.kind.RuleKind.{RuleKind}
use Rattle.names.specs.declared.kind.RuleKind.TheVariants.{Allow, Deny}
use Rattle.rule_explain.specs.declared.hits.FirstHits.{FirstHits}
use Rattle.rule_explain.specs.declared.reason.Reason.{Reason}
use Rattle.rule_explain.specs.declared.reason.Reason.TheVariants.{Allowed, Denied, NoRule}
use Rattle.rule_explain.specs.Reasons.{IsReason, is_kind, hits, reason_by, reason}
use Rattle.rule_explain.specs.inner.Numbers.{TellsRuleOf}
use Rattle.rule_explain.specs.inner.Firsts.{with_first, with_rule, with_hit}
use Rattle.rule_explain.proofs.ReasonLaws.{right_so}
use Rattle.rule_explain.proofs.FirstHits.{nothing, NoneBefore, none_yet, one_more, found, absent}

-- it is the first of all, or none of the first i rules passes
abbrev pub IsSoFar : (RuleValue → Bool) → List RuleValue → ℕ → Option ℕ → Type 0
IsSoFar test rules i None = NoneBefore test rules i
IsSoFar test rules i (Some n) = Some n ≡ option_map (λ before. before + 1) (position test rules)

module _ (test : RuleValue → Bool) (rules : List RuleValue) (i : ℕ) where
  passed : (o : Option ℕ) → i < length rules → IsSoFar test rules i o → test (get_or rules i nothing) ≡ true →
      IsSoFar test rules (i + 1) (with_first o (i + 1))
  passed None lt h here = sym (ap (λ (o : Option ℕ). option_map (λ before. before + 1) o) (found test rules i lt h here))
  passed (Some n) lt h here = h

  failed : (o : Option ℕ) → IsSoFar test rules i o → test (get_or rules i nothing) ≡ false → IsSoFar test rules (i + 1) o
  failed None h here = one_more test rules i h here
  failed (Some n) h here = h

  at_end : (o : Option ℕ) → length rules ≤ i → IsSoFar test rules i o → o ≡ option_map (λ before. before + 1) (position test rules)
  at_end None le h = sym (ap (λ (o : Option ℕ). option_map (λ before. before + 1) o) (absent test rules i le h))
  at_end (Some n) le h = h

abbrev pub AreSoFar : List RuleValue → List ℕ → Permission → ℕ → FirstHits → Type 0
AreSoFar rules name p i found =
    IsSoFar (hits Deny p name) rules i found.denied × IsSoFar (hits Allow p name) rules i found.allowed

module _ (rules : List RuleValue) (name : List ℕ) (p : Permission) where
  pub nothing_yet : AreSoFar rules name p 0 (record { denied = None; allowed = None })
  nothing_yet = (none_yet (hits Deny p name) rules, none_yet (hits Allow p name) rules)

  pub reason_so_far : (i : ℕ) (found : FirstHits) → length rules ≤ i → AreSoFar rules name p i found →
      reason_by found.denied found.allowed ≡ reason rules name p
  unfolding reason
  reason_so_far i found le h =
      ap₂ reason_by (at_end (hits Deny p name) rules i found.denied le h.0) (at_end (hits Allow p name) rules i found.allowed le h.1)

  -- a rule that doesn't hold the permission or doesn't match the name hits for neither kind
  misses : (kind : RuleKind) (rule : RuleValue) → (IsTrue (holds rule p) → IsTrue (takes (pattern rule) name) → ⊥) →
      hits kind p name rule ≡ false
  misses kind rule never = at (hits kind p name rule) refl
    where
      at : (b : Bool) → hits kind p name rule ≡ b → b ≡ false
      at false e = refl
      at true e =
          let outer = and_parts (is_kind rule.kind kind && holds rule p) (takes (pattern rule) name) e in
          absurd (never (and_parts (is_kind rule.kind kind) (holds rule p) outer.0).1 outer.1)

  pub none_more : (i : ℕ) (found : FirstHits) → AreSoFar rules name p i found →
      (IsTrue (holds (get_or rules i nothing) p) → IsTrue (takes (pattern (get_or rules i nothing)) name) → ⊥) →
      AreSoFar rules name p (i + 1) found
  none_more i found h never = (
    failed (hits Deny p name) rules i found.denied h.0 (misses Deny (get_or rules i nothing) never),
    failed (hits Allow p name) rules i found.allowed h.1 (misses Allow (get_or rules i nothing) never),
  )

  -- a rule that holds the permission and matches the name
  of_kind : (kind other : RuleKind) (rule : RuleValue) → rule.kind ≡ kind → IsTrue (holds rule p) → IsTrue (takes (pattern rule) name) →
      hits other p name rule ≡ is_kind kind other
  of_kind kind other rule is h t = rw (is, h, t) (at (is_kind kind other))
    where
      at : (b : Bool) → (b && true) && true ≡ b
      at true = refl
      at false = refl

  held : (kind : RuleKind) (i : ℕ) (found : FirstHits) → i < length rules → AreSoFar rules name p i found →
      (get_or rules i nothing).kind ≡ kind → IsTrue (holds (get_or rules i nothing) p) →
      IsTrue (takes (pattern (get_or rules i nothing)) name) → AreSoFar rules name p (i + 1) (with_rule kind (i + 1) found)
  held Deny i found lt h is holding takes = (
    passed (hits Deny p name) rules i found.denied lt h.0 (of_kind Deny Deny (get_or rules i nothing) is holding takes),
    failed (hits Allow p name) rules i found.allowed h.1 (of_kind Deny Allow (get_or rules i nothing) is holding takes),
  )
  held Allow i found lt h is holding takes = (
    failed (hits Deny p name) rules i found.denied h.0 (of_kind Allow Deny (get_or rules i nothing) is holding takes),
    passed (hits Allow p name) rules i found.allowed lt h.1 (of_kind Allow Allow (get_or rules i nothing) is holding takes),
  )

  pub one_hit : (b : Bool) (kind : RuleKind) (i : ℕ) (found : FirstHits) → i < length rules → AreSoFar rules name p i found →
      (get_or rules i nothing).kind ≡ kind → holds (get_or rules i nothing) p ≡ b →
      IsTrue (takes (pattern (get_or rules i nothing)) name) → AreSoFar rules name p (i + 1) (with_hit found b kind (i + 1))
  one_hit true kind i found lt h is holding takes = held kind i found lt h is holding takes
  one_hit false kind i found lt h is holding takes = none_more i found h (λ holds _. true≢false (sym holds ∙ holding))

-- the rule that a reason names is one of the rules
tells_rule : (rules : List RuleValue) (name : List ℕ) (p : Permission) (r : Reason) → IsReason rules name p r →
    TellsRuleOf r (length rules)
tells_rule rules name p (Denied n) h = (h.0.1.0, h.0.1.1)
tells_rule rules name p (Allowed n) h = (h.1.0.1.0, h.1.0.1.1)
tells_rule rules name p NoRule h = tt

pub of_rules : (rules : List RuleValue) (name : List ℕ) (p : Permission) (r : Reason) → r ≡ reason rules name p →
    TellsRuleOf r (length rules)
of_rules rules name p r e = tells_rule rules name p r (right_so rules name p r e)
