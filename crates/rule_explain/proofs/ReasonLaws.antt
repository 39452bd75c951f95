-- The computed reason is right, and no other is.
use Rattle.std.proofs.Common.{◌≡◌, ℕ, ◌+◌, ◌-◌, ◌<◌, ◌≤◌, Bool, true, false, ◌&&◌, List, IsTrue, Option, Some, None, length, get_or}
use Rattle.std.proofs.Common.{nat_lt, cond, refl, sym, ap, subst, ◌∙◌, inl, inr, arith, true≢false}
use Rattle.std.specs.List.{position, position_or_len}
use Rattle.std.specs.Prelude.{option_map}
use Rattle.std.proofs.lemmas.Bool.{and_parts, and_from, ltb-false, cases_lt}
use Rattle.std.proofs.lemmas.List.{get_or_default}
use Rattle.std.proofs.lemmas.List.Quantifiers.{position-Some}
use Rattle.std.proofs.lemmas.List.Sums.{fails_before_first}
use Rattle.names.specs.declared.permissions.Permission.{Permission}
use Rattle.rule_globs.specs.Glob.{Takes}
use Rattle.rule_globs.specs.PlainVerdict.{takes}
use Rattle.rule_globs.specs.Rules.{RuleValue, pattern, holds}
use Rattle.rule_globs.specs.Verdict.{Hits, IsLeast, IsRuleAt}
use Rattle.rule_globs.specs.laws.Cuts.{by_cuts}
use Rattle.names.specs.declared.kind.RuleKind.{RuleKind}
use Rattle.names.specs.declared.kind.RuleKind.TheVariants.{Allow, Deny}
use Rattle.rule_explain.specs.declared.reason.Reason.{Reason}
use Rattle.rule_explain.specs.declared.reason.Reason.TheVariants.{Allowed, Denied, NoRule}
use Rattle.rule_explain.specs.Reasons.{NoHit, IsReason, is_kind, hits, first_hit, reason_by, reason}
use Rattle.rule_explain.proofs.FirstHits.{nothing}

same_kind : (a b : RuleKind) → is_kind a b ≡ true → a ≡ b
same_kind Allow Allow h = refl
same_kind Deny Deny h = refl
same_kind Allow Deny h = absurd cc
same_kind Deny Allow h = absurd cc

kind_is_itself : (a : RuleKind) → is_kind a a ≡ true
kind_is_itself Allow = refl
kind_is_itself Deny = refl

no_place : (b : Bool) (i : ℕ) → cond b (Some i) None ≡ None → b ≡ false
no_place true i e = let never : ⊥ = cc in absurd never
no_place false i e = refl

module _ (rules : List RuleValue) (kind : RuleKind) (p : Permission) (name : List ℕ) where
  -- what the test of a rule says
  hit_says : (rule : RuleValue) → hits kind p name rule ≡ true → (rule.kind ≡ kind) × IsTrue (holds rule p) × Takes (pattern rule) name
  hit_says rule h =
      let outer = and_parts (is_kind rule.kind kind && holds rule p) (takes (pattern rule) name) h in
      let inner = and_parts (is_kind rule.kind kind) (holds rule p) outer.0 in
      (same_kind rule.kind kind inner.0, inner.1, (by_cuts (pattern rule) name).0 outer.1)

  hit_passes : (rule : RuleValue) → rule.kind ≡ kind → IsTrue (holds rule p) → Takes (pattern rule) name → hits kind p name rule ≡ true
  hit_passes rule k h t =
      and_from (is_kind rule.kind kind && holds rule p) (takes (pattern rule) name)
      (and_from (is_kind rule.kind kind) (holds rule p) (subst (λ x. is_kind rule.kind x ≡ true) k (kind_is_itself rule.kind)) h)
      ((by_cuts (pattern rule) name).1 t)

  -- a rule by its number is the one at its place
  at_place : (n : ℕ) (rule : RuleValue) → IsRuleAt rules n rule → rule ≡ get_or rules (n - 1) nothing
  at_place n rule at = at.2 ∙ get_or_default rules (n - 1) rule nothing (omega (arith, at.0, at.1))

  hit_there : (i : ℕ) → i < length rules → hits kind p name (get_or rules i nothing) ≡ true → Hits rules kind p name (i + 1)
  hit_there i lt h =
      let says = hit_says (get_or rules i nothing) h in
      let back : i ≡ i + 1 - 1 = omega arith in
      let there : get_or rules i nothing ≡ get_or rules (i + 1 - 1) (get_or rules i nothing) =
      get_or_default rules i nothing (get_or rules i nothing) lt ∙ ap (λ z. get_or rules z (get_or rules i nothing)) back in
      (get_or rules i nothing, (omega arith, omega arith, there), says.0, says.1, says.2)

  hit_at : (n : ℕ) → Hits rules kind p name n → hits kind p name (get_or rules (n - 1) nothing) ≡ true
  hit_at n h = subst (λ z. hits kind p name z ≡ true) (at_place n h.0 h.1) (hit_passes h.0 h.2 h.3 h.4)

  first_is_least : (i : ℕ) → position (hits kind p name) rules ≡ Some i → IsLeast (Hits rules kind p name) (i + 1)
  first_is_least i e =
      let at = position-Some (hits kind p name) rules i nothing e in (
        hit_there i at.0 at.1,
        λ m h. elim (cases_lt m (i + 1)) [
          | inl lt ↦
              let fails : hits kind p name (get_or rules (m - 1) nothing) ≡ false = at.2 (m - 1) (omega (arith, h.1.0, lt)) in
              absurd (true≢false (sym (hit_at m h) ∙ fails))
          | inr le ↦ le
        ],
      )

  none_hits : position (hits kind p name) rules ≡ None → NoHit rules kind p name
  none_hits e n h =
      let past : length rules ≤ position_or_len (hits kind p name) rules =
      ltb-false _ _ (no_place (nat_lt (position_or_len (hits kind p name) rules) (length rules))
      (position_or_len (hits kind p name) rules) e) in
      let fails : hits kind p name (get_or rules (n - 1) nothing) ≡ false =
      fails_before_first (hits kind p name) rules (n - 1) nothing (omega (arith, h.1.0, h.1.1, past)) in
      true≢false (sym (hit_at n h) ∙ fails)

-- the number of the first hit, from its place
abbrev numbered : Option ℕ → Option ℕ
numbered o = option_map (λ before. before + 1) o

module _ (rules : List RuleValue) (name : List ℕ) (p : Permission) where
  by_hits : (deny allow : Option ℕ) → position (hits Deny p name) rules ≡ deny → position (hits Allow p name) rules ≡ allow
      → IsReason rules name p (reason_by (numbered deny) (numbered allow))
  by_hits (Some i) allow e f = first_is_least rules Deny p name i e
  by_hits None (Some i) e f = (none_hits rules Deny p name e, first_is_least rules Allow p name i f)
  by_hits None None e f = (none_hits rules Deny p name e, none_hits rules Allow p name f)

  pub reason_is_right : IsReason rules name p (reason rules name p)
  unfolding reason
  reason_is_right = by_hits (position (hits Deny p name) rules) (position (hits Allow p name) rules) refl refl

  -- what was found, by its cases
  pub denied : (n : ℕ) → Some n ≡ first_hit Deny p name rules → Denied n ≡ reason rules name p
  unfolding reason
  denied n e = rw (← e) refl

  pub not_denied : (r : Reason) → None ≡ first_hit Deny p name rules → r ≡ reason_by None (first_hit Allow p name rules) →
      r ≡ reason rules name p
  unfolding reason
  not_denied r e h = rw (← e) h

  pub right_so : (r : Reason) → r ≡ reason rules name p → IsReason rules name p r
  right_so r e = rw e reason_is_right

one_number : (S : ℕ → Type 0) (n m : ℕ) → IsLeast S n → IsLeast S m → n ≡ m
one_number S n m f g = omega (arith, f.1 m g.0, g.1 n f.0)

pub one_reason : (rules : List RuleValue) (name : List ℕ) (p : Permission) (v w : Reason) → IsReason rules name p v →
    IsReason rules name p w → v ≡ w
one_reason rules name p (Denied n) (Denied m) f g = ap Denied (one_number (Hits rules Deny p name) n m f g)
one_reason rules name p (Denied n) (Allowed m) f g = absurd (g.0 n f.0)
one_reason rules name p (Denied n) NoRule f g = absurd (g.0 n f.0)
one_reason rules name p (Allowed n) (Denied m) f g = absurd (f.0 m g.0)
one_reason rules name p (Allowed n) (Allowed m) f g = ap Allowed (one_number (Hits rules Allow p name) n m f.1 g.1)
one_reason rules name p (Allowed n) NoRule f g = absurd (g.1 n f.1.0)
one_reason rules name p NoRule (Denied m) f g = absurd (f.0 m g.0)
one_reason rules name p NoRule (Allowed m) f g = absurd (f.1 m g.1.0)
one_reason rules name p NoRule NoRule f g = refl
