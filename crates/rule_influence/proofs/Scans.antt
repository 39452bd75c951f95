-- What is noted, as one representative after another is looked at, and what that says of all names.
use Rattle.std.proofs.Common.{◌≡◌, ◌↔◌, inl, inr, ⊎_elim, ℕ, ◌+◌, ◌<◌, ◌≤◌, false, List, Some, length, reverse, slice_get, slice_index_or}
use Rattle.std.proofs.Common.{replicate, sym, ap, ◌∙◌, subst, arith, true≢false}
use Rattle.std.proofs.lemmas.Bool.{cases_Bool, cases_lt}
use Rattle.std.proofs.lemmas.List.{get_or-replicate, length-replicate}
use Rattle.std.proofs.lemmas.Option.{get_or_from_slice_get, same_Some, slice_get_within}
use Rattle.names.specs.declared.permissions.Permission.{Permission}
use Rattle.names.specs.declared.permissions.Perms.{Perms}
use Rattle.names.specs.declared.kind.RuleKind.{RuleKind}
use Rattle.names.specs.declared.kind.RuleKind.TheVariants.{Allow, Deny}
use Rattle.names.specs.declared.record.Record.{Record}
use Rattle.names.specs.Least.{hits_of}
use Rattle.names.specs.Paths.{IsName}
use Rattle.names.specs.Permissions.{has}
use Rattle.names.specs.laws.PermissionSets.{has-set_of}
use Rattle.rule_globs.specs.Rules.{RuleValue}
use Rattle.rule_globs.specs.Verdict.{Hits, IsAllowed}
use Rattle.rule_globs.specs.laws.PlainLaws.{allowed_by_hits}
use Rattle.glob_automaton.specs.Least.{IsLeastRecord}
use Rattle.profile_questions.specs.declared.comparison.Records.{Records}
use Rattle.profile_questions.specs.Names.{AreLeastHits, AreRepresentatives, ComparisonValue, IsAlike}
use Rattle.rule_influence.specs.Influence.{AreDecided, Decides, IsAllowedWithout}
use Rattle.rule_influence.specs.inner.Deciders.{AreNoted, IsNoted, decider, no_perms}
use Rattle.rule_influence.proofs.LoneHits.{found_decides, others_idle}

-- names that no rule distinguishes are allowed the same
module _ (rules : List RuleValue) where
  alike_back : (x y : List ℕ) → IsAlike rules x y → IsAlike rules y x
  alike_back x y alike n rule at = let both = alike n rule at in (both.1, both.0)

  module _ (p : Permission) (x y : List ℕ) (alike : IsAlike rules x y) where
    pub hits_alike : (kind : RuleKind) (n : ℕ) → Hits rules kind p x n → Hits rules kind p y n
    hits_alike kind n h = (h.0, h.1, h.2, h.3, (alike n h.0 h.1).0 h.4)

    pub hits_back : (kind : RuleKind) (n : ℕ) → Hits rules kind p y n → Hits rules kind p x n
    hits_back kind n h = (h.0, h.1, h.2, h.3, (alike n h.0 h.1).1 h.4)

    allowed_alike : IsAllowed rules x p → IsAllowed rules y p
    allowed_alike a =
        let by = (allowed_by_hits rules x p).0 a in
        (allowed_by_hits rules y p).1 ((λ n h. by.0 n (hits_back Deny n h)), (by.1.0, hits_alike Allow by.1.0 by.1.1))

    without_alike : (k : ℕ) → IsAllowedWithout rules k x p → IsAllowedWithout rules k y p
    without_alike k w = (
      λ n h. w.0 n (hits_back Deny n h.0, h.1),
      (w.1.0, (hits_alike Allow w.1.0 w.1.1.0, w.1.1.1)),
    )

-- what is noted of the representatives before the index
pub record AreNotedSoFar (rules : List RuleValue) (names : List (List ℕ)) (index : ℕ) (decided : List Perms) : Type 0 where
  pub each : length decided ≡ length rules
  pub decides : (i : ℕ) (p : Permission) → i < length rules → IsNoted decided i p → Decides rules (i + 1) p
  pub idle : (i : ℕ) (p : Permission) → i < length rules → has (slice_index_or decided i no_perms) p ≡ false →
      (j : ℕ) (name : List ℕ) → j < index → slice_get names j ≡ Some name → IsAllowed rules name p ↔ IsAllowedWithout rules (i + 1) name p

module _ (rules : List RuleValue) (names : List (List ℕ)) where
  pub noted_first : (count : ℕ) → count ≡ length rules → AreNotedSoFar rules names 0 (replicate count no_perms)
  noted_first count is = record {
    each = length-replicate count no_perms ∙ is;
    decides = λ i p lt noted. absurd (true≢false (sym noted
        ∙ ap (λ z. has z p) (get_or-replicate count i no_perms no_perms (omega (arith, lt, is))) ∙ has-set_of (λ q. false) p));
    idle = λ i p lt none j name before at. absurd (omega (arith, before));
  }

  module _ (index : ℕ) (name : List ℕ) (at : slice_get names index ≡ Some name) (is_name : IsName name) (hits reversed : Record)
      (least : IsLeastRecord rules name hits) (other : IsLeastRecord (reverse rules) name reversed) (old new : List Perms)
      (so_far : AreNotedSoFar rules names index old) (noted : AreNoted hits reversed old new) where
    found : (i : ℕ) (p : Permission) → decider (length old) (hits_of hits p) (hits_of reversed p) ≡ i + 1 → Decides rules (i + 1) p
    found i p e = (
      name,
      is_name,
      found_decides rules name hits reversed least other p (i + 1) (λ z. omega (arith, z))
          (subst (λ z. decider z (hits_of hits p) (hits_of reversed p) ≡ i + 1) so_far.each e),
    )

    still_idle : (i : ℕ) (p : Permission) → i < length rules → has (slice_index_or new i no_perms) p ≡ false → (j : ℕ) (x : List ℕ) →
        j < index + 1 → slice_get names j ≡ Some x → IsAllowed rules x p ↔ IsAllowedWithout rules (i + 1) x p
    still_idle i p lt none j x before here =
        let now = noted.noted i p (omega (arith, lt, so_far.each)) in
        ⊎_elim
        (λ less. so_far.idle i p lt
        (⊎_elim (λ t. absurd (true≢false (sym (now.1 (inl t)) ∙ none))) (λ f. f) (cases_Bool (has (slice_index_or old i no_perms) p)))
        j x less here)
        (λ ge.
        let e : index ≡ j = omega (arith, before, ge) in
        let one : name ≡ x = same_Some name x (sym at ∙ ap (slice_get names) e ∙ here) in
        subst (λ z. IsAllowed rules z p ↔ IsAllowedWithout rules (i + 1) z p) one
        (others_idle rules name hits reversed least other p (i + 1) (λ z. true≢false (sym (now.1
        (inr (subst (λ (n : ℕ). decider n (hits_of hits p) (hits_of reversed p) ≡ i + 1) (sym so_far.each) z))) ∙ none))))
        (cases_lt j index)

    pub noted_next : AreNotedSoFar rules names (index + 1) new
    noted_next = record {
      each = noted.each ∙ so_far.each;
      decides = λ i p lt h. ⊎_elim (λ was. so_far.decides i p lt was) (λ e. found i p e)
          ((noted.noted i p (omega (arith, lt, so_far.each))).0 h);
      idle = still_idle;
    }

-- all representatives stand for all names
noted_all : (c : ComparisonValue) (index : ℕ) (decided : List Perms) → AreRepresentatives c → length c.names ≤ index →
    AreNotedSoFar c.first c.names index decided → AreDecided c.first decided
noted_all c index decided are past so_far = record {
  each = so_far.each;
  decides = λ i perms p at h.
      let lt = slice_get_within decided i perms at in
      so_far.decides i p (omega (arith, lt, so_far.each))
      (ap (λ z. has z p) (get_or_from_slice_get decided i perms no_perms at) ∙ h);
  idle = λ i perms p at h name is.
      let lt = slice_get_within decided i perms at in
      let one = are.complete name is in
      let alike = one.4.0 in
      let same = so_far.idle i p (omega (arith, lt, so_far.each))
      (ap (λ z. has z p) (get_or_from_slice_get decided i perms no_perms at) ∙ h)
      one.0 one.1 (omega (arith, past, slice_get_within c.names one.0 one.1 one.2)) one.2 in
      let back = alike_back c.first name one.1 alike in (
        λ a. without_alike c.first p one.1 name back (i + 1) (same.0 (allowed_alike c.first p name one.1 alike a)),
        λ w. allowed_alike c.first p one.1 name back (same.1 (without_alike c.first p name one.1 alike (i + 1) w)),
      );
}

module _ (rules : List RuleValue) (c : ComparisonValue) (first : c.first ≡ rules) (second : c.second ≡ reverse rules)
    (are : AreRepresentatives c) where
  pub noted_more : (index : ℕ) (records : Records) →
      ((name : List ℕ) × (slice_get c.names index ≡ Some name) × AreLeastHits c name records) →
      (old new : List Perms) → AreNotedSoFar rules c.names index old → AreNoted records.first records.second old new →
      AreNotedSoFar rules c.names (index + 1) new
  noted_more index records one old new so_far noted =
      noted_next rules c.names index one.0 one.1 (are.named index one.0 one.1) records.first records.second
      (subst (λ z. IsLeastRecord z one.0 records.first) first one.2.first)
      (subst (λ z. IsLeastRecord z one.0 records.second) second one.2.second)
      old new so_far noted

  pub noted_last : (index : ℕ) (decided : List Perms) → length c.names ≤ index → AreNotedSoFar rules c.names index decided →
      AreDecided rules decided
  noted_last index decided past so_far = subst (λ z. AreDecided z decided) first
      (noted_all c index decided are past (subst (λ z. AreNotedSoFar z c.names index decided) (sym first) so_far))
