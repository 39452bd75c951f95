-- What decides about a name, by reasons, and the same by its least hits.
use Rattle.std.proofs.Common.{◌≡◌, ◌≢◌, ◌↔◌, ⊎_elim, ℕ, ◌==◌, ◌≤◌, Bool, true, false, List, Option, Some, slice_get}
use Rattle.std.proofs.Common.{if◌then◌else◌, eq-eqb, refl, sym, ap, ◌∙◌, subst, arith, true≢false}
use Rattle.std.proofs.lemmas.Bool.{eqb-true}
use Rattle.names.specs.Least.{IsLeastOrNone, hits_of}
use Rattle.names.specs.Paths.{IsName}
use Rattle.names.specs.declared.kind.RuleKind.{RuleKind}
use Rattle.names.specs.declared.kind.RuleKind.TheVariants.{Allow, Deny}
use Rattle.names.specs.declared.permissions.Permission.{Permission}
use Rattle.names.specs.declared.permissions.Perms.{Perms}
use Rattle.names.specs.declared.record.LeastHits.{LeastHits}
use Rattle.names.specs.declared.verdict.Verdict.TheVariants as verdicts
use Rattle.names.specs.laws.LeastNumbers.{least_none}
use Rattle.automaton_search.specs.Order.{IsAtMost}
use Rattle.profile_questions.specs.Names.{AreLeastHits, AreRepresentatives, ComparisonValue, IsAlike}
use Rattle.profile_questions.specs.Questions.{IsAnswer, IsFound}
use Rattle.profile_questions.specs.declared.answer.Answer.{Answer}
use Rattle.profile_questions.specs.declared.answer.Answer.TheVariants as answer
use Rattle.profile_questions.specs.declared.comparison.Records.{Records}
use Rattle.profile_questions.specs.laws.RecordAnswers.{answer_told}
use Rattle.rule_explain.specs.Reasons.{IsReason}
use Rattle.rule_explain.specs.declared.reason.Reason.{Reason}
use Rattle.rule_explain.specs.declared.reason.Reason.TheVariants as reason
use Rattle.rule_globs.specs.Rules.{RuleValue}
use Rattle.rule_globs.specs.Tokens.{Token}
use Rattle.rule_globs.specs.Verdict.{Hits, IsVerdict}
use Rattle.question_answers.specs.Below.{is_given, rules_below}
use Rattle.question_answers.specs.declared.cause.Cause.{Cause}
use Rattle.question_answers.specs.declared.cause.Cause.TheVariants.{Allowed, Denied, NoRule}
use Rattle.question_answers.specs.declared.cause.Causes.{Causes}
use Rattle.question_answers.specs.declared.least.Wanted.{Wanted}
use Rattle.question_answers.specs.inner.Causes.{AreCauses, AreTold, HasCauses, cause_of, causes_at, reason_of}
use Rattle.question_answers.specs.inner.Wants.{wanted_of}
use Rattle.question_answers.proofs.BelowLaws.{PatternLaw, found_is_wanted}

-- ---- causes are reasons

abbrev pub cause_by : Reason → Cause
cause_by (reason.Allowed n) = Allowed n
cause_by (reason.Denied n) = Denied n
cause_by reason.NoRule = NoRule

there_and_back : (a : Cause) → cause_by (reason_of a) ≡ a
there_and_back (Allowed n) = refl
there_and_back (Denied n) = refl
there_and_back NoRule = refl

pub back_and_there : (r : Reason) → reason_of (cause_by r) ≡ r
back_and_there (reason.Allowed n) = refl
back_and_there (reason.Denied n) = refl
back_and_there reason.NoRule = refl

one_cause : (a b : Cause) → reason_of a ≡ reason_of b → a ≡ b
one_cause a b e = sym (there_and_back a) ∙ ap cause_by e ∙ there_and_back b

abbrev pub OneReason : Type 0
OneReason = (rules : List RuleValue) (name : List ℕ) (p : Permission) (first second : Reason) → IsReason rules name p first →
    IsReason rules name p second → first ≡ second

-- ---- by least hits

module _ (rules : List RuleValue) (name : List ℕ) (p : Permission) where
  numbered : (kind : RuleKind) (n : ℕ) → Hits rules kind p name n → n ≢ 0
  numbered kind n h zero = let e : ⊥ = omega (arith, h.1.0, zero) in e

  none_of : (kind : RuleKind) (n : ℕ) → IsLeastOrNone (Hits rules kind p name) n → n ≡ 0 → (m : ℕ) → ¬ (Hits rules kind p name m)
  none_of kind n least zero m = least_none (Hits rules kind p name) n (numbered kind) least zero m

  some_of : (kind : RuleKind) (n : ℕ) → IsLeastOrNone (Hits rules kind p name) n → n ≢ 0 →
      Hits rules kind p name n × ((m : ℕ) → Hits rules kind p name m → n ≤ m)
  some_of kind n least nonzero = ⊎_elim (λ none. absurd (nonzero none.0)) (λ is. is) least

  right_cause : (hits : LeastHits) → IsLeastOrNone (Hits rules Allow p name) hits.allow →
      IsLeastOrNone (Hits rules Deny p name) hits.deny → IsReason rules name p (reason_of (cause_of hits))
  right_cause hits allow deny = by_deny (hits.deny == 0) refl
    where
      by_allow : (b : Bool) → (hits.allow == 0) ≡ b → ((m : ℕ) → ¬ (Hits rules Deny p name m)) →
          IsReason rules name p (reason_of (if b then NoRule else Allowed hits.allow))
      by_allow true e none = (none, none_of Allow hits.allow allow (eqb-true hits.allow 0 e))
      by_allow false e none = (none, some_of Allow hits.allow allow (λ z. true≢false (sym (eq-eqb hits.allow 0 z) ∙ e)))

      by_deny : (b : Bool) → (hits.deny == 0) ≡ b →
          IsReason rules name p (reason_of (if b then (if hits.allow == 0 then NoRule else Allowed hits.allow) else Denied hits.deny))
      by_deny true e = by_allow (hits.allow == 0) refl (none_of Deny hits.deny deny (eqb-true hits.deny 0 e))
      by_deny false e = some_of Deny hits.deny deny (λ z. true≢false (sym (eq-eqb hits.deny 0 z) ∙ e))

-- ---- names that no rule distinguishes

module _ (rules : List RuleValue) (x y : List ℕ) (alike : IsAlike rules x y) (p : Permission) (kind : RuleKind) where
  pub hits_too : (n : ℕ) → Hits rules kind p x n → Hits rules kind p y n
  hits_too n h = (h.0, h.1, h.2, h.3, (alike n h.0 h.1).0 h.4)

  pub hits_back : (n : ℕ) → Hits rules kind p y n → Hits rules kind p x n
  hits_back n h = (h.0, h.1, h.2, h.3, (alike n h.0 h.1).1 h.4)

module _ (rules : List RuleValue) where
  turned : (x y : List ℕ) → IsAlike rules x y → IsAlike rules y x
  turned x y alike n rule at = let both = alike n rule at in (both.1, both.0)

  allowed_too : (x y : List ℕ) → IsAlike rules x y → (ask : Perms) → IsVerdict rules x ask verdicts.Allowed →
      IsVerdict rules y ask verdicts.Allowed
  allowed_too x y alike ask v = (
    λ n d. v.0 n (d.0, d.1, hits_back rules x y alike d.0 Deny n d.2),
    λ p m. v.1 p (m.0, λ n h. m.1 n (hits_too rules x y alike p Allow n h)),
  )

  answer_too : (x y : List ℕ) → IsAlike rules x y → (wanted : Answer) → IsAnswer wanted rules x → IsAnswer wanted rules y
  answer_too x y alike answer.Any h = tt
  answer_too x y alike (answer.Allowed ask) h = allowed_too x y alike ask h
  answer_too x y alike (answer.Refused ask) h = λ v. h (allowed_too y x (turned x y alike) ask v)

  reason_too : (x y : List ℕ) → IsAlike rules x y → (p : Permission) (r : Reason) → IsReason rules x p r → IsReason rules y p r
  reason_too x y alike p (reason.Denied n) h =
      (hits_too rules x y alike p Deny n h.0, λ m k. h.1 m (hits_back rules x y alike p Deny m k))
  reason_too x y alike p (reason.Allowed n) h = (
    λ m k. h.0 m (hits_back rules x y alike p Deny m k),
    (hits_too rules x y alike p Allow n h.1.0, λ m k. h.1.1 m (hits_back rules x y alike p Allow m k)),
  )
  reason_too x y alike p reason.NoRule h = (
    λ m k. h.0 m (hits_back rules x y alike p Deny m k),
    λ m k. h.1 m (hits_back rules x y alike p Allow m k),
  )

-- ---- of names

module _ (law : PatternLaw) (c : ComparisonValue) (w : Wanted) (below : Option (List Token)) (restricted : Bool) (ask : Perms)
    (third : c.third ≡ rules_below below) (given : restricted ≡ is_given below) where
  -- each name is represented by one with its causes
  pub represented : AreRepresentatives c → (k : Causes) (name : List ℕ) → HasCauses below c w ask k name →
      (i : ℕ) × (least : List ℕ) × (slice_get c.names i ≡ Some least) × IsAtMost least name × HasCauses below c w ask k least
  represented are k name h =
      let found = (found_is_wanted law c w below restricted name third given).1 h.0 in
      let by = are.complete name found.is_name in
      let least = by.1 in
      let same : IsFound c (wanted_of w restricted) least = record {
        is_name = are.named by.0 least by.2;
        first = answer_too c.first name least by.4.0 (wanted_of w restricted).first found.first;
        second = answer_too c.second name least by.4.1 (wanted_of w restricted).second found.second;
        third = answer_too c.third name least by.4.2 (wanted_of w restricted).third found.third;
      } in (
        by.0,
        least,
        by.2,
        by.3,
        (
          (found_is_wanted law c w below restricted least third given).0 same,
          (
            h.1.0,
            h.1.1,
            reason_too c.first name least by.4.0 h.1.0 (reason_of k.first) h.1.2,
            reason_too c.second name least by.4.1 h.1.0 (reason_of k.second) h.1.3,
          ),
        ),
      )

  module _ (one : OneReason) (name : List ℕ) (is_name : IsName name) (records : Records) (least : AreLeastHits c name records) where
    right : (p : Permission) → IsReason c.first name p (reason_of (causes_at records p).first)
        × IsReason c.second name p (reason_of (causes_at records p).second)
    right p = (
      right_cause c.first name p (hits_of records.first p) (least.first p).0 (least.first p).1,
      right_cause c.second name p (hits_of records.second p) (least.second p).0 (least.second p).1,
    )

    told_has : (k : Causes) → AreTold (wanted_of w restricted) records × AreCauses records ask k → HasCauses below c w ask k name
    told_has k h =
        let told = h.0 in
        let found : IsFound c (wanted_of w restricted) name = record {
          is_name = is_name;
          first = (answer_told c.first name records.first least.first (wanted_of w restricted).first).0 told.0;
          second = (answer_told c.second name records.second least.second (wanted_of w restricted).second).0 told.1;
          third = (answer_told c.third name records.third least.third (wanted_of w restricted).third).0 told.2;
        } in
        let p = h.1.0 in (
          (found_is_wanted law c w below restricted name third given).0 found,
          (
            p,
            h.1.1,
            subst (λ (z : Causes). IsReason c.first name p (reason_of z.first)) (sym h.1.2) (right p).0,
            subst (λ (z : Causes). IsReason c.second name p (reason_of z.second)) (sym h.1.2) (right p).1,
          ),
        )

    has_told : (k : Causes) → HasCauses below c w ask k name → AreTold (wanted_of w restricted) records × AreCauses records ask k
    has_told k h =
        let found = (found_is_wanted law c w below restricted name third given).1 h.0 in
        let p = h.1.0 in
        let at = causes_at records p in
        let first : k.first ≡ at.first = one_cause k.first at.first
        (one c.first name p (reason_of k.first) (reason_of at.first) h.1.2 (right p).0) in
        let second : k.second ≡ at.second = one_cause k.second at.second
        (one c.second name p (reason_of k.second) (reason_of at.second) h.1.3 (right p).1) in
        let same : k ≡ at = ap (λ (z : Cause). record { first = z; second = k.second }) first
        ∙ ap (λ (z : Cause). record { first = at.first; second = z }) second in (
          (
            (answer_told c.first name records.first least.first (wanted_of w restricted).first).1 found.first,
            (answer_told c.second name records.second least.second (wanted_of w restricted).second).1 found.second,
            (answer_told c.third name records.third least.third (wanted_of w restricted).third).1 found.third,
          ),
          (p, h.1.1, same),
        )

    pub causes_by_hits : (k : Causes) →
        (AreTold (wanted_of w restricted) records × AreCauses records ask k) ↔ HasCauses below c w ask k name
    causes_by_hits k = (told_has k, has_told k)
