-- The record of least hits, one rule after another.
use Rattle.std.proofs.Common.{◌≡◌, ◌≢◌, ◌⊎◌, inl, inr, ⊎_elim, ℕ, zero, suc, ◌+◌, ◌-◌, ◌≤◌, ◌↔◌, ◌==◌, Bool, IsTrue, List, [], ◌∷◌, length}
use Rattle.std.proofs.Common.{get_or, refl, sym, ap, ◌∙◌, subst, arith, if◌then◌else◌, true≢false}
use Rattle.std.proofs.lemmas.Bool.{cases_Bool, cases_lt, eqb-true}
use Rattle.std.proofs.lemmas.List.{get_or_default}
use Rattle.names.specs.declared.permissions.Permission.{Permission}
use Rattle.names.specs.declared.permissions.Perms.{Perms}
use Rattle.names.specs.Permissions.{held}
use Rattle.rule_globs.specs.Glob.{Takes}
use Rattle.rule_profile.specs.Profile.{RuleValue, holds, pattern}
use Rattle.rule_globs.specs.Verdict.{IsRuleAt, Hits}
use Rattle.names.specs.declared.kind.RuleKind.{RuleKind}
use Rattle.names.specs.declared.kind.RuleKind.TheVariants.{Allow, Deny}
use Rattle.names.specs.declared.record.LeastHits.{LeastHits}
use Rattle.names.specs.declared.record.Record.{Record}
use Rattle.names.specs.Hits.{first_number, hits_with, hits_after, record_with, no_hits}
use Rattle.names.specs.Least.{hits_of, no_hit, IsLeastOrNone}
use Rattle.names.specs.laws.Positions.{place_below, stands_there}
use Rattle.names.specs.laws.Records.{hits_made}
use Rattle.glob_automaton.specs.Least.{IsLeastRecord}
use Rattle.glob_automaton.proofs.LeastSteps.{least-same}

-- the record after more rules, numbered after i, of which those whose number passes the test match
abbrev pub record_over : (ℕ → Bool) → ℕ → Record → List RuleValue → Record
record_over matches i r [] = r
record_over matches i r (rule ∷ rules) =
    record_over matches (i + 1) (if matches (i + 1) then record_with r rule.kind (held rule.perms) (i + 1) else r) rules

-- the test says which rules match the name
abbrev pub AreMatches : List RuleValue → List ℕ → (ℕ → Bool) → Type 0
AreMatches rules name matches = (n : ℕ) (rule : RuleValue) → IsRuleAt rules n rule → IsTrue (matches n) ↔ Takes (pattern rule) name

-- the number of one kind
abbrev pub number_of : RuleKind → LeastHits → ℕ
number_of Allow h = h.allow
number_of Deny h = h.deny

-- a hit of one of the first i rules
abbrev pub HitsUpTo : List RuleValue → List ℕ → ℕ → RuleKind → Permission → ℕ → Type 0
HitsUpTo rules name i kind p n = (n ≤ i) × Hits rules kind p name n

-- the record has the least hits of the first i rules
abbrev pub IsLeastUpTo : List RuleValue → List ℕ → ℕ → Record → Type 0
IsLeastUpTo rules name i r = (kind : RuleKind) (p : Permission) → IsLeastOrNone (HitsUpTo rules name i kind p)
    (number_of kind (hits_of r p))

-- where no number was there, the new one is taken
first-new : (old n : ℕ) → old ≡ 0 → first_number old n ≡ n
first-new old n e = ap (λ z. first_number z n) e

-- a number that was there is kept
first-kept : (old n : ℕ) → old ≢ 0 → first_number old n ≡ old
first-kept old n nonzero = ⊎_elim
    (λ t. absurd (nonzero (eqb-true old 0 t)))
    (λ f. ap (λ b. if b then n else old) f)
    (cases_Bool (old == 0))

-- One more rule hits, after all hits so far.
pub least-first : (S T : ℕ → Type 0) (old n : ℕ) → ((m : ℕ) → S m → T m) → T n → ((m : ℕ) → T m → S m ⊎ (m ≡ n)) →
    ((m : ℕ) → S m → (m ≢ 0) × (m ≤ n)) → IsLeastOrNone S old → IsLeastOrNone T (first_number old n)
least-first S T old n to here back range least = ⊎_elim
    (λ h. subst (IsLeastOrNone T) (sym (first-new old n h.0)) (inr (
      here,
      λ m t. ⊎_elim (λ s. absurd (h.1 m s)) (λ e. omega (arith, e)) (back m t),
    )))
    (λ h. subst (IsLeastOrNone T) (sym (first-kept old n (range old h.0).0)) (inr (
      to old h.0,
      λ m t. ⊎_elim (λ s. h.1 m s) (λ e. let le : old ≤ n = (range old h.0).1 in omega (arith, e, le)) (back m t),
    )))
    least

-- a hit of the kind comes in, and one of the other kind does not
pub after : (kind own : RuleKind) (h : LeastHits) (n : ℕ) →
    ((own ≡ kind) × (number_of kind (hits_with h own n) ≡ first_number (number_of kind h) n))
    ⊎ ((own ≡ kind → ⊥) × (number_of kind (hits_with h own n) ≡ number_of kind h))
after Allow Allow h n = inl (refl, refl)
after Allow Deny h n = inr (λ e. let never : ⊥ = cc (e) in never, refl)
after Deny Allow h n = inr (λ e. let never : ⊥ = cc (e) in never, refl)
after Deny Deny h n = inl (refl, refl)

-- the record after one more rule has the hits after it
pub hits_of-with : (r : Record) (kind : RuleKind) (perms : Perms) (n : ℕ) (p : Permission) → hits_of (record_with r kind perms n) p
    ≡ hits_after r kind perms n p
hits_of-with r kind perms n p = hits_made place_below stands_there (hits_after r kind perms n) p

-- no number is there where no rule hits
pub none-of : (kind : RuleKind) (p : Permission) → number_of kind (hits_of no_hits p) ≡ 0
none-of Allow p = ap (number_of Allow) (hits_made place_below stands_there (λ q. no_hit) p)
none-of Deny p = ap (number_of Deny) (hits_made place_below stands_there (λ q. no_hit) p)

-- a number has one rule
same_rule : (rules : List RuleValue) (n : ℕ) (r s : RuleValue) → IsRuleAt rules n r → IsRuleAt rules n s → r ≡ s
same_rule rules n r s f g = f.2 ∙ get_or_default rules (n - 1) r s (omega (arith, f.0, f.1)) ∙ sym g.2

-- a hit of that rule is one of its own kind and permissions
hit_of : (rules : List RuleValue) (kind : RuleKind) (p : Permission) (name : List ℕ) (n : ℕ) (r : RuleValue) → IsRuleAt rules n r →
    Hits rules kind p name n → (r.kind ≡ kind) × IsTrue (holds r p) × Takes (pattern r) name
hit_of rules kind p name n r at h =
    let P : RuleValue → Type 0 = λ z. (z.kind ≡ kind) × IsTrue (holds z p) × Takes (pattern z) name in
    subst P (same_rule rules n h.0 r h.1 at) (h.2, h.3, h.4)

module _ (rules : List RuleValue) (name : List ℕ) where
  -- a hit of one more rule is one of those before or is that rule's
  hit_before : (kind : RuleKind) (p : Permission) (i m : ℕ) → HitsUpTo rules name (i + 1) kind p m →
      HitsUpTo rules name i kind p m ⊎ (m ≡ i + 1)
  hit_before kind p i m t = ⊎_elim (λ lt. inl (omega arith, t.1)) (λ le. inr (omega (arith, le, t.0))) (cases_lt m (i + 1))

  -- the rule has no hit of this kind and permission
  skip : (kind : RuleKind) (p : Permission) (i old : ℕ) → (Hits rules kind p name (i + 1) → ⊥) →
      IsLeastOrNone (HitsUpTo rules name i kind p) old → IsLeastOrNone (HitsUpTo rules name (i + 1) kind p) old
  skip kind p i old none least = least-same (HitsUpTo rules name i kind p) (HitsUpTo rules name (i + 1) kind p) old
      (λ m s. (omega (arith, s.0), s.1))
      (λ m t. ⊎_elim (λ s. s) (λ e. absurd (none (subst (Hits rules kind p name) e t.1))) (hit_before kind p i m t))
      least

  -- the rule has one
  enter : (kind : RuleKind) (p : Permission) (i old : ℕ) → Hits rules kind p name (i + 1) →
      IsLeastOrNone (HitsUpTo rules name i kind p) old → IsLeastOrNone (HitsUpTo rules name (i + 1) kind p) (first_number old (i + 1))
  enter kind p i old hit least = least-first (HitsUpTo rules name i kind p) (HitsUpTo rules name (i + 1) kind p) old (i + 1)
      (λ m s. (omega (arith, s.0), s.1))
      (omega arith, hit)
      (λ m t. hit_before kind p i m t)
      (λ m s. (λ z. let never : ⊥ = omega (arith, z, s.1.1.0) in never, omega (arith, s.0)))
      least

  -- before the first rule nothing hits
  pub upto-none : IsLeastUpTo rules name 0 no_hits
  upto-none kind p = inl (none-of kind p, λ m s. let never : ⊥ = omega (arith, s.0, s.1.1.0) in never)

  -- a rule that doesn't match the name leaves the record
  pub upto-skip : (i : ℕ) (r s : Record) (rule : RuleValue) → IsRuleAt rules (i + 1) rule → (Takes (pattern rule) name → ⊥) → s ≡ r →
      IsLeastUpTo rules name i r → IsLeastUpTo rules name (i + 1) s
  upto-skip i r s rule at none same least = subst (IsLeastUpTo rules name (i + 1)) (sym same)
      (λ kind p. skip kind p i (number_of kind (hits_of r p)) (λ h. none (hit_of rules kind p name (i + 1) rule at h).2) (least kind p))

  -- a rule that matches the name is added
  adds : (i : ℕ) (r : Record) (rule : RuleValue) → IsRuleAt rules (i + 1) rule → Takes (pattern rule) name →
      IsLeastUpTo rules name i r → IsLeastUpTo rules name (i + 1) (record_with r rule.kind (held rule.perms) (i + 1))
  adds i r rule at takes least kind p =
      let old = hits_of r p in
      let is = hits_of-with r rule.kind (held rule.perms) (i + 1) p in
      let both : Bool → LeastHits = λ b. if b then hits_with old rule.kind (i + 1) else old in
      let Least : ℕ → Type 0 = IsLeastOrNone (HitsUpTo rules name (i + 1) kind p) in ⊎_elim
      (λ yes. let now : hits_of (record_with r rule.kind (held rule.perms) (i + 1)) p ≡ hits_with old rule.kind (i + 1) =
      is ∙ ap both yes in ⊎_elim (λ same. subst Least (sym (ap (number_of kind) now ∙ same.1))
      (enter kind p i (number_of kind old) (rule, at, same.0, yes, takes) (least kind p)))
      (λ other. subst Least (sym (ap (number_of kind) now ∙ other.1))
      (skip kind p i (number_of kind old) (λ h. other.0 (hit_of rules kind p name (i + 1) rule at h).0) (least kind p)))
      (after kind rule.kind old (i + 1)))
      (λ no. let now : hits_of (record_with r rule.kind (held rule.perms) (i + 1)) p ≡ old = is ∙ ap both no in
      subst Least (sym (ap (number_of kind) now))
      (skip kind p i (number_of kind old)
      (λ h. true≢false (sym (hit_of rules kind p name (i + 1) rule at h).1 ∙ no)) (least kind p)))
      (cases_Bool (holds rule p))

  -- the same, of a record that is made by the rule's kind and permissions under other names
  pub upto-takes : (i : ℕ) (r s : Record) (rule : RuleValue) (kind : RuleKind) (perms : Perms) → IsRuleAt rules (i + 1) rule →
      Takes (pattern rule) name → kind ≡ rule.kind → perms ≡ held rule.perms → s ≡ record_with r kind perms (i + 1) →
      IsLeastUpTo rules name i r → IsLeastUpTo rules name (i + 1) s
  upto-takes i r s rule kind perms at takes same_kind same_perms is least =
      let e = is ∙ ap (λ z. record_with r z perms (i + 1)) same_kind ∙ ap (λ z. record_with r rule.kind z (i + 1)) same_perms in
      subst (IsLeastUpTo rules name (i + 1)) (sym e) (adds i r rule at takes least)

  -- after the last rule the record is that of all
  pub upto-all : (i : ℕ) (r : Record) → length rules ≤ i → IsLeastUpTo rules name i r → IsLeastRecord rules name r
  upto-all i r le least p = (
    least-same (HitsUpTo rules name i Allow p) (Hits rules Allow p name) (hits_of r p).allow
        (λ m s. s.1) (λ m t. (omega (arith, le, t.1.1), t)) (least Allow p),
    least-same (HitsUpTo rules name i Deny p) (Hits rules Deny p name) (hits_of r p).deny
        (λ m s. s.1) (λ m t. (omega (arith, le, t.1.1), t)) (least Deny p),
  )

  -- the rules of a list come after the first i
  abbrev AreBehind : ℕ → List RuleValue → Type 0
  AreBehind i rest = (length rules ≤ i + length rest) × ((n : ℕ) (rule : RuleValue) → IsRuleAt rest n rule → IsRuleAt rules (i + n) rule)

  -- the first of the rest is the next rule
  first_of : (i : ℕ) (rule : RuleValue) (rest : List RuleValue) → AreBehind i (rule ∷ rest) → IsRuleAt rules (i + 1) rule
  first_of i rule rest behind = behind.1 1 rule (omega arith, omega arith, refl)

  -- with one more rule before a list, the number of each of its rules is one greater
  next_of : (n : ℕ) (rule : RuleValue) (rest : List RuleValue) (x : RuleValue) → IsRuleAt rest n x → IsRuleAt (rule ∷ rest) (n + 1) x
  next_of zero rule rest x at = absurd (omega (arith, at.0))
  next_of (suc n) rule rest x at =
      let one : suc n - 1 ≡ n = omega arith in
      let two : suc n + 1 - 1 ≡ suc n = omega arith in (
        omega arith,
        omega (arith, at.1),
        at.2 ∙ ap (λ z. get_or rest z x) one ∙ sym (ap (λ z. get_or (rule ∷ rest) z x) two),
      )

  -- what comes after the next rule
  rest_of : (i : ℕ) (rule : RuleValue) (rest : List RuleValue) → AreBehind i (rule ∷ rest) → AreBehind (i + 1) rest
  rest_of i rule rest behind = (
    omega (arith, behind.0),
    λ n x at. let e : i + (n + 1) ≡ i + 1 + n = omega arith in
        subst (λ z. IsRuleAt rules z x) e (behind.1 (n + 1) x (next_of n rule rest x at)),
  )

  -- each rule of the rest moves the record on
  over : (matches : ℕ → Bool) → AreMatches rules name matches → (i : ℕ) (r : Record) (rest : List RuleValue) → AreBehind i rest →
      IsLeastUpTo rules name i r → IsLeastRecord rules name (record_over matches i r rest)
  over matches are i r [] behind least = upto-all i r (omega (arith, behind.0)) least
  over matches are i r (rule ∷ rest) behind least =
      let at = first_of i rule rest behind in
      let both : Bool → Record = λ b. if b then record_with r rule.kind (held rule.perms) (i + 1) else r in
      let now = both (matches (i + 1)) in
      let step : IsLeastUpTo rules name (i + 1) now = ⊎_elim
      (λ t. upto-takes i r now rule rule.kind (held rule.perms) at ((are (i + 1) rule at).0 t) refl refl (ap both t) least)
      (λ f. upto-skip i r now rule at (λ takes. true≢false (sym ((are (i + 1) rule at).1 takes) ∙ f)) (ap both f) least)
      (cases_Bool (matches (i + 1))) in
      over matches are (i + 1) now rest (rest_of i rule rest behind) step

  -- going over all rules from the first on
  pub record_over_is_least : (matches : ℕ → Bool) → AreMatches rules name matches →
      IsLeastRecord rules name (record_over matches 0 no_hits rules)
  record_over_is_least matches are = over matches are 0 no_hits rules
      (omega arith, λ n rule at. let e : n ≡ 0 + n = omega arith in subst (λ z. IsRuleAt rules z rule) e at) upto-none
