-- Parts of an explanation, added to a line one by one.
use Rattle.std.proofs.Common.{◌≡◌, ℕ, ◌+◌, ◌-◌, ◌<◌, ◌≤◌, Bool, List, [], ◌∷◌, ◌++◌, take, filter, get_or, length, map, cond, Some, refl}
use Rattle.std.proofs.Common.{sym, ap, ◌∙◌, append_assoc, arith}
use Rattle.std.specs.Prelude.{codes, decimal, slice_get}
use Rattle.std.specs.List.{flat_map}
use Rattle.std.proofs.lemmas.List.Concat.{flat_map-append}
use Rattle.std.proofs.lemmas.List.Elements.{filter_more}
use Rattle.std.proofs.lemmas.Option.{slice_get-map, slice_get_read}
use Rattle.names.specs.declared.permissions.Permission.{Permission}
use Rattle.rule_explain.specs.declared.reason.Reason.{Reason}
use Rattle.rule_explain.specs.declared.reason.Reason.TheVariants.{Allowed, Denied, NoRule}
use Rattle.rule_explain.specs.Reasons.{IsReason}
use Rattle.rule_profile.specs.declared.profile.Rule.{Rule}
use Rattle.rule_profile.specs.Profile.{RuleValue, rule_value}
use Rattle.rule_writer.specs.Canonical.{rule_text}
use Rattle.trace_test.specs.Questions.{reason_told, rule_told}
use Rattle.trace_test.specs.inner.Reasons.{NamesRuleOf}

-- what one more permission adds
abbrev pub added : (Permission → List ℕ) → Bool → Permission → List ℕ
added f b p = flat_map f (cond b (p ∷ []) [])

one_more : (f : Permission → List ℕ) (test : Permission → Bool) (ps : List Permission) (i : ℕ) (d : Permission) → i < length ps
    → flat_map f (filter test (take (i + 1) ps)) ≡ flat_map f (filter test (take i ps)) ++ added f (test (get_or ps i d)) (get_or ps i d)
one_more f test ps i d lt = ap (flat_map f) (filter_more test ps i d lt) ∙ flat_map-append f (filter test (take i ps))
    (cond (test (get_or ps i d)) (get_or ps i d ∷ []) [])

pub step : (f : Permission → List ℕ) (test : Permission → Bool) (ps : List Permission) (i : ℕ) (d : Permission) (b : Bool)
    (base old new : List ℕ) → i < length ps → b ≡ test (get_or ps i d)
    → old ≡ base ++ flat_map f (filter test (take i ps)) → new ≡ old ++ added f b (get_or ps i d) →
    new ≡ base ++ flat_map f (filter test (take (i + 1) ps))
step f test ps i d b base old new lt is so_far e =
    e ∙ ap (λ (x : List ℕ). x ++ added f b (get_or ps i d)) so_far
    ∙ append_assoc base (flat_map f (filter test (take i ps))) (added f b (get_or ps i d))
    ∙ ap (λ (x : Bool). base ++ (flat_map f (filter test (take i ps)) ++ added f x (get_or ps i d))) is
    ∙ ap (λ (x : List ℕ). base ++ x) (sym (one_more f test ps i d lt))

-- the rule that a reason names is one of the rules
pub names_rule : (rules : List RuleValue) (name : List ℕ) (p : Permission) (r : Reason) → IsReason rules name p r →
    NamesRuleOf r (length rules)
names_rule rules name p (Denied n) h = (h.0.1.0, h.0.1.1)
names_rule rules name p (Allowed n) h = (h.1.0.1.0, h.1.0.1.1)
names_rule rules name p NoRule h = tt

-- a rule's number and its text
pub told_so : (rules : List Rule) (n : ℕ) (rule : Rule) → 1 ≤ n → n ≤ length rules → rule ≡ get_or rules (n - 1) rule
    → (codes "rule " ++ (decimal n ++ codes ": ")) ++ rule_text (rule_value rule) ≡ rule_told (map rule_value rules) n
told_so rules n rule some most is =
    let there : slice_get rules (n - 1) ≡ Some rule = slice_get_read rules (length rules) (n - 1) rule refl (omega arith) is in
    let value : slice_get (map rule_value rules) (n - 1) ≡ Some (rule_value rule) = slice_get-map rule_value rules (n - 1)
    ∙ rw there refl in
    rw value (simp append_assoc)

-- two parts were added
pub both_added : (old middle new first second told : List ℕ) → middle ≡ old ++ first → new ≡ middle ++ second →
    first ++ second ≡ told → new ≡ old ++ told
both_added old middle new first second told e1 e2 e3 = e2 ∙ ap (λ (x : List ℕ). x ++ second) e1 ∙ append_assoc old first second
    ∙ ap (λ (x : List ℕ). old ++ x) e3

pub allowed_told : (old middle new : List ℕ) (rules same : List RuleValue) (n : ℕ) (reason : Reason) →
    middle ≡ old ++ codes "allowed by " → new ≡ middle ++ rule_told same n → same ≡ rules → reason ≡ Allowed n
    → new ≡ old ++ reason_told rules reason
allowed_told old middle new rules same n reason e1 e2 e3 e4 =
    rw (e4, e2, e1, e3) (append_assoc old (codes "allowed by ") (rule_told rules n))

pub denied_told : (old middle new : List ℕ) (rules same : List RuleValue) (n : ℕ) (reason : Reason) →
    middle ≡ old ++ codes "denied by " → new ≡ middle ++ rule_told same n → same ≡ rules → reason ≡ Denied n
    → new ≡ old ++ reason_told rules reason
denied_told old middle new rules same n reason e1 e2 e3 e4 =
    rw (e4, e2, e1, e3) (append_assoc old (codes "denied by ") (rule_told rules n))
