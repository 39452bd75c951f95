-- The first rule that passes a test, in a list that a loop goes through.
use Rattle.std.proofs.Common.{[], ◌≡◌, ℕ, ◌+◌, ◌<◌, ◌≤◌, Bool, true, false, List, Some, None, length, get_or, map, nat_lt, refl, sym, ap}
use Rattle.std.proofs.Common.{subst, ◌∙◌, inl, inr, arith}
use Rattle.std.specs.List.{position, position_or_len}
use Rattle.std.proofs.lemmas.Bool.{lt-ltb, le-ltb, cases_lt}
use Rattle.std.proofs.lemmas.List.{get_or-map}
use Rattle.std.proofs.lemmas.List.Sums.{position_or_len_is}
use Rattle.names.specs.Permissions.{set_of}
use Rattle.rule_globs.specs.Rules.{RuleValue}
use Rattle.rule_profile.specs.declared.profile.Rule.{Rule}
use Rattle.rule_profile.specs.Profile.{rule_value}
use Rattle.names.specs.declared.kind.RuleKind.TheVariants.{Allow}

-- a rule that says nothing, used where there is none
abbrev pub nothing : RuleValue
nothing = record { kind = Allow; perms = set_of (λ p. false); items = [] }

-- none of the first i rules passes
abbrev pub NoneBefore : (RuleValue → Bool) → List RuleValue → ℕ → Type 0
NoneBefore test rules i = (k : ℕ) → k < i → test (get_or rules k nothing) ≡ false

pub none_yet : (test : RuleValue → Bool) (rules : List RuleValue) → NoneBefore test rules 0
none_yet test rules k lt = absurd (omega arith)

-- the rule at a place, by its value
pub value_at : (rules : List Rule) (i : ℕ) (rule : Rule) → i < length rules → rule ≡ get_or rules i rule →
    get_or (map rule_value rules) i nothing ≡ rule_value rule
value_at rules i rule lt is = get_or-map rule_value rules i rule nothing lt ∙ ap rule_value (sym is)

pub one_more : (test : RuleValue → Bool) (rules : List RuleValue) (i : ℕ) → NoneBefore test rules i → test (get_or rules i nothing)
    ≡ false → NoneBefore test rules (i + 1)
one_more test rules i before here k lt =
    elim (cases_lt k i) [
      | inl less ↦ before k less
      | inr more ↦ let same : k ≡ i = omega arith in subst (λ n. test (get_or rules n nothing) ≡ false) (sym same) here
    ]

pub found : (test : RuleValue → Bool) (rules : List RuleValue) (i : ℕ) → i < length rules → NoneBefore test rules i →
    test (get_or rules i nothing) ≡ true → position test rules ≡ Some i
found test rules i lt before here =
    let first : position_or_len test rules ≡ i = position_or_len_is test rules i nothing (omega arith) before (λ _. here) in
    let there : nat_lt i (length rules) ≡ true = lt-ltb i (length rules) lt in
    rw (first, there) refl

pub absent : (test : RuleValue → Bool) (rules : List RuleValue) (i : ℕ) → length rules ≤ i → NoneBefore test rules i →
    position test rules ≡ None
absent test rules i le before =
    let past : position_or_len test rules ≡ length rules = position_or_len_is test rules (length rules) nothing (omega arith)
    (λ k lt. before k (omega arith)) (λ lt. absurd (omega arith)) in
    let none : nat_lt (length rules) (length rules) ≡ false = le-ltb (length rules) (length rules) (omega arith) in
    rw (past, none) refl
