-- Rules of a profile in reverse, some of them and one alone are rules of a profile.
use Rattle.std.proofs.Common.{◌≡◌, ℕ, zero, suc, ◌<◌, ◌≤◌, List, [], ◌∷◌, ◌++◌, Bool, true, false, ◌&&◌, cond, length, map, filter}
use Rattle.std.proofs.Common.{reverse, get_or, refl, sym, ap, ◌∙◌, arith}
use Rattle.std.specs.Prelude.{nat_le}
use Rattle.std.proofs.lemmas.Bool.{and_parts, and_from, leb-true, le-leb, cond_both}
use Rattle.std.proofs.lemmas.Grind.{reverse_onto}
use Rattle.std.proofs.lemmas.List.{map-append, length-reverse}
use Rattle.std.proofs.lemmas.List.Folds.{list_all-append}
use Rattle.std.specs.List.{list_all}
use Rattle.rule_globs.specs.Rules.{RuleValue, ProfileValue}
use Rattle.rule_profile.specs.declared.profile.Rule.{Rule}
use Rattle.rule_profile.specs.Limits.{most_rules}
use Rattle.rule_profile.specs.Profile.{rule_value}
use Rattle.rule_profile.specs.Readable.{is_name, is_rule, is_profile}
use Rattle.derived_profiles.specs.Derived.{with_rules, is_allow, allowing, reversed, allow_rules, alone}

-- ---- in reverse

pub map-reverse : {X Y : Type 0} (f : X → Y) (xs : List X) → map f (reverse xs) ≡ reverse (map f xs)
map-reverse f [] = refl
map-reverse f (x ∷ xs) =
    ap (map f) (reverse_onto xs x [])
    ∙ map-append f (reverse xs) (x ∷ [])
    ∙ ap (λ l. l ++ f x ∷ []) (map-reverse f xs)
    ∙ sym (reverse_onto (map f xs) (f x) [])

pub all-reverse : {X : Type 0} (p : X → Bool) (xs : List X) → list_all p xs ≡ true → list_all p (reverse xs) ≡ true
all-reverse p [] h = refl
all-reverse p (x ∷ xs) h =
    let parts = and_parts (p x) (list_all p xs) h in
    ap (list_all p) (reverse_onto xs x [])
    ∙ list_all-append p (reverse xs) (x ∷ [])
    ∙ ap (λ b. b && (p x && true)) (all-reverse p xs parts.1)
    ∙ ap (λ b. b && true) parts.0

-- ---- some of them

kept : {X : Type 0} (p : X → Bool) (x : X) (b : Bool) (rest : List X) → p x ≡ true → list_all p rest ≡ true →
    list_all p (cond b (x ∷ rest) rest) ≡ true
kept p x true rest h e = ap (λ b. b && list_all p rest) h ∙ e
kept p x false rest h e = e

pub all-filter : {X : Type 0} (p test : X → Bool) (xs : List X) → list_all p xs ≡ true → list_all p (filter test xs) ≡ true
all-filter p test [] h = refl
all-filter p test (x ∷ xs) h =
    let parts = and_parts (p x) (list_all p xs) h in
    kept p x (test x) (filter test xs) parts.0 (all-filter p test xs parts.1)

fewer-filter : {X : Type 0} (test : X → Bool) (xs : List X) → length (filter test xs) ≤ length xs
fewer-filter test [] = omega arith
fewer-filter test (x ∷ xs) = cond_both (test x) (x ∷ filter test xs) (filter test xs) (λ l. length l ≤ suc (length xs))
    (λ _. omega (arith, fewer-filter test xs)) (λ _. omega (arith, fewer-filter test xs))

-- ---- one of them

pub rule_is : (rules : List Rule) (i : ℕ) (rule : Rule) → i < length rules → rule ≡ get_or rules i rule →
    list_all is_rule (map rule_value rules) ≡ true → is_rule (rule_value rule) ≡ true
rule_is [] i rule lt e h = absurd (omega arith)
rule_is (x ∷ rules) zero rule lt e h =
    ap (λ r. is_rule (rule_value r)) e ∙ (and_parts (is_rule (rule_value x)) (list_all is_rule (map rule_value rules)) h).0
rule_is (x ∷ rules) (suc i) rule lt e h =
    rule_is rules i rule (omega arith) e (and_parts (is_rule (rule_value x)) (list_all is_rule (map rule_value rules)) h).1

-- ---- a profile

pub rules_are : (p : ProfileValue) → is_profile p ≡ true → list_all is_rule p.rules ≡ true
rules_are p h = (and_parts (is_name p.name && nat_le (length p.rules) most_rules) (list_all is_rule p.rules) h).1

-- no more rules than there are
other_rules : (p : ProfileValue) (rules : List RuleValue) → is_profile p ≡ true → length rules ≤ length p.rules →
    list_all is_rule rules ≡ true → is_profile (with_rules p rules) ≡ true
other_rules p rules h few each =
    let named = and_parts (is_name p.name) (nat_le (length p.rules) most_rules)
    (and_parts (is_name p.name && nat_le (length p.rules) most_rules) (list_all is_rule p.rules) h).0 in
    let fewer : nat_le (length rules) most_rules ≡ true =
    le-leb (length rules) most_rules (omega (arith, few, leb-true (length p.rules) most_rules named.1)) in
    and_from (is_name p.name && nat_le (length rules) most_rules) (list_all is_rule rules)
    (and_from (is_name p.name) (nat_le (length rules) most_rules) named.0 fewer) each

pub reversed_is : (p : ProfileValue) → is_profile p ≡ true → is_profile (reversed p) ≡ true
reversed_is p h =
    other_rules p (reverse p.rules) h (omega (arith, length-reverse p.rules)) (all-reverse is_rule p.rules (rules_are p h))

pub allow_rules_is : (p : ProfileValue) → is_profile p ≡ true → is_profile (allow_rules p) ≡ true
allow_rules_is p h =
    other_rules p (filter is_allow p.rules) h (fewer-filter is_allow p.rules) (all-filter is_rule is_allow p.rules (rules_are p h))

pub alone_is : (p : ProfileValue) (rule : RuleValue) → is_profile p ≡ true → 1 ≤ length p.rules → is_rule rule ≡ true →
    is_profile (alone p rule) ≡ true
alone_is p rule h one each = other_rules p (allowing rule ∷ []) h one (ap (λ b. b && true) each)
