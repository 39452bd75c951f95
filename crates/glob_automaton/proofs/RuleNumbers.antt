-- Each rule of a chart has its own numbers, apart from those of the others.
use Rattle.std.proofs.Common.{◌≡◌, ℕ, zero, suc, ◌+◌, ◌<◌, ◌≤◌, List, [], ◌∷◌, Some, slice_get, refl, ap, subst, subst₂, arith}
use Rattle.std.proofs.lemmas.Option.{none-some, same_Some}
use Rattle.rule_globs.specs.Glob.{places}
use Rattle.rule_profile.specs.Profile.{RuleValue, pattern}
use Rattle.glob_automaton.specs.declared.chart.Chart.{Chart}
use Rattle.glob_automaton.specs.declared.chart.ChartRule.{ChartRule}
use Rattle.glob_automaton.specs.inner.Drawings.{HasRule, HasRules}

-- what is drawn at a rule's index is that rule's
pub rule_stands : (chart : Chart) (rules : List RuleValue) (ds : List ChartRule) (at : ℕ) → HasRules chart at rules ds →
    (i : ℕ) (rule : RuleValue) (d : ChartRule) → slice_get rules i ≡ Some rule → slice_get ds i ≡ Some d → HasRule chart rule d
rule_stands chart [] ds at h i rule d one other = absurd (none-some rule one)
rule_stands chart (r ∷ rules) [] at h i rule d one other = absurd h
rule_stands chart (r ∷ rules) (e ∷ ds) at h zero rule d one other =
    subst₂ (λ x y. HasRule chart x y) (same_Some r rule one) (same_Some e d other) h.1
rule_stands chart (r ∷ rules) (e ∷ ds) at h (suc i) rule d one other =
    rule_stands chart rules ds (at + places (pattern r) + 1) h.2 i rule d one other

-- each rule is drawn
pub drawn_of : (chart : Chart) (rules : List RuleValue) (ds : List ChartRule) (at : ℕ) → HasRules chart at rules ds →
    (i : ℕ) (rule : RuleValue) → slice_get rules i ≡ Some rule → (d : ChartRule) × (slice_get ds i ≡ Some d)
drawn_of chart [] ds at h i rule one = absurd (none-some rule one)
drawn_of chart (r ∷ rules) [] at h i rule one = absurd h
drawn_of chart (r ∷ rules) (e ∷ ds) at h zero rule one = (e, refl)
drawn_of chart (r ∷ rules) (e ∷ ds) at h (suc i) rule one = drawn_of chart rules ds (at + places (pattern r) + 1) h.2 i rule one

-- nothing else is
pub rule_of : (chart : Chart) (rules : List RuleValue) (ds : List ChartRule) (at : ℕ) → HasRules chart at rules ds →
    (i : ℕ) (d : ChartRule) → slice_get ds i ≡ Some d → (rule : RuleValue) × (slice_get rules i ≡ Some rule)
rule_of chart rules [] at h i d one = absurd (none-some d one)
rule_of chart [] (e ∷ ds) at h i d one = absurd h
rule_of chart (r ∷ rules) (e ∷ ds) at h zero d one = (r, refl)
rule_of chart (r ∷ rules) (e ∷ ds) at h (suc i) d one = rule_of chart rules ds (at + places (pattern r) + 1) h.2 i d one

-- a rule's end comes after all that was drawn before
end_behind : (chart : Chart) (rules : List RuleValue) (ds : List ChartRule) (at : ℕ) → HasRules chart at rules ds →
    (i : ℕ) (d : ChartRule) → slice_get ds i ≡ Some d → at ≤ d.end
end_behind chart rules [] at h i d one = absurd (none-some d one)
end_behind chart [] (e ∷ ds) at h i d one = absurd h
end_behind chart (r ∷ rules) (e ∷ ds) at h zero d one =
    subst (λ (z : ChartRule). at ≤ z.end) (same_Some e d one) (omega (arith, h.0))
end_behind chart (r ∷ rules) (e ∷ ds) at h (suc i) d one =
    omega (arith, end_behind chart rules ds (at + places (pattern r) + 1) h.2 i d one)

-- an earlier rule's numbers are less than a later one's
pub before : (chart : Chart) (rules : List RuleValue) (ds : List ChartRule) (at : ℕ) → HasRules chart at rules ds →
    (i j : ℕ) (rule : RuleValue) (d e : ChartRule) → i < j → slice_get rules i ≡ Some rule → slice_get ds i ≡ Some d →
    slice_get ds j ≡ Some e →
    d.end + places (pattern rule) < e.end
before chart [] ds at h i j rule d e lt one other later = absurd (none-some rule one)
before chart (r ∷ rules) [] at h i j rule d e lt one other later = absurd h
before chart (r ∷ rules) (x ∷ ds) at h i zero rule d e lt one other later = absurd (omega (arith, lt))
before chart (r ∷ rules) (x ∷ ds) at h zero (suc j) rule d e lt one other later =
    subst₂ (λ (y : RuleValue) (z : ChartRule). z.end + places (pattern y) < e.end) (same_Some r rule one) (same_Some x d other)
    (omega (arith, h.0, end_behind chart rules ds (at + places (pattern r) + 1) h.2 j e later))
before chart (r ∷ rules) (x ∷ ds) at h (suc i) (suc j) rule d e lt one other later =
    before chart rules ds (at + places (pattern r) + 1) h.2 i j rule d e (omega (arith, lt)) one other later

-- numbers of which neither is less
pub neither_less : (i j : ℕ) → ¬ (i < j) → ¬ (j < i) → i ≡ j
neither_less zero zero a b = refl
neither_less zero (suc j) a b = absurd (a (omega arith))
neither_less (suc i) zero a b = absurd (b (omega arith))
neither_less (suc i) (suc j) a b = ap suc (neither_less i j (λ lt. a (omega (arith, lt))) (λ lt. b (omega (arith, lt))))

-- a number belongs to one rule
pub one_rule : (chart : Chart) (rules : List RuleValue) (ds : List ChartRule) (at : ℕ) → HasRules chart at rules ds →
    (i j : ℕ) (rule other : RuleValue) (d e : ChartRule) (q : ℕ) →
    slice_get rules i ≡ Some rule → slice_get ds i ≡ Some d → slice_get rules j ≡ Some other → slice_get ds j ≡ Some e →
    d.end ≤ q → q ≤ d.end + places (pattern rule) → e.end ≤ q → q ≤ e.end + places (pattern other) → i ≡ j
one_rule chart rules ds at h i j rule other d e q one drawn two drawn_two low high low_two high_two =
    let first : ¬ (i < j) = λ lt. omega (arith, low_two, high, before chart rules ds at h i j rule d e lt one drawn drawn_two) in
    let second : ¬ (j < i) = λ lt. omega (arith, low, high_two, before chart rules ds at h j i other e d lt two drawn_two drawn) in
    neither_less i j first second
