-- What the sets of a chart hold: the numbers of the live places of its rules.
use Rattle.std.proofs.Common.{◌≡◌, ℕ, ◌+◌, ◌-◌, ◌<◌, ◌≤◌, ◌↔◌, ◌⊎◌, inl, inr, ⊎_elim, List, [], ◌∷◌, ◌++◌, Some, slice_get, refl, sym}
use Rattle.std.proofs.Common.{subst, subst₂, arith}
use Rattle.std.specs.List.{Contains}
use Rattle.std.proofs.lemmas.Option.{slice_get_cases}
use Rattle.rule_globs.specs.Glob.{Glob, LiveOrEnd, places}
use Rattle.rule_globs.specs.Follow.{Starts, TakesAt, Goes}
use Rattle.rule_profile.specs.Profile.{RuleValue, pattern}
use Rattle.glob_automaton.specs.declared.chart.Chart.{Chart}
use Rattle.glob_automaton.specs.declared.chart.ChartRule.{ChartRule}
use Rattle.glob_automaton.specs.inner.ChartStates.{IsStartOf, IsStepOf, IsReached, begins, goes_on}
use Rattle.glob_automaton.specs.inner.Drawings.{HasRule, IsChartOf}
use Rattle.glob_automaton.specs.inner.GatheredSets.{IsAscending}
use Rattle.glob_automaton.proofs.PatternPlaces.{starts_within, goes_within, takes_within}
use Rattle.glob_automaton.proofs.RuleNumbers.{rule_stands, rule_of}

-- the two clauses of the law of live places
abbrev pub LiveAtFirst : Type 0
LiveAtFirst = (pattern : Glob) (end p : ℕ) → p ≤ places pattern →
    LiveOrEnd pattern [] p ↔ Starts pattern (end + 1) (λ q. q ≡ end) (end + (places pattern - p))

abbrev pub LiveAfterByte : Type 0
LiveAfterByte = (pattern : Glob) (end p : ℕ) (bytes : List ℕ) (b : ℕ) → p ≤ places pattern →
    LiveOrEnd pattern (bytes ++ b ∷ []) p
    ↔ ((r : ℕ) × (r < places pattern) × LiveOrEnd pattern bytes r × TakesAt pattern (end + 1) (end + (places pattern - r)) b
    × Goes pattern (end + 1) (λ q. q ≡ end) (end + (places pattern - r)) (end + (places pattern - p)))

-- q is the number of a place of a rule, or of its end, that is live after the bytes
pub record IsNumber (rules : List RuleValue) (chart : Chart) (bytes : List ℕ) (q : ℕ) : Type 0 where
  pub index : ℕ
  pub rule : RuleValue
  pub drawn : ChartRule
  pub place : ℕ
  pub stands : slice_get rules index ≡ Some rule
  pub is_drawn : slice_get chart.rules.items index ≡ Some drawn
  pub within : place ≤ places (pattern rule)
  pub number : q ≡ drawn.end + (places (pattern rule) - place)
  pub live : LiveOrEnd (pattern rule) bytes place

abbrev pub HoldsNumbers : List RuleValue → Chart → List ℕ → List ℕ → Type 0
HoldsNumbers rules chart bytes set = (q : ℕ) → Contains set q ↔ IsNumber rules chart bytes q

-- the rule of a number, in the chart
pub stands_so : (rules : List RuleValue) (chart : Chart) (bytes : List ℕ) (q : ℕ) → IsChartOf rules chart →
    (n : IsNumber rules chart bytes q) → HasRule chart n.rule n.drawn
stands_so rules chart bytes q is n = rule_stands chart rules chart.rules.items 0 is.drawn n.index n.rule n.drawn n.stands n.is_drawn

-- a number of a rule's is its end or that of a place
in_rule : (g : Glob) (end q : ℕ) → ((end + 1 ≤ q) × (q < end + 1 + places g)) ⊎ (q ≡ end) → (end ≤ q) × (q ≤ end + places g)
in_rule g end q (inl h) = (omega (arith, h.0), omega (arith, h.1))
in_rule g end q (inr h) = (omega (arith, h), omega (arith, h))

-- the set at first
start_there : (rules : List RuleValue) (chart : Chart) (set : List ℕ) → LiveAtFirst → IsChartOf rules chart → IsStartOf chart set →
    (q : ℕ) → Contains set q → IsNumber rules chart [] q
start_there rules chart set first is start q h =
    let w = (start.live q).0 h in
    let d : ChartRule = w.1 in
    let r = rule_of chart rules chart.rules.items 0 is.drawn w.0 d w.2 in
    let g : Glob = pattern r.0 in
    let has : HasRule chart r.0 d = rule_stands chart rules chart.rules.items 0 is.drawn w.0 r.0 d r.1 w.2 in
    let begun : Starts g (d.end + 1) (λ z. z ≡ d.end) q = (has.starts q).0 w.3 in
    let near = in_rule g d.end q (starts_within g (d.end + 1) (λ z. z ≡ d.end) q begun) in
    let p : ℕ = d.end + places g - q in
    let le : p ≤ places g = omega (arith, near.0, near.1) in
    let number : q ≡ d.end + (places g - p) = omega (arith, near.0, near.1) in
    record {
      index = w.0;
      rule = r.0;
      drawn = d;
      place = p;
      stands = r.1;
      is_drawn = w.2;
      within = le;
      number = number;
      live = (first g d.end p le).1 (subst (λ z. Starts g (d.end + 1) (λ y. y ≡ d.end) z) number begun);
    }

start_back : (rules : List RuleValue) (chart : Chart) (set : List ℕ) → LiveAtFirst → IsChartOf rules chart → IsStartOf chart set →
    (q : ℕ) → IsNumber rules chart [] q → Contains set q
start_back rules chart set first is start q n =
    let d : ChartRule = n.drawn in
    let g : Glob = pattern n.rule in
    let begun : Starts g (d.end + 1) (λ z. z ≡ d.end) q =
    subst (λ z. Starts g (d.end + 1) (λ y. y ≡ d.end) z) (sym n.number) ((first g d.end n.place n.within).0 n.live) in
    (start.live q).1 (n.index, d, n.is_drawn, ((stands_so rules chart [] q is n).starts q).1 begun)

-- the set after one more byte
step_there : (rules : List RuleValue) (chart : Chart) (bytes set next : List ℕ) (b : ℕ) → LiveAfterByte → IsChartOf rules chart → b < 256 →
    IsStepOf chart set b next → HoldsNumbers rules chart bytes set → (q : ℕ) → Contains next q → IsNumber rules chart (bytes ++ b ∷ []) q
step_there rules chart bytes set next b after is small step holds q h =
    let w = (step.live q).0 h in
    let p : ℕ = w.0 in
    let n : IsNumber rules chart bytes p = (holds p).0 w.2 in
    let d : ChartRule = n.drawn in
    let g : Glob = pattern n.rule in
    let has : HasRule chart n.rule d = stands_so rules chart bytes p is n in
    let low : d.end ≤ p = omega (arith, n.number) in
    let high : p ≤ d.end + places g = omega (arith, n.number) in
    let taken : TakesAt g (d.end + 1) p b = (has.taken p b w.1 low high w.3 small).0 w.4 in
    let own : d.end + 1 ≤ p = (takes_within g (d.end + 1) p b taken).0 in
    let gone : Goes g (d.end + 1) (λ z. z ≡ d.end) p q = (has.goes p q w.1 (omega (arith, own)) high w.3).0 w.5 in
    let near = in_rule g d.end q (goes_within g (d.end + 1) (λ z. z ≡ d.end) p q gone) in
    let x : ℕ = d.end + places g - q in
    let le : x ≤ places g = omega (arith, near.0, near.1) in
    let number : q ≡ d.end + (places g - x) = omega (arith, near.0, near.1) in
    record {
      index = n.index;
      rule = n.rule;
      drawn = d;
      place = x;
      stands = n.stands;
      is_drawn = n.is_drawn;
      within = le;
      number = number;
      live = (after g d.end x bytes b le).1 (
        n.place,
        omega (arith, own, n.number, n.within),
        n.live,
        subst (λ z. TakesAt g (d.end + 1) z b) n.number taken,
        subst₂ (λ y z. Goes g (d.end + 1) (λ v. v ≡ d.end) y z) n.number number gone,
      );
    }

step_back : (rules : List RuleValue) (chart : Chart) (bytes set next : List ℕ) (b : ℕ) → LiveAfterByte → IsChartOf rules chart → b < 256 →
    IsStepOf chart set b next → HoldsNumbers rules chart bytes set → (q : ℕ) → IsNumber rules chart (bytes ++ b ∷ []) q → Contains next q
step_back rules chart bytes set next b after is small step holds q n =
    let d : ChartRule = n.drawn in
    let g : Glob = pattern n.rule in
    let has : HasRule chart n.rule d = stands_so rules chart (bytes ++ b ∷ []) q is n in
    let w = (after g d.end n.place bytes b n.within).0 n.live in
    let p : ℕ = d.end + (places g - w.0) in
    let low : d.end < p = omega (arith, w.1) in
    let high : p ≤ d.end + places g = omega arith in
    let one : IsNumber rules chart bytes p = record {
      index = n.index;
      rule = n.rule;
      drawn = d;
      place = w.0;
      stands = n.stands;
      is_drawn = n.is_drawn;
      within = omega (arith, w.1);
      number = refl;
      live = w.2;
    } in
    ⊎_elim
    (λ t. (step.live q).1 (
      p,
      t.0,
      (holds p).1 one,
      t.2,
      (has.taken p b t.0 (omega (arith, low)) high t.2 small).1 w.3,
      (has.goes p q t.0 low high t.2).1 (subst (λ z. Goes g (d.end + 1) (λ v. v ≡ d.end) p z) (sym n.number) w.4),
    ))
    (λ t. absurd (omega (arith, t.0, high, has.fits)))
    (slice_get_cases chart.places.items p).1

-- a set that bytes reach holds just the numbers that are live after them
pub live_numbers : LiveAtFirst → LiveAfterByte → (rules : List RuleValue) (chart : Chart) (bytes set : List ℕ) →
    IsReached chart bytes set → IsChartOf rules chart → HoldsNumbers rules chart bytes set
live_numbers first after rules chart bytes set (begins c s start) is q =
    (start_there rules chart s first is start q, start_back rules chart s first is start q)
live_numbers first after rules chart bytes set (goes_on c front old s b reached small step) is q =
    let holds : HoldsNumbers rules chart front old = live_numbers first after rules chart front old reached is in (
      step_there rules chart front old s b after is small step holds q,
      step_back rules chart front old s b after is small step holds q,
    )

-- a set that bytes reach ascends
pub reached_ascends : (chart : Chart) (bytes set : List ℕ) → IsReached chart bytes set → IsAscending set
reached_ascends chart bytes set (begins c s start) = start.ascending
reached_ascends chart bytes set (goes_on c front old s b reached small step) = step.ascending
