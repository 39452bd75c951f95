-- What a chart's sets hold are places of the chart.
use Rattle.std.proofs.Common.{◌≡◌, ◌⊎◌, ⊎_elim, ℕ, ◌+◌, ◌<◌, ◌≤◌, List, [], ◌∷◌, length, Contains, subst, arith}
use Rattle.std.proofs.lemmas.Bool.{cases_lt}
use Rattle.std.proofs.lemmas.Option.{slice_get_within}
use Rattle.rule_globs.specs.Glob.{Glob, places}
use Rattle.rule_globs.specs.Follow.{Starts, TakesAt, Goes}
use Rattle.rule_profile.specs.Profile.{RuleValue, pattern}
use Rattle.glob_automaton.specs.declared.chart.Chart.{Chart}
use Rattle.glob_automaton.specs.declared.chart.ChartRule.{ChartRule}
use Rattle.glob_automaton.specs.inner.ChartStates.{ArePlaces, IsStartOf, IsStepOf, IsReached, begins, goes_on, AreSets}
use Rattle.glob_automaton.specs.inner.Drawings.{HasRule, HasRules, IsPartOfChart}
use Rattle.glob_automaton.specs.laws.AscendingLists.{contains_none}
use Rattle.glob_automaton.proofs.PatternPlaces.{starts_within, goes_within, takes_within}
use Rattle.glob_automaton.proofs.RuleNumbers.{rule_stands, rule_of}
use Rattle.glob_automaton.proofs.SetSteps.{set_from}

-- a rule to whose numbers p belongs
record OwnRule (chart : Chart) (p : ℕ) : Type 0 where
  rule : RuleValue
  drawn : ChartRule
  has : HasRule chart rule drawn
  low : drawn.end ≤ p
  high : p ≤ drawn.end + places (pattern rule)

-- each number belongs to a rule
own_rule : (chart : Chart) (rules : List RuleValue) (ds : List ChartRule) (at : ℕ) → HasRules chart at rules ds →
    (p : ℕ) → at ≤ p → p < length chart.places.items → OwnRule chart p
own_rule chart [] [] at h p low within = absurd (omega (arith, h, low, within))
own_rule chart [] (d ∷ ds) at h p low within = absurd h
own_rule chart (r ∷ rules) [] at h p low within = absurd h
own_rule chart (r ∷ rules) (d ∷ ds) at h p low within = ⊎_elim
    (λ lt. record { rule = r; drawn = d; has = h.1; low = omega (arith, h.0, low); high = omega (arith, h.0, lt) })
    (λ le. own_rule chart rules ds (at + places (pattern r) + 1) h.2 p le within)
    (cases_lt p (at + places (pattern r) + 1))

-- a number of a rule's is a place of the chart
place_there : (chart : Chart) (rule : RuleValue) (d : ChartRule) (q : ℕ) → HasRule chart rule d →
    ((d.end + 1 ≤ q) × (q < d.end + 1 + places (pattern rule))) ⊎ (q ≡ d.end) → q < length chart.places.items
place_there chart rule d q has near = ⊎_elim (λ t. omega (arith, t.1, has.fits)) (λ e. omega (arith, e, has.fits)) near

-- what is live at first are places
pub start_places : (chart : Chart) (set : List ℕ) → IsPartOfChart chart → IsStartOf chart set → ArePlaces chart set
start_places chart set part start q h =
    let w = (start.live q).0 h in
    let d : ChartRule = w.1 in
    let r = rule_of chart part.0 chart.rules.items 0 part.1.drawn w.0 d w.2 in
    let has : HasRule chart r.0 d = rule_stands chart part.0 chart.rules.items 0 part.1.drawn w.0 r.0 d r.1 w.2 in
    let begun : Starts (pattern r.0) (d.end + 1) (λ z. z ≡ d.end) q = (has.starts q).0 w.3 in
    place_there chart r.0 d q has (starts_within (pattern r.0) (d.end + 1) (λ z. z ≡ d.end) q begun)

-- so is what is live after a byte
pub step_places : (chart : Chart) (set next : List ℕ) (b : ℕ) → IsPartOfChart chart → b < 256 → IsStepOf chart set b next →
    ArePlaces chart next
step_places chart set next b part small step q h =
    let w = (step.live q).0 h in
    let o = own_rule chart part.0 chart.rules.items 0 part.1.drawn w.0 (omega arith) (slice_get_within chart.places.items w.0 w.1 w.3) in
    let d : ChartRule = o.drawn in
    let g : Glob = pattern o.rule in
    let taken : TakesAt g (d.end + 1) w.0 b = (o.has.taken w.0 b w.1 o.low o.high w.3 small).0 w.4 in
    let own : d.end + 1 ≤ w.0 = (takes_within g (d.end + 1) w.0 b taken).0 in
    let gone : Goes g (d.end + 1) (λ z. z ≡ d.end) w.0 q = (o.has.goes w.0 q w.1 (omega (arith, own)) o.high w.3).0 w.5 in
    place_there chart o.rule d q o.has (goes_within g (d.end + 1) (λ z. z ≡ d.end) w.0 q gone)

-- and what some bytes reach
pub reached_places : (chart : Chart) (bytes set : List ℕ) → IsPartOfChart chart → IsReached chart bytes set → ArePlaces chart set
reached_places chart bytes set part (begins c s start) = start_places chart s part start
reached_places chart bytes set part (goes_on c front old s b reached small step) = step_places chart old s b part small step

-- the sets so far hold places alone
pub set_places : (chart : Chart) (sets : List (List ℕ)) (set : List ℕ) → IsPartOfChart chart → AreSets chart sets → Contains sets set →
    ArePlaces chart set
set_places chart sets set part are there = ⊎_elim
    (λ empty q h. absurd (contains_none q (subst (λ z. Contains z q) empty h)))
    (λ h. reached_places chart h.0 set part h.1)
    (set_from chart sets set are there)
