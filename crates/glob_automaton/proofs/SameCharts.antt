-- Charts that a comparison finds equal have the same lists, and are charts of the same rules.
use Rattle.std.proofs.Common.{◌≡◌, ◌↔◌, ◌+◌, ◌<◌, ℕ, Bool, sym, ap, ◌∙◌, List, [], ◌∷◌, length, Some, slice_get, IsTrue, subst, rules}
use Rattle.rule_globs.specs.Glob.{places}
use Rattle.rule_globs.specs.Follow.{Starts, TakesAt, Goes}
use Rattle.rule_profile.specs.Profile.{RuleValue, pattern}
use Rattle.glob_automaton.specs.declared.chart.Chart.{Chart}
use Rattle.glob_automaton.specs.declared.chart.ChartPlace.{ChartPlace}
use Rattle.glob_automaton.specs.declared.chart.ChartRule.{ChartRule}
use Rattle.glob_automaton.specs.declared.chart.Label.{Label}
use Rattle.glob_automaton.specs.declared.chart.Label.TheVariants as label
use Rattle.glob_automaton.specs.inner.Chart.{IsIn, IsOrdered, takes_byte}
use Rattle.glob_automaton.specs.inner.Drawings.{AreSame, IsKnown, HasRule, HasRules, IsChartOf}

module _ (one other : Chart) (same : AreSame one other) where
  known_there : (by : Label) → IsKnown one by → IsKnown other by
  known_there (label.Class n) h = subst (λ (z : List (List Bool)). n < length z) same.classes h
  known_there (label.Byte b) h = tt
  known_there label.InComponent h = tt
  known_there label.Any h = tt
  known_there label.Nothing h = tt

  place_back : (p : ℕ) (place : ChartPlace) → slice_get other.places.items p ≡ Some place → slice_get one.places.items p ≡ Some place
  place_back p place at = ap (λ z. slice_get z p) same.places ∙ at

  rule_there : (rule : RuleValue) (d : ChartRule) → HasRule one rule d → HasRule other rule d
  rule_there rule d h = record {
    kind = h.kind;
    perms = h.perms;
    fits = subst (λ (z : List ChartPlace). d.end + places (pattern rule) < length z) same.places h.fits;
    starts = λ q. subst (λ z. IsIn z d.start q ↔ Starts (pattern rule) (d.end + 1) (λ r. r ≡ d.end) q) same.entries (h.starts q);
    start_there = subst (λ z. d.start < length z) same.entries h.start_there;
    taken = λ p b place low high at small.
        subst (λ z. IsTrue (takes_byte z place.takes b) ↔ TakesAt (pattern rule) (d.end + 1) p b) same.classes
        (h.taken p b place low high (place_back p place at) small);
    goes = λ p q place low high at. subst (λ z. IsIn z place.behind q ↔ Goes (pattern rule) (d.end + 1) (λ r. r ≡ d.end) p q) same.entries
        (h.goes p q place low high (place_back p place at));
  }

  rules_there : (at : ℕ) (rules : List RuleValue) (ds : List ChartRule) → HasRules one at rules ds → HasRules other at rules ds
  rules_there at [] [] h = sym (ap length same.places) ∙ h
  rules_there at [] (d ∷ ds) h = h
  rules_there at (rule ∷ rules) [] h = h
  rules_there at (rule ∷ rules) (d ∷ ds) h = (h.0, rule_there rule d h.1, rules_there (at + places (pattern rule) + 1) rules ds h.2)

  -- a chart with the same lists is a chart of the same rules
  pub same_chart : (rules : List RuleValue) → IsChartOf rules one → IsChartOf rules other
  same_chart rules is = record {
    ordered = subst IsOrdered same.entries is.ordered;
    there = λ p place at.
        let w = is.there p place (place_back p place at) in
        (subst (λ z. place.behind < length z) same.entries w.0, known_there place.takes w.1);
    drawn = subst (λ z. HasRules other 0 rules z) same.rules (rules_there 0 rules one.rules.items is.drawn);
  }
