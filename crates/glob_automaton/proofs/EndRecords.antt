-- The record of a set of places of a chart of one rule: that of its rule, if its end is in the set.
use Rattle.std.proofs.Common.{◌≡◌, ℕ, ◌≤◌, List, length, Contains, IsTrue, Some, slice_get, sym, ap, ◌∙◌, subst, arith}
use Rattle.std.proofs.lemmas.Option.{same_Some, slice_get_within}
use Rattle.names.specs.declared.permissions.Permission.{Permission}
use Rattle.names.specs.Permissions.{has}
use Rattle.names.specs.declared.kind.RuleKind.{RuleKind}
use Rattle.names.specs.declared.record.LeastHits.{LeastHits}
use Rattle.names.specs.Hits.{no_hits, record_with}
use Rattle.names.specs.Least.{hits_of, record_of}
use Rattle.glob_automaton.specs.declared.chart.Chart.{Chart}
use Rattle.glob_automaton.specs.declared.chart.ChartRule.{ChartRule}
use Rattle.glob_automaton.specs.inner.ChartStates.{EndsIn, IsRecordOf}
use Rattle.glob_automaton.proofs.AloneRecords.{one_hits}

module _ (made : (hits : Permission → LeastHits) (p : Permission) → hits_of (record_of hits) p ≡ hits p) (chart : Chart) (set : List ℕ)
    (rule : ChartRule)
    (one : length chart.rules.items ≡ 1) (stands : slice_get chart.rules.items 0 ≡ Some rule) where
  -- only the chart's rule can hit, and its number is 1
  only : (kind : RuleKind) (p : Permission) (n : ℕ) → EndsIn chart set kind p n → (rule.kind ≡ kind) × IsTrue (has rule.perms p)
      × Contains set rule.end × (1 ≤ n)
  only kind p n h =
      let first : h.0 ≡ 0 = omega (arith, slice_get_within chart.rules.items h.0 h.1 h.3, one) in
      let same : h.1 ≡ rule = same_Some h.1 rule (sym h.3 ∙ ap (slice_get chart.rules.items) first ∙ stands) in
      let its = subst (λ (z : ChartRule). (z.kind ≡ kind) × IsTrue (has z.perms p) × Contains set z.end) same (h.4, h.5, h.6) in
      (its.0, its.1, its.2, omega (arith, h.2))

  pub end_record : Contains set rule.end → IsRecordOf chart set (record_with no_hits rule.kind rule.perms 1)
  end_record ends = one_hits made (EndsIn chart set) rule.kind rule.perms 1
      (λ kind p n h. let its = only kind p n h in (its.0, its.1, its.3))
      (λ kind p is holds. (0, rule, omega arith, stands, is, holds, ends))
