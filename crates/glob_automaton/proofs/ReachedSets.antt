-- Sets that bytes reach are equal exactly where the same places are live.
use Rattle.std.proofs.Common.{◌≡◌, ℕ, ◌+◌, ◌-◌, ◌≤◌, ◌↔◌, List, [], Some, slice_get, refl, sym, ap, ◌∙◌, subst, subst₂, arith}
use Rattle.std.specs.List.{Contains}
use Rattle.std.proofs.lemmas.Option.{same_Some, slice_get_read, slice_get_within, get_or_from_slice_get}
use Rattle.rule_globs.specs.Glob.{LiveOrEnd, places}
use Rattle.rule_profile.specs.Profile.{RuleValue, pattern}
use Rattle.rule_globs.specs.Verdict.{IsRuleAt}
use Rattle.glob_automaton.specs.declared.chart.Chart.{Chart}
use Rattle.glob_automaton.specs.declared.chart.ChartRule.{ChartRule}
use Rattle.glob_automaton.specs.inner.ChartStates.{IsReached}
use Rattle.glob_automaton.specs.inner.Drawings.{IsChartOf}
use Rattle.glob_automaton.specs.Sets.{SameSet, NoneLive}
use Rattle.glob_automaton.specs.laws.AscendingLists.{same_lists, no_members, contains_none}
use Rattle.glob_automaton.proofs.LiveByParts.{LeftFirst, IsLiveByParts, SameByParts, NoneByParts, same_by_parts, none_by_parts}
use Rattle.glob_automaton.proofs.LiveNumbers.{LiveAtFirst, LiveAfterByte, IsNumber, live_numbers, reached_ascends}
use Rattle.glob_automaton.proofs.PatternPlaces.{live_within}
use Rattle.glob_automaton.proofs.RuleNumbers.{drawn_of, one_rule}

-- the rule with a number is at the index one less
pub at_index : (rules : List RuleValue) (n : ℕ) (rule : RuleValue) → IsRuleAt rules n rule → slice_get rules (n - 1) ≡ Some rule
at_index rules n rule h = slice_get_read rules _ (n - 1) rule refl (omega (arith, h.0, h.1)) h.2

pub has_number : (rules : List RuleValue) (i : ℕ) (rule : RuleValue) → slice_get rules i ≡ Some rule → IsRuleAt rules (i + 1) rule
has_number rules i rule h = (
  omega arith,
  omega (arith, slice_get_within rules i rule h),
  sym (get_or_from_slice_get rules (i + 1 - 1) rule rule (back (omega arith))),
)
  where
    back : i + 1 - 1 ≡ i → slice_get rules (i + 1 - 1) ≡ Some rule
    back e = ap (λ z. slice_get rules z) e ∙ h

-- two rules with one number are one
same_rule : (rules : List RuleValue) (i : ℕ) (rule other : RuleValue) → slice_get rules i ≡ Some rule → IsRuleAt rules (i + 1) other →
    other ≡ rule
same_rule rules i rule other one two =
    let e : i + 1 - 1 ≡ i = omega arith in
    same_Some other rule (sym (at_index rules (i + 1) other two) ∙ ap (λ z. slice_get rules z) e ∙ one)

-- a number carries over if all that is live after the one is live after the other
moved : (rules : List RuleValue) (chart : Chart) (x y : List ℕ) →
    ((n p : ℕ) → IsLiveByParts rules x n p → IsLiveByParts rules y n p) → (q : ℕ) → IsNumber rules chart x q → IsNumber rules chart y q
moved rules chart x y go q n =
    let w = go (n.index + 1) n.place (n.rule, has_number rules n.index n.rule n.stands, n.live) in
    record {
      index = n.index;
      rule = n.rule;
      drawn = n.drawn;
      place = n.place;
      stands = n.stands;
      is_drawn = n.is_drawn;
      within = n.within;
      number = n.number;
      live = subst (λ (z : RuleValue). LiveOrEnd (pattern z) y n.place) (same_rule rules n.index n.rule w.0 n.stands w.1) w.2;
    }

module _ (first : LiveAtFirst) (after : LiveAfterByte) (rules : List RuleValue) (chart : Chart) (is : IsChartOf rules chart) where
  -- a rule's number is in the set exactly where its place is live
  pub number_there : (bytes set : List ℕ) → IsReached chart bytes set → (i : ℕ) (rule : RuleValue) (d : ChartRule) (p : ℕ) →
      slice_get rules i ≡ Some rule → slice_get chart.rules.items i ≡ Some d → p ≤ places (pattern rule) →
      Contains set (d.end + (places (pattern rule) - p)) ↔ LiveOrEnd (pattern rule) bytes p
  number_there bytes set reached i rule d p stands drawn le = (
    λ h.
        let n = (live_numbers first after rules chart bytes set reached is (d.end + (places (pattern rule) - p))).0 h in
        let at : i ≡ n.index = one_rule chart rules chart.rules.items 0 is.drawn i n.index rule n.rule d n.drawn
        (d.end + (places (pattern rule) - p))
        stands drawn n.stands n.is_drawn (omega arith) (omega arith) (omega (arith, n.number)) (omega (arith, n.number)) in
        let one : rule ≡ n.rule = same_Some rule n.rule (sym stands ∙ ap (λ z. slice_get rules z) at ∙ n.stands) in
        let two : d ≡ n.drawn = same_Some d n.drawn (sym drawn ∙ ap (λ z. slice_get chart.rules.items z) at ∙ n.is_drawn) in
        let ends : d.end ≡ n.drawn.end = ap (λ (z : ChartRule). z.end) two in
        let long : places (pattern rule) ≡ places (pattern n.rule) = ap (λ (z : RuleValue). places (pattern z)) one in
        let place : p ≡ n.place = omega (arith, ends, long, le, n.within, n.number) in
        subst₂ (λ (z : RuleValue) (y : ℕ). LiveOrEnd (pattern z) bytes y) (sym one) (sym place) n.live,
    λ h. (live_numbers first after rules chart bytes set reached is (d.end + (places (pattern rule) - p))).1 (record {
      index = i;
      rule = rule;
      drawn = d;
      place = p;
      stands = stands;
      is_drawn = drawn;
      within = le;
      number = refl;
      live = h;
    }),
  )

  -- what is live is so after other bytes whose set has the same members
  along : (x y s t : List ℕ) → IsReached chart x s → IsReached chart y t → ((q : ℕ) → Contains s q → Contains t q) →
      (n p : ℕ) → IsLiveByParts rules x n p → IsLiveByParts rules y n p
  along x y s t one two go n p live =
      let stands = at_index rules n live.0 live.1 in
      let w = drawn_of chart rules chart.rules.items 0 is.drawn (n - 1) live.0 stands in
      let le = live_within (pattern live.0) x p live.2 in (
        live.0,
        live.1,
        (number_there y t two (n - 1) live.0 w.0 p stands w.1 le).0
            (go _ ((number_there x s one (n - 1) live.0 w.0 p stands w.1 le).1 live.2)),
      )

  -- sets are equal where the same places are live by parts
  equal_by_parts : (x y s t : List ℕ) → IsReached chart x s → IsReached chart y t → (s ≡ t) ↔ SameByParts rules x y
  equal_by_parts x y s t one two = (
    λ e n p. (
      along x y s t one two (λ q h. subst (λ z. Contains z q) e h) n p,
      along y x t s two one (λ q h. subst (λ z. Contains z q) (sym e) h) n p,
    ),
    λ same. same_lists s t (reached_ascends chart x s one) (reached_ascends chart y t two) (λ q. (
      λ h. (live_numbers first after rules chart y t two is q).1
          (moved rules chart x y (λ n p. (same n p).0) q ((live_numbers first after rules chart x s one is q).0 h)),
      λ h. (live_numbers first after rules chart x s one is q).1
          (moved rules chart y x (λ n p. (same n p).1) q ((live_numbers first after rules chart y t two is q).0 h)),
    )),
  )

  -- and empty where none is
  empty_by_parts : (bytes set : List ℕ) → IsReached chart bytes set → (set ≡ []) ↔ NoneByParts rules bytes
  empty_by_parts bytes set reached = (
    λ e n p live.
        let stands = at_index rules n live.0 live.1 in
        let w = drawn_of chart rules chart.rules.items 0 is.drawn (n - 1) live.0 stands in
        let le = live_within (pattern live.0) bytes p live.2 in
        contains_none _ (subst (λ z. Contains z (w.0.end + (places (pattern live.0) - p))) e
        ((number_there bytes set reached (n - 1) live.0 w.0 p stands w.1 le).1 live.2)),
    λ none. no_members set (λ q h.
        let n = (live_numbers first after rules chart bytes set reached is q).0 h in
        none (n.index + 1) n.place (n.rule, has_number rules n.index n.rule n.stands, n.live)),
  )

module _ (first : LiveAtFirst) (after : LiveAfterByte) (by_steps : LeftFirst) (rules : List RuleValue) (chart : Chart)
    (is : IsChartOf rules chart) where
  pub equal_sets : (x y s t : List ℕ) → IsReached chart x s → IsReached chart y t → (s ≡ t) ↔ SameSet rules x y
  equal_sets x y s t one two =
      let equal = equal_by_parts first after rules chart is x y s t one two in
      let same = same_by_parts by_steps rules x y in (λ e. same.0 (equal.0 e), λ h. equal.1 (same.1 h))

  pub empty_set : (bytes set : List ℕ) → IsReached chart bytes set → (set ≡ []) ↔ NoneLive rules bytes
  empty_set bytes set reached =
      let empty = empty_by_parts first after rules chart is bytes set reached in
      let none = none_by_parts by_steps rules bytes in (λ e. none.0 (empty.0 e), λ h. empty.1 (none.1 h))
