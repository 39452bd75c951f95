-- What is gathered, one entry after another.
use Rattle.std.proofs.Common.{◌≡◌, ◌⊎◌, ◌↔◌, inl, inr, ⊎_elim, ℕ, ◌+◌, ◌<◌, ◌≤◌, IsTrue, true, false, true≢false, List, length, Some}
use Rattle.std.proofs.Common.{slice_get, get_or, refl, sym, ap, ◌∙◌, subst, arith}
use Rattle.std.specs.List.{Contains}
use Rattle.std.proofs.lemmas.Bool.{cases_lt}
use Rattle.std.proofs.lemmas.Option.{same_Some, slice_get_read, slice_get_within, slice_get-get_or}
use Rattle.std.proofs.lemmas.List.{get_or_default}
use Rattle.glob_automaton.specs.declared.chart.Chart.{Chart}
use Rattle.glob_automaton.specs.declared.chart.ChartRule.{ChartRule}
use Rattle.glob_automaton.specs.declared.chart.ChartPlace.{ChartPlace}
use Rattle.glob_automaton.specs.inner.Chart.{IsIn, takes_byte}
use Rattle.glob_automaton.specs.inner.Drawings.{IsPartOfChart}
use Rattle.glob_automaton.specs.inner.GatheredSets.{IsAscending}
use Rattle.glob_automaton.specs.inner.ChartStates.{ArePlaces, IsStartOf, IsStepOf}
use Rattle.glob_automaton.proofs.RuleNumbers.{rule_of, rule_stands}

-- q is live at the beginning of one of the first i rules
abbrev pub StartsBefore : Chart → ℕ → ℕ → Type 0
StartsBefore chart i q = (n : ℕ) × (d : ChartRule) × (n < i) × (slice_get chart.rules.items n ≡ Some d)
    × IsIn chart.entries.items d.start q

-- q is live after one of the first i places of the set, which takes the byte
abbrev pub StepsBefore : Chart → List ℕ → ℕ → ℕ → ℕ → Type 0
StepsBefore chart set b i q = (k : ℕ) × (place : ChartPlace) × (k < i) × (k < length set)
    × (slice_get chart.places.items (get_or set k 0) ≡ Some place)
    × IsTrue (takes_byte chart.classes.items place.takes b) × IsIn chart.entries.items place.behind q

-- where a rule begins is an entry
pub start_there : (chart : Chart) → IsPartOfChart chart → (i : ℕ) (d : ChartRule) → slice_get chart.rules.items i ≡ Some d →
    d.start < length chart.entries.items
start_there chart part i d at =
    let rule = rule_of chart part.0 chart.rules.items 0 part.1.drawn i d at in
    (rule_stands chart part.0 chart.rules.items 0 part.1.drawn i rule.0 d rule.1 at).start_there

-- what is at an index of a list is in it
member_at : (set : List ℕ) (i : ℕ) → i < length set → Contains set (get_or set i 0)
member_at set i lt = (i, lt, get_or_default set i (get_or set i 0) 0 lt)

module _ (chart : Chart) where
  -- One more rule is read, and what is live where it begins comes in.
  pub starts_more : (Old New : ℕ → Type 0) (i : ℕ) (rules : List ChartRule) (d : ChartRule) → rules ≡ chart.rules.items →
      i < length rules →
      ((q : ℕ) → Old q ↔ StartsBefore chart i q) →
      ((q : ℕ) → New q ↔ (Old q ⊎ IsIn chart.entries.items (get_or rules i d).start q)) →
      (q : ℕ) → New q ↔ StartsBefore chart (i + 1) q
  starts_more Old New i rules d same within before more q =
      let read : slice_get chart.rules.items i ≡ Some (get_or rules i d) =
      subst (λ z. slice_get z i ≡ Some (get_or rules i d)) same (slice_get-get_or rules i d within) in (
        λ h. ⊎_elim
            (λ o. let s = (before q).0 o in (s.0, s.1, omega (arith, s.2), s.3, s.4))
            (λ e. (i, get_or rules i d, omega arith, read, e))
            ((more q).0 h),
        λ s. (more q).1 (⊎_elim
            (λ lt. inl ((before q).1 (s.0, s.1, lt, s.3, s.4)))
            (λ le. let at : s.0 ≡ i = omega (arith, s.2, le) in
            let one : s.1 ≡ get_or rules i d = same_Some s.1 (get_or rules i d) (sym s.3 ∙ ap (slice_get chart.rules.items) at ∙ read) in
            inr (subst (λ (z : ChartRule). IsIn chart.entries.items z.start q) one s.4))
            (cases_lt s.0 i)),
      )

  -- where the rule that is read begins is an entry
  pub read_start_there : IsPartOfChart chart → (i : ℕ) (rules : List ChartRule) (d : ChartRule) → rules ≡ chart.rules.items →
      i < length rules →
      (get_or rules i d).start < length chart.entries.items
  read_start_there part i rules d same within = start_there chart part i (get_or rules i d)
      (subst (λ z. slice_get z i ≡ Some (get_or rules i d)) same (slice_get-get_or rules i d within))

  -- All rules are read, and the set is put in order.
  pub starts_all : (Old : ℕ → Type 0) (set : List ℕ) (i : ℕ) → length chart.rules.items ≤ i → ((q : ℕ) → Old q ↔ StartsBefore chart i q) →
      IsAscending set → ((q : ℕ) → Contains set q ↔ Old q) → IsStartOf chart set
  starts_all Old set i le all up same = record {
    ascending = up;
    live = λ q. (
      λ h. let s = (all q).0 ((same q).0 h) in (s.0, s.1, s.3, s.4),
      λ s. (same q).1 ((all q).1 (s.0, s.1, (let lt = slice_get_within chart.rules.items s.0 s.1 s.2 in omega (arith, lt, le)), s.2, s.3)),
    );
  }

  module _ (set : List ℕ) (b : ℕ) where
    -- the place that is read
    pub read_place : ArePlaces chart set → (i : ℕ) (place : ChartPlace) → i < length set → place ≡ get_or chart.places.items
        (get_or set i 0) place →
        slice_get chart.places.items (get_or set i 0) ≡ Some place
    read_place are i place lt is =
        slice_get_read chart.places.items _ (get_or set i 0) place refl (are (get_or set i 0) (member_at set i lt)) is

    -- the number of a place is one
    pub number_there : ArePlaces chart set → (i : ℕ) → i < length set → get_or set i 0 < length chart.places.items
    number_there are i lt = are (get_or set i 0) (member_at set i lt)

    -- The place takes the byte, and what is live after it comes in.
    pub steps_more : (Old New : ℕ → Type 0) (i : ℕ) (place : ChartPlace) → i < length set → slice_get chart.places.items (get_or set i 0)
        ≡ Some place →
        takes_byte chart.classes.items place.takes b ≡ true → ((q : ℕ) → Old q ↔ StepsBefore chart set b i q) →
        ((q : ℕ) → New q ↔ (Old q ⊎ IsIn chart.entries.items place.behind q)) →
        (q : ℕ) → New q ↔ StepsBefore chart set b (i + 1) q
    steps_more Old New i place within read takes before more q = (
      λ h. ⊎_elim
          (λ o. let s = (before q).0 o in (s.0, s.1, omega (arith, s.2), s.3, s.4, s.5, s.6))
          (λ e. (i, place, omega arith, within, read, takes, e))
          ((more q).0 h),
      λ s. (more q).1 (⊎_elim
          (λ lt. inl ((before q).1 (s.0, s.1, lt, s.3, s.4, s.5, s.6)))
          (λ le. let at : s.0 ≡ i = omega (arith, s.2, le) in
          let one : s.1 ≡ place = same_Some s.1 place (sym s.4 ∙ ap (λ z. slice_get chart.places.items (get_or set z 0)) at ∙ read) in
          inr (subst (λ (z : ChartPlace). IsIn chart.entries.items z.behind q) one s.6))
          (cases_lt s.0 i)),
    )

    -- The place doesn't take the byte.
    pub steps_skip : (Old : ℕ → Type 0) (i : ℕ) (place : ChartPlace) → slice_get chart.places.items (get_or set i 0) ≡ Some place →
        takes_byte chart.classes.items place.takes b ≡ false → ((q : ℕ) → Old q ↔ StepsBefore chart set b i q) →
        (q : ℕ) → Old q ↔ StepsBefore chart set b (i + 1) q
    steps_skip Old i place read takes before q = (
      λ h. let s = (before q).0 h in (s.0, s.1, omega (arith, s.2), s.3, s.4, s.5, s.6),
      λ s. (before q).1 (⊎_elim
          (λ lt. (s.0, s.1, lt, s.3, s.4, s.5, s.6))
          (λ le. let at : s.0 ≡ i = omega (arith, s.2, le) in
          let one : s.1 ≡ place = same_Some s.1 place (sym s.4 ∙ ap (λ z. slice_get chart.places.items (get_or set z 0)) at ∙ read) in
          absurd (true≢false (sym s.5 ∙ ap (λ (z : ChartPlace). takes_byte chart.classes.items z.takes b) one ∙ takes)))
          (cases_lt s.0 i)),
    )

    -- All places are read, and the set is put in order.
    pub steps_all : (Old : ℕ → Type 0) (next : List ℕ) (i : ℕ) → length set ≤ i → ((q : ℕ) → Old q ↔ StepsBefore chart set b i q) →
        IsAscending next → ((q : ℕ) → Contains next q ↔ Old q) → IsStepOf chart set b next
    steps_all Old next i le all up same = record {
      ascending = up;
      live = λ q. (
        λ h. let s = (all q).0 ((same q).0 h) in (get_or set s.0 0, s.1, member_at set s.0 s.3, s.4, s.5, s.6),
        λ s. let at : get_or set s.2.0 0 ≡ s.0 = get_or_default set s.2.0 0 s.0 s.2.1 ∙ s.2.2 in
            (same q).1 ((all q).1 (
              s.2.0,
              s.1,
              omega (arith, s.2.1, le),
              s.2.1,
              subst (λ z. slice_get chart.places.items z ≡ Some s.1) (sym at) s.3,
              s.4,
              s.5,
            )),
      );
    }
