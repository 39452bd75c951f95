-- One more rule in the chart: its end, and its places before it. The rules before it stay.
use Rattle.std.proofs.Common.{[], ◌≡◌, ℕ, ◌+◌, ◌<◌, ◌≤◌, false, ◌↔◌, ⊎_elim, List, ◌∷◌, ◌++◌, length, IsTrue, Vec, Global, refl, sym, ap}
use Rattle.std.proofs.Common.{◌∙◌, subst, arith, Some}
use Rattle.std.specs.List.{slice_get}
use Rattle.std.proofs.lemmas.List.{length-append}
use Rattle.std.proofs.lemmas.Bool.{cases_lt}
use Rattle.names.specs.Permissions.{held}
use Rattle.rule_globs.specs.Glob.{places}
use Rattle.rule_globs.specs.Follow.{Starts, TakesAt, Goes}
use Rattle.rule_globs.specs.Rules.{RuleValue, pattern}
use Rattle.glob_automaton.specs.inner.Chart.{IsIn, at_place, IsOrdered, takes_byte}
use Rattle.glob_automaton.specs.inner.Drawings.{Grows, IsKnown, IsDrawn, HasRule, HasRules, IsChartOf}
use Rattle.glob_automaton.specs.declared.chart.Chart.{Chart}
use Rattle.glob_automaton.specs.declared.chart.ChartPlace.{ChartPlace}
use Rattle.glob_automaton.specs.declared.chart.ChartRule.{ChartRule}
use Rattle.glob_automaton.specs.declared.chart.Label.TheVariants as label
use Rattle.glob_automaton.specs.declared.chart.Entry.TheVariants as entry
use Rattle.glob_automaton.proofs.ChartLaws.{get_left, get_last, get_right, starts_by, goes_by, takes_own}
use Rattle.glob_automaton.proofs.DrawingLaws.{grows_on, grows_not, grown_length, live_as_before, old_or_new, takes_on, known_on, in_place}

-- a chart with these rules
abbrev pub with_rules : Chart → Vec ChartRule Global → Chart
with_rules chart rules = record { places = chart.places; entries = chart.entries; classes = chart.classes; rules = rules }

-- what the chart's places refer to is there
abbrev pub RefersWithin : Chart → Type 0
RefersWithin chart = (p : ℕ) (place : ChartPlace) → slice_get chart.places.items p ≡ Some place →
    (place.behind < length chart.entries.items) × IsKnown chart place.takes

-- the place of a rule's end
abbrev pub end_place : ChartPlace
end_place = record { takes = label.Nothing; behind = 0 }

-- a rule that is in the chart stays when the chart grows
pub kept_rule : (old new : Chart) (rule : RuleValue) (d : ChartRule) → IsOrdered old.entries.items → RefersWithin old →
    Grows old.places.items new.places.items → Grows old.entries.items new.entries.items → Grows old.classes.items new.classes.items →
    HasRule old rule d → HasRule new rule d
kept_rule old new rule d ordered within more_places more_entries more_classes has =
    let before : (p : ℕ) (place : ChartPlace) → p ≤ d.end + places (pattern rule) → slice_get new.places.items p ≡ Some place →
    slice_get old.places.items p ≡ Some place =
    λ p place le h. sym (ap (λ z. slice_get z p) more_places.1 ∙ get_left old.places.items more_places.0 p (omega (arith, le, has.fits)))
    ∙ h in
    record {
      kind = has.kind;
      perms = has.perms;
      fits = omega (arith, has.fits, grown_length old.places.items new.places.items more_places);
      starts = λ q.
          let stays = live_as_before old.entries.items new.entries.items d.start q ordered more_entries has.start_there in
          (λ h. (has.starts q).0 (stays.0 h), λ h. stays.1 ((has.starts q).1 h));
      start_there = omega (arith, has.start_there, grown_length old.entries.items new.entries.items more_entries);
      taken = λ p b place le last h lt.
          let was = has.taken p b place le last (before p place last h) lt in
          let same : takes_byte new.classes.items place.takes b ≡ takes_byte old.classes.items place.takes b =
          takes_on old new place.takes b more_classes (within p place (before p place last h)).1 in
          (λ u. was.0 (sym same ∙ u), λ u. same ∙ was.1 u);
      goes = λ p q place le last h.
          let was = has.goes p q place le last (before p place last h) in
          let stays = live_as_before old.entries.items new.entries.items place.behind q ordered more_entries
          (within p place (before p place last h)).0 in
          (λ u. was.0 (stays.0 u), λ u. stays.1 (was.1 u));
    }

-- the rules that are in the chart, and one more
pub more_rules : (old new : Chart) (at : ℕ) (rules : List RuleValue) (ds : List ChartRule) (rule : RuleValue) (d : ChartRule) →
    ((r : RuleValue) (e : ChartRule) → HasRule old r e → HasRule new r e) → d.end ≡ length old.places.items → HasRule new rule d →
    length new.places.items ≡ length old.places.items + places (pattern rule) + 1 → HasRules old at rules ds →
    HasRules new at (rules ++ rule ∷ []) (ds ++ d ∷ [])
more_rules old new at [] [] rule d kept is has count h = (is ∙ h, has, omega (arith, count, h))
more_rules old new at [] (x ∷ ds) rule d kept is has count h = absurd h
more_rules old new at (r ∷ rules) [] rule d kept is has count h = absurd h
more_rules old new at (r ∷ rules) (x ∷ ds) rule d kept is has count h =
    (h.0, kept r x h.1, more_rules old new (at + places (pattern r) + 1) rules ds rule d kept is has count h.2)

-- the rule that was drawn is in the chart
pub new_rule : (s0 s2 s3 : Chart) (all : Vec ChartRule Global) (rule : RuleValue) (d : ChartRule) (last : ℕ) →
    s2.places.items ≡ s0.places.items ++ end_place ∷ [] → d.end ≡ length s0.places.items → d.kind ≡ rule.kind → d.perms ≡ held rule.perms →
    ((q : ℕ) → IsIn s2.entries.items last q ↔ (q ≡ d.end)) → IsDrawn s2 s3 (pattern rule) last d.start → HasRule (with_rules s3 all) rule d
new_rule s0 s2 s3 all rule d last pushed is kind perms at_last dr =
    let base : length s2.places.items ≡ d.end + 1 =
    let count : length s2.places.items ≡ length s0.places.items + 1 = ap length pushed ∙ length-append s0.places.items (end_place ∷ []) in
    omega (arith, count, is) in
    record {
      kind = kind;
      perms = perms;
      fits = omega (arith, dr.count, base);
      starts = λ q. (
        λ h. subst (λ z. Starts (pattern rule) z (λ r. r ≡ d.end) q) base
            (starts_by (pattern rule) (length s2.places.items) (IsIn s2.entries.items last) (λ r. r ≡ d.end) (λ r. (at_last r).0) q
            ((dr.starts q).0 h)),
        λ h. (dr.starts q).1
            (starts_by (pattern rule) (length s2.places.items) (λ r. r ≡ d.end) (IsIn s2.entries.items last) (λ r. (at_last r).1) q
            (subst (λ z. Starts (pattern rule) z (λ r. r ≡ d.end) q) (sym base) h)),
      );
      start_there = dr.ready.there;
      taken = λ p b place le le_last h lt. ⊎_elim
          (λ less.
          let was : slice_get s2.places.items p ≡ Some place =
          sym (ap (λ z. slice_get z p) dr.places_stay.1 ∙ get_left s2.places.items dr.places_stay.0 p less) ∙ h in
          let w : (p ≡ length s0.places.items) × (end_place ≡ place) =
          get_right s0.places.items end_place place p (omega (arith, le, is)) (sym (ap (λ z. slice_get z p) pushed) ∙ was) in
          let nothing : takes_byte s3.classes.items place.takes b ≡ false = ap (λ (z : ChartPlace). takes_byte s3.classes.items z.takes b)
          (sym w.1) in (
            λ u. absurd (cc (u, nothing)),
            λ u. absurd (omega (arith, w.0, is, (takes_own (pattern rule) (d.end + 1) p b u).0)),
          ))
          (λ ge.
          let was = dr.taken p b place ge h lt in
          subst (λ z. IsTrue (takes_byte s3.classes.items place.takes b) ↔ TakesAt (pattern rule) z p b) base was)
          (cases_lt p (length s2.places.items));
      goes = λ p q place le le_last h.
          let was = dr.goes p q place (omega (arith, le, base)) h in (
            λ u. subst (λ z. Goes (pattern rule) z (λ r. r ≡ d.end) p q) base
                (goes_by (pattern rule) (length s2.places.items) (IsIn s2.entries.items last) (λ r. r ≡ d.end)
                (λ r. (at_last r).0) p q (was.0 u)),
            λ u. was.1
                (goes_by (pattern rule) (length s2.places.items) (λ r. r ≡ d.end) (IsIn s2.entries.items last) (λ r. (at_last r).1) p q
                (subst (λ z. Goes (pattern rule) z (λ r. r ≡ d.end) p q) (sym base) u)),
          );
    }

-- the whole chart, with one more rule
pub chart_more : (s0 s2 s3 : Chart) (all : Vec ChartRule Global) (rules : List RuleValue) (rule : RuleValue) (d : ChartRule) (last : ℕ) →
    IsChartOf rules s0 →
    s2.places.items ≡ s0.places.items ++ end_place ∷ [] → d.end ≡ length s0.places.items → d.kind ≡ rule.kind → d.perms ≡ held rule.perms →
    last ≡ length s0.entries.items → s2.entries.items ≡ s0.entries.items ++ entry.Place d.end ∷ [] →
    s2.classes ≡ s0.classes → IsDrawn s2 s3 (pattern rule) last d.start → all.items ≡ s0.rules.items ++ d ∷ [] →
    IsChartOf (rules ++ rule ∷ []) (with_rules s3 all)
chart_more s0 s2 s3 all rules rule d last chart pushed is kind perms is_last grown same_classes dr done =
    let classes : Grows s0.classes.items s3.classes.items =
    grows_on s0.classes.items s2.classes.items s3.classes.items
    (grows_not s0.classes.items s2.classes.items (ap (λ z. z.items) same_classes)) dr.classes_stay in
    let all_places : Grows s0.places.items s3.places.items =
    grows_on s0.places.items s2.places.items s3.places.items (end_place ∷ [], pushed) dr.places_stay in
    let all_entries : Grows s0.entries.items s3.entries.items =
    grows_on s0.entries.items s2.entries.items s3.entries.items (entry.Place d.end ∷ [], grown) dr.entries_stay in
    let here : slice_get s2.entries.items last ≡ Some (entry.Place d.end) =
    ap (λ z. slice_get z last) grown ∙ ap (λ z. slice_get (s0.entries.items ++ entry.Place d.end ∷ []) z) is_last
    ∙ get_last s0.entries.items (entry.Place d.end) in
    let at_last : (q : ℕ) → IsIn s2.entries.items last q ↔ (q ≡ d.end) =
    λ q. (
      λ h. in_place s2.entries.items last d.end q here h,
      λ h. at_place s2.entries.items last q
          (here ∙ ap (λ z. Some (entry.Place z)) (sym h)),
    ) in
    let count : length s2.places.items ≡ length s0.places.items + 1 = ap length pushed ∙ length-append s0.places.items (end_place ∷ []) in
    let has : HasRule (with_rules s3 all) rule d = new_rule s0 s2 s3 all rule d last pushed is kind perms at_last dr in
    record {
      ordered = dr.ready.ordered;
      there = λ p place h. ⊎_elim
          (λ t. ⊎_elim
          (λ u.
          let was = chart.there p place u.0 in (
            omega (arith, was.0, grown_length s0.entries.items s3.entries.items all_entries),
            known_on s0 (with_rules s3 all)
                place.takes classes was.1,
          ))
          (λ le.
          let w : (p ≡ length s0.places.items) × (end_place ≡ place) =
          get_right s0.places.items end_place place p le (sym (ap (λ z. slice_get z p) pushed) ∙ t.0) in
          subst (λ (z : ChartPlace). (z.behind < length s3.entries.items) × IsKnown (with_rules s3 all) z.takes) w.1
          (omega (arith, dr.ready.there), tt))
          (old_or_new s0.places.items s2.places.items p place (end_place ∷ [], pushed) t.0))
          (λ le.
          let was = dr.there p place le h in
          (was.0, known_on s3 (with_rules s3 all) place.takes (grows_not s3.classes.items s3.classes.items refl) was.1))
          (old_or_new s2.places.items s3.places.items p place dr.places_stay h);
      drawn = subst (λ z. HasRules (with_rules s3 all) 0 (rules ++ rule ∷ []) z) (sym done)
          (more_rules s0 (with_rules s3 all) 0 rules s0.rules.items rule d
          (λ r e had. kept_rule s0 (with_rules s3 all) r e chart.ordered chart.there all_places all_entries classes had)
          is has (omega (arith, dr.count, count)) chart.drawn);
    }
