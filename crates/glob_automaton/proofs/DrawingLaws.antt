-- What one step draws, and that drawings one after the other are a drawing of both.
use Rattle.std.proofs.Common.{[], ◌≡◌, ℕ, ◌+◌, ◌<◌, ◌≤◌, Bool, true, false, ◌⊎◌, ◌↔◌, inl, inr, ⊎_elim, List, ◌∷◌, ◌++◌, length, IsTrue}
use Rattle.std.proofs.Common.{refl, sym, ap, ◌∙◌, subst, arith, Some}
use Rattle.std.specs.List.{slice_get}
use Rattle.std.specs.Prelude.{slice_index_or, slice_set, Result, Ok, Err, IfOk}
use Rattle.std.proofs.lemmas.Option.{slice_get_within, slice_get_cases}
use Rattle.std.proofs.lemmas.List.{length-append, append_assoc, append-nil, get_or_append_left, get_or-set_same, get_or-set_other}
use Rattle.std.proofs.lemmas.Result.{IfOk-weaker}
use Rattle.std.proofs.Math.Seq.{get_or-append_seam}
use Rattle.std.proofs.lemmas.Bool.{cases_lt}
use Rattle.rule_globs.specs.Glob.{Glob, empty, one, run, cat, none, alt, fits, places, ByteSet, not_slash}
use Rattle.rule_globs.specs.Meaning.{in_stars, stars_glob}
use Rattle.rule_globs.specs.Follow.{Starts, TakesAt, Goes}
use Rattle.glob_automaton.specs.inner.Chart.{IsIn, at_place, at_run, past_run, one_side, other_side, IsOrdered, refers_below, takes_byte}
use Rattle.glob_automaton.specs.inner.Drawings.{IsReady, TakesSet, Grows, IsKnown, IsDrawn}
use Rattle.glob_automaton.specs.declared.chart.Chart.{Chart}
use Rattle.glob_automaton.specs.declared.chart.ChartPlace.{ChartPlace}
use Rattle.glob_automaton.specs.declared.chart.Label.{Label}
use Rattle.glob_automaton.specs.declared.chart.Label.TheVariants as label
use Rattle.glob_automaton.specs.declared.chart.Entry.{Entry}
use Rattle.glob_automaton.specs.declared.chart.Entry.TheVariants as entry
use Rattle.glob_automaton.proofs.ChartLaws.{get_left, get_last, get_right, Agree, was_in, still_in, starts_by, goes_by, takes_own}
use Rattle.glob_automaton.proofs.ChartLaws.{goes_own}

-- lists that grow twice grow
pub grows_on : {X : Type 0} (first second third : List X) → Grows first second → Grows second third → Grows first third
grows_on first second third g h = (g.0 ++ h.0, h.1 ∙ ap (λ z. z ++ h.0) g.1 ∙ append_assoc first g.0 h.0)

-- a list that stays the same grows by nothing
pub grows_not : {X : Type 0} (xs ys : List X) → ys ≡ xs → Grows xs ys
grows_not xs ys e = ([], e ∙ sym (append-nil xs))

-- a grown list is no shorter
pub grown_length : {X : Type 0} (old new : List X) → Grows old new → length old ≤ length new
grown_length old new g =
    let count : length new ≡ length old + length g.0 = ap length g.1 ∙ length-append old g.0 in omega (arith, count)

-- the entries of a grown list agree
pub grown_agree : (old new : List Entry) → Grows old new → Agree old new
grown_agree old new g e lt = ap (λ z. slice_get z e) g.1 ∙ get_left old g.0 e lt

-- what is live at an entry that was there
pub live_as_before : (old new : List Entry) (e q : ℕ) → IsOrdered old → Grows old new → e < length old → IsIn new e q ↔ IsIn old e q
live_as_before old new e q ordered g lt =
    (was_in new old e q ordered (grown_agree old new g) lt, still_in new old e q (grown_agree old new g))

-- an element of the grown list was there before, or is new
pub old_or_new : {X : Type 0} (old new : List X) (i : ℕ) (x : X) → Grows old new → slice_get new i ≡ Some x →
    ((slice_get old i ≡ Some x) × (i < length old)) ⊎ (length old ≤ i)
old_or_new old new i x g h = ⊎_elim
    (λ t. inl (sym (ap (λ z. slice_get z i) g.1 ∙ get_left old g.0 i t.1) ∙ h, t.1))
    (λ t. inr t.0)
    (slice_get_cases old i).1

-- a place takes what it took when there are more classes
pub takes_on : (old new : Chart) (takes : Label) (b : ℕ) → Grows old.classes.items new.classes.items → IsKnown old takes →
    takes_byte new.classes.items takes b ≡ takes_byte old.classes.items takes b
takes_on old new (label.Byte a) b g k = refl
takes_on old new label.InComponent b g k = refl
takes_on old new label.Any b g k = refl
takes_on old new (label.Class n) b g k =
    ap (λ z. slice_index_or z b false)
    (ap (λ z. slice_index_or z n []) g.1 ∙ get_or_append_left old.classes.items g.0 [] n k)
takes_on old new label.Nothing b g k = refl

-- a class that was there is there when there are more
pub known_on : (old new : Chart) (takes : Label) → Grows old.classes.items new.classes.items → IsKnown old takes → IsKnown new takes
known_on old new (label.Byte a) g k = k
known_on old new label.InComponent g k = k
known_on old new label.Any g k = k
known_on old new (label.Class n) g k = omega (arith, k, grown_length old.classes.items new.classes.items g)
known_on old new label.Nothing g k = k

-- one more entry that refers to entries before it
pub ordered_on : (old new : List Entry) (x : Entry) → IsOrdered old → refers_below (length old) x → new ≡ old ++ x ∷ [] → IsOrdered new
ordered_on old new x ordered below grown e y h = ⊎_elim
    (λ t. ordered e y t.0)
    (λ le.
    let w : (e ≡ length old) × (x ≡ y) = get_right old x y e le (sym (ap (λ z. slice_get z e) grown) ∙ h) in
    subst (λ z. refers_below z y) (sym w.0) (subst (λ z. refers_below (length old) z) w.1 below))
    (old_or_new old new e y (x ∷ [], grown) h)

-- What is live at an entry, by its kind: nothing, a place, a run's place and what is after it, or either.
pub in_nothing : (entries : List Entry) (e q : ℕ) → slice_get entries e ≡ Some entry.Nothing → IsIn entries e q → ⊥
in_nothing entries e q is (at_place _ _ _ h) = absurd (cc (is, h))
in_nothing entries e q is (at_run _ _ _ behind h) = absurd (cc (is, h))
in_nothing entries e q is (past_run _ _ p behind _ h more) = absurd (cc (is, h))
in_nothing entries e q is (one_side _ _ first other _ h more) = absurd (cc (is, h))
in_nothing entries e q is (other_side _ _ first other _ h more) = absurd (cc (is, h))

pub in_place : (entries : List Entry) (e p q : ℕ) → slice_get entries e ≡ Some (entry.Place p) → IsIn entries e q → q ≡ p
in_place entries e p q is (at_place _ _ _ h) = cc (is, h)
in_place entries e p q is (at_run _ _ _ behind h) = absurd (cc (is, h))
in_place entries e p q is (past_run _ _ r behind _ h more) = absurd (cc (is, h))
in_place entries e p q is (one_side _ _ first other _ h more) = absurd (cc (is, h))
in_place entries e p q is (other_side _ _ first other _ h more) = absurd (cc (is, h))

pub in_run : (entries : List Entry) (e p behind q : ℕ) → slice_get entries e ≡ Some (entry.Run p behind) → IsIn entries e q →
    (q ≡ p) ⊎ IsIn entries behind q
in_run entries e p behind q is (at_place _ _ _ h) = absurd (cc (is, h))
in_run entries e p behind q is (at_run _ _ _ other h) = inl (cc (is, h))
in_run entries e p behind q is (past_run _ _ r other _ h more) =
    let same : other ≡ behind = cc (is, h) in inr (subst (λ z. IsIn entries z q) same more)
in_run entries e p behind q is (one_side _ _ first other _ h more) = absurd (cc (is, h))
in_run entries e p behind q is (other_side _ _ first other _ h more) = absurd (cc (is, h))

pub in_either : (entries : List Entry) (e x y q : ℕ) → slice_get entries e ≡ Some (entry.Either x y) → IsIn entries e q →
    IsIn entries x q ⊎ IsIn entries y q
in_either entries e x y q is (at_place _ _ _ h) = absurd (cc (is, h))
in_either entries e x y q is (at_run _ _ _ other h) = absurd (cc (is, h))
in_either entries e x y q is (past_run _ _ r other _ h more) = absurd (cc (is, h))
in_either entries e x y q is (one_side _ _ first other _ h more) =
    let same : first ≡ x = cc (is, h) in inl (subst (λ z. IsIn entries z q) same more)
in_either entries e x y q is (other_side _ _ first other _ h more) =
    let same : other ≡ y = cc (is, h) in inr (subst (λ z. IsIn entries z q) same more)

-- a place of two drawings is one of the first, or of the second
pub taken_join : (s1 s2 s3 : Chart) (a b : Glob) (k1 m1 k2 m2 : ℕ) → IsDrawn s1 s2 b k1 m1 → IsDrawn s2 s3 a k2 m2 →
    (p c : ℕ) (place : ChartPlace) → length s1.places.items ≤ p → slice_get s3.places.items p ≡ Some place → c < 256 →
    IsTrue (takes_byte s3.classes.items place.takes c)
    ↔ (TakesAt a (length s1.places.items + places b) p c ⊎ TakesAt b (length s1.places.items) p c)
taken_join s1 s2 s3 a b k1 m1 k2 m2 d1 d2 p c place le h lt = ⊎_elim
    (λ t.
    let same : takes_byte s3.classes.items place.takes c ≡ takes_byte s2.classes.items place.takes c =
    takes_on s2 s3 place.takes c d2.classes_stay (d1.there p place le t.0).1 in
    let was : IsTrue (takes_byte s2.classes.items place.takes c) ↔ TakesAt b (length s1.places.items) p c =
    d1.taken p c place le t.0 lt in (
      λ u. inr (was.0 (sym same ∙ u)),
      λ u. ⊎_elim
          (λ v. absurd (omega (arith, (takes_own a (length s1.places.items + places b) p c v).0, t.1, d1.count)))
          (λ v. same ∙ was.1 v) u,
    ))
    (λ t.
    let now : IsTrue (takes_byte s3.classes.items place.takes c) ↔ TakesAt a (length s2.places.items) p c =
    d2.taken p c place t h lt in (
      λ u. inl (subst (λ z. TakesAt a z p c) d1.count (now.0 u)),
      λ u. ⊎_elim
          (λ v. now.1 (subst (λ z. TakesAt a z p c) (sym d1.count) v))
          (λ v. absurd (omega (arith, (takes_own b (length s1.places.items) p c v).1, t, d1.count))) u,
    ))
    (old_or_new s2.places.items s3.places.items p place d2.places_stay h)

-- where it leads is where the one of them says
pub goes_join : (s1 s2 s3 : Chart) (a b : Glob) (k1 m1 k2 m2 : ℕ) → IsDrawn s1 s2 b k1 m1 → IsDrawn s2 s3 a k2 m2 →
    (p q : ℕ) (place : ChartPlace) → length s1.places.items ≤ p → slice_get s3.places.items p ≡ Some place →
    IsIn s3.entries.items place.behind q
    ↔ (Goes a (length s1.places.items + places b) (IsIn s2.entries.items k2) p q ⊎ Goes b (length s1.places.items)
    (IsIn s1.entries.items k1) p q)
goes_join s1 s2 s3 a b k1 m1 k2 m2 d1 d2 p q place le h = ⊎_elim
    (λ t.
    let same : IsIn s3.entries.items place.behind q ↔ IsIn s2.entries.items place.behind q =
    live_as_before s2.entries.items s3.entries.items place.behind q d1.ready.ordered d2.entries_stay (d1.there p place le t.0).0 in
    let was : IsIn s2.entries.items place.behind q ↔ Goes b (length s1.places.items) (IsIn s1.entries.items k1) p q =
    d1.goes p q place le t.0 in (
      λ u. inr (was.0 (same.0 u)),
      λ u. ⊎_elim
          (λ v. absurd (omega (arith, (goes_own a (length s1.places.items + places b) (IsIn s2.entries.items k2) p q v).0, t.1, d1.count)))
          (λ v. same.1 (was.1 v)) u,
    ))
    (λ t.
    let now : IsIn s3.entries.items place.behind q ↔ Goes a (length s2.places.items) (IsIn s2.entries.items k2) p q =
    d2.goes p q place t h in (
      λ u. inl (subst (λ z. Goes a z (IsIn s2.entries.items k2) p q) d1.count (now.0 u)),
      λ u. ⊎_elim
          (λ v. now.1 (subst (λ z. Goes a z (IsIn s2.entries.items k2) p q) (sym d1.count) v))
          (λ v. absurd (omega (arith, (goes_own b (length s1.places.items) (IsIn s1.entries.items k1) p q v).1, t, d1.count))) u,
    ))
    (old_or_new s2.places.items s3.places.items p place d2.places_stay h)

-- and what it refers to is there
pub there_join : (s1 s2 s3 : Chart) (a b : Glob) (k1 m1 k2 m2 : ℕ) → IsDrawn s1 s2 b k1 m1 → IsDrawn s2 s3 a k2 m2 →
    (p : ℕ) (place : ChartPlace) → length s1.places.items ≤ p → slice_get s3.places.items p ≡ Some place →
    (place.behind < length s3.entries.items) × IsKnown s3 place.takes
there_join s1 s2 s3 a b k1 m1 k2 m2 d1 d2 p place le h = ⊎_elim
    (λ t.
    let was : (place.behind < length s2.entries.items) × IsKnown s2 place.takes = d1.there p place le t.0 in (
      omega (arith, was.0, grown_length s2.entries.items s3.entries.items d2.entries_stay),
      known_on s2 s3 place.takes
          d2.classes_stay was.1,
    ))
    (λ t. d2.there p place t h)
    (old_or_new s2.places.items s3.places.items p place d2.places_stay h)

-- An entry that a drawing began before is ready still.
pub ready_on : (old new : Chart) (g : Glob) (behind start k : ℕ) → IsReady old k → IsDrawn old new g behind start → IsReady new k
ready_on old new g behind start k ready d = record {
  ordered = d.ready.ordered;
  there = omega (arith, ready.there, grown_length old.entries.items new.entries.items d.entries_stay);
}

-- nothing is drawn of no items
pub drawn_empty : (chart : Chart) (behind : ℕ) → IsReady chart behind → IsDrawn chart chart empty behind behind
drawn_empty chart behind ready = record {
  places_stay = grows_not chart.places.items chart.places.items refl;
  entries_stay = grows_not chart.entries.items chart.entries.items refl;
  classes_stay = grows_not chart.classes.items chart.classes.items refl;
  rules_stay = refl;
  count = omega arith;
  ready = ready;
  starts = λ q. (λ h. h, λ h. h);
  taken = λ p b place le h lt. absurd (omega (arith, le, slice_get_within chart.places.items p place h));
  goes = λ p q place le h. absurd (omega (arith, le, slice_get_within chart.places.items p place h));
  there = λ p place le h. absurd (omega (arith, le, slice_get_within chart.places.items p place h));
}

-- a pattern drawn before another is one after the other
pub drawn_cat : (s1 s2 s3 : Chart) (a b : Glob) (behind mid start : ℕ) → IsDrawn s1 s2 b behind mid → IsDrawn s2 s3 a mid start →
    IsDrawn s1 s3 (cat a b) behind start
drawn_cat s1 s2 s3 a b behind mid start d1 d2 = record {
  places_stay = grows_on s1.places.items s2.places.items s3.places.items d1.places_stay d2.places_stay;
  entries_stay = grows_on s1.entries.items s2.entries.items s3.entries.items d1.entries_stay d2.entries_stay;
  classes_stay = grows_on s1.classes.items s2.classes.items s3.classes.items d1.classes_stay d2.classes_stay;
  rules_stay = d2.rules_stay ∙ d1.rules_stay;
  count = omega (arith, d1.count, d2.count);
  ready = d2.ready;
  starts = λ q. (
    λ h. subst (λ z. Starts a z (Starts b (length s1.places.items) (IsIn s1.entries.items behind)) q) d1.count
        (starts_by a (length s2.places.items) (IsIn s2.entries.items mid)
        (Starts b (length s1.places.items) (IsIn s1.entries.items behind)) (λ r. (d1.starts r).0) q ((d2.starts q).0 h)),
    λ h. (d2.starts q).1
        (starts_by a (length s2.places.items) (Starts b (length s1.places.items) (IsIn s1.entries.items behind))
        (IsIn s2.entries.items mid) (λ r. (d1.starts r).1) q
        (subst (λ z. Starts a z (Starts b (length s1.places.items) (IsIn s1.entries.items behind)) q) (sym d1.count) h)),
  );
  taken = taken_join s1 s2 s3 a b behind mid mid start d1 d2;
  goes = λ p q place le h.
      let both = goes_join s1 s2 s3 a b behind mid mid start d1 d2 p q place le h in (
        λ u. ⊎_elim
            (λ v. inl (goes_by a (length s1.places.items + places b) (IsIn s2.entries.items mid)
            (Starts b (length s1.places.items) (IsIn s1.entries.items behind)) (λ r. (d1.starts r).0) p q v))
            (λ v. inr v) (both.0 u),
        λ u. both.1 (⊎_elim
            (λ v. inl (goes_by a (length s1.places.items + places b) (Starts b (length s1.places.items) (IsIn s1.entries.items behind))
            (IsIn s2.entries.items mid) (λ r. (d1.starts r).1) p q v))
            (λ v. inr v) u),
      );
  there = there_join s1 s2 s3 a b behind mid mid start d1 d2;
}

-- two patterns drawn before the same entry, and the entry of both
pub drawn_alt : (s1 s2 s3 s4 : Chart) (a b : Glob) (behind other first start : ℕ) → IsReady s1 behind →
    IsDrawn s1 s2 b behind other → IsDrawn s2 s3 a behind first →
    start ≡ length s3.entries.items → s4.entries.items ≡ s3.entries.items ++ entry.Either first other ∷ [] →
    s4.places ≡ s3.places → s4.classes ≡ s3.classes → s4.rules ≡ s3.rules →
    IsDrawn s1 s4 (alt a b) behind start
drawn_alt s1 s2 s3 s4 a b behind other first start ready d1 d2 is grown same_places same_classes same_rules =
    let more : Grows s3.entries.items s4.entries.items = (entry.Either first other ∷ [], grown) in
    let there : other < length s3.entries.items =
    omega (arith, d1.ready.there, grown_length s2.entries.items s3.entries.items d2.entries_stay) in
    let ordered : IsOrdered s4.entries.items =
    ordered_on s3.entries.items s4.entries.items (entry.Either first other) d2.ready.ordered (d2.ready.there, there) grown in
    let items : s4.places.items ≡ s3.places.items = ap (λ z. z.items) same_places in
    let classes : s4.classes.items ≡ s3.classes.items = ap (λ z. z.items) same_classes in
    let rules : s4.rules.items ≡ s3.rules.items = ap (λ z. z.items) same_rules in
    let length4 : length s4.entries.items ≡ length s3.entries.items + 1 =
    ap length grown ∙ length-append s3.entries.items (entry.Either first other ∷ []) in
    let here : slice_get s4.entries.items start ≡ Some (entry.Either first other) =
    ap (λ z. slice_get z start) grown ∙ ap (λ z. slice_get (s3.entries.items ++ entry.Either first other ∷ []) z) is
    ∙ get_last s3.entries.items (entry.Either first other) in
    let known : Grows s3.classes.items s4.classes.items = grows_not s3.classes.items s4.classes.items classes in
    let behind_stays : (q : ℕ) → IsIn s2.entries.items behind q ↔ IsIn s1.entries.items behind q =
    λ q. live_as_before s1.entries.items s2.entries.items behind q ready.ordered d1.entries_stay ready.there in
    let before : (p : ℕ) (place : ChartPlace) → slice_get s4.places.items p ≡ Some place → slice_get s3.places.items p ≡ Some place =
    λ p place h. sym (ap (λ z. slice_get z p) items) ∙ h in
    record {
      places_stay = grows_on s1.places.items s2.places.items s4.places.items d1.places_stay
          (grows_on s2.places.items s3.places.items s4.places.items d2.places_stay (grows_not s3.places.items s4.places.items items));
      entries_stay = grows_on s1.entries.items s2.entries.items s4.entries.items d1.entries_stay
          (grows_on s2.entries.items s3.entries.items s4.entries.items d2.entries_stay more);
      classes_stay = grows_on s1.classes.items s2.classes.items s4.classes.items d1.classes_stay
          (grows_on s2.classes.items s3.classes.items s4.classes.items d2.classes_stay known);
      rules_stay = rules ∙ d2.rules_stay ∙ d1.rules_stay;
      count = omega (arith, d1.count, d2.count, ap length items);
      ready = record { ordered = ordered; there = omega (arith, is, length4) };
      starts = λ q.
          let first_stays = live_as_before s3.entries.items s4.entries.items first q d2.ready.ordered more d2.ready.there in
          let other_stays = live_as_before s3.entries.items s4.entries.items other q d2.ready.ordered more there in
          let other_stood = live_as_before s2.entries.items s3.entries.items other q d1.ready.ordered d2.entries_stay d1.ready.there in (
            λ h. ⊎_elim
                (λ u. inl (subst (λ z. Starts a z (IsIn s1.entries.items behind) q) d1.count
                (starts_by a (length s2.places.items) (IsIn s2.entries.items behind) (IsIn s1.entries.items behind)
                (λ r. (behind_stays r).0) q ((d2.starts q).0 (first_stays.0 u)))))
                (λ u. inr ((d1.starts q).0 (other_stood.0 (other_stays.0 u))))
                (in_either s4.entries.items start first other q here h),
            λ h. ⊎_elim
                (λ u. one_side s4.entries.items start first other q here (first_stays.1 ((d2.starts q).1
                (starts_by a (length s2.places.items) (IsIn s1.entries.items behind) (IsIn s2.entries.items behind)
                (λ r. (behind_stays r).1) q (subst (λ z. Starts a z (IsIn s1.entries.items behind) q) (sym d1.count) u)))))
                (λ u. other_side s4.entries.items start first other q here (other_stays.1 (other_stood.1 ((d1.starts q).1 u)))) h,
          );
      taken = λ p c place le h lt.
          let both = taken_join s1 s2 s3 a b behind other behind first d1 d2 p c place le (before p place h) lt in
          let same : takes_byte s4.classes.items place.takes c ≡ takes_byte s3.classes.items place.takes c =
          ap (λ z. takes_byte z place.takes c) classes in
          (λ u. both.0 (sym same ∙ u), λ u. same ∙ both.1 u);
      goes = λ p q place le h.
          let both = goes_join s1 s2 s3 a b behind other behind first d1 d2 p q place le (before p place h) in
          let there3 = there_join s1 s2 s3 a b behind other behind first d1 d2 p place le (before p place h) in
          let stays = live_as_before s3.entries.items s4.entries.items place.behind q d2.ready.ordered more there3.0 in (
            λ u. ⊎_elim
                (λ v. inl (goes_by a (length s1.places.items + places b) (IsIn s2.entries.items behind) (IsIn s1.entries.items behind)
                (λ r. (behind_stays r).0) p q v))
                (λ v. inr v) (both.0 (stays.0 u)),
            λ u. stays.1 (both.1 (⊎_elim
                (λ v. inl (goes_by a (length s1.places.items + places b) (IsIn s1.entries.items behind) (IsIn s2.entries.items behind)
                (λ r. (behind_stays r).1) p q v))
                (λ v. inr v) u)),
          );
      there = λ p place le h.
          let there3 = there_join s1 s2 s3 a b behind other behind first d1 d2 p place le (before p place h) in
          (omega (arith, there3.0, length4), known_on s3 s4 place.takes known there3.1);
    }

-- a choice without alternatives
pub drawn_none : (old new : Chart) (behind start : ℕ) → IsReady old behind →
    start ≡ length old.entries.items → new.entries.items ≡ old.entries.items ++ entry.Nothing ∷ [] →
    new.places ≡ old.places → new.classes ≡ old.classes → new.rules ≡ old.rules → IsDrawn old new none behind start
drawn_none old new behind start ready is grown same_places same_classes same_rules =
    let items : new.places.items ≡ old.places.items = ap (λ z. z.items) same_places in
    let count : length new.entries.items ≡ length old.entries.items + 1 =
    ap length grown ∙ length-append old.entries.items (entry.Nothing ∷ []) in
    let here : slice_get new.entries.items start ≡ Some entry.Nothing =
    ap (λ z. slice_get z start) grown ∙ ap (λ z. slice_get (old.entries.items ++ entry.Nothing ∷ []) z) is
    ∙ get_last old.entries.items entry.Nothing in
    let never : (p : ℕ) (place : ChartPlace) → length old.places.items ≤ p → slice_get new.places.items p ≡ Some place → ⊥ =
    λ p place le h. omega (arith, le, slice_get_within new.places.items p place h, ap length items) in
    record {
      places_stay = grows_not old.places.items new.places.items items;
      entries_stay = (entry.Nothing ∷ [], grown);
      classes_stay = grows_not old.classes.items new.classes.items (ap (λ z. z.items) same_classes);
      rules_stay = ap (λ z. z.items) same_rules;
      count = omega (arith, ap length items);
      ready = record {
        ordered = ordered_on old.entries.items new.entries.items entry.Nothing ready.ordered tt grown;
        there = omega (arith, is, count);
      };
      starts = λ q. (λ h. absurd (in_nothing new.entries.items start q here h), λ h. absurd h);
      taken = λ p b place le h lt. absurd (never p place le h);
      goes = λ p q place le h. absurd (never p place le h);
      there = λ p place le h. absurd (never p place le h);
    }

-- a place that takes one byte
pub drawn_one : (old new : Chart) (takes : Label) (set : ByteSet) (behind start : ℕ) → IsReady old behind → IsKnown old takes →
    TakesSet old takes set →
    new.places.items ≡ old.places.items ++ record { takes = takes; behind = behind } ∷ [] →
    start ≡ length old.entries.items →
    new.entries.items ≡ old.entries.items ++ entry.Place (length old.places.items) ∷ [] →
    new.classes ≡ old.classes → new.rules ≡ old.rules → IsDrawn old new (one set) behind start
drawn_one old new takes set behind start ready known takes_set pushed is grown same_classes same_rules =
    let x : Entry = entry.Place (length old.places.items) in
    let last : ChartPlace = record { takes = takes; behind = behind } in
    let more : Grows old.entries.items new.entries.items = (entry.Place (length old.places.items) ∷ [], grown) in
    let classes : new.classes.items ≡ old.classes.items = ap (λ z. z.items) same_classes in
    let same : Grows old.classes.items new.classes.items = grows_not old.classes.items new.classes.items classes in
    let count : length new.entries.items ≡ length old.entries.items + 1 =
    ap length grown ∙ length-append old.entries.items (entry.Place (length old.places.items) ∷ []) in
    let here : slice_get new.entries.items start ≡ Some (entry.Place (length old.places.items)) =
    ap (λ z. slice_get z start) grown ∙ ap (λ z. slice_get (old.entries.items ++ entry.Place (length old.places.items) ∷ []) z) is
    ∙ get_last old.entries.items (entry.Place (length old.places.items)) in
    let only : (p : ℕ) (place : ChartPlace) → length old.places.items ≤ p → slice_get new.places.items p ≡ Some place →
    (p ≡ length old.places.items) × (last ≡ place) =
    λ p place le h. get_right old.places.items last place p le (sym (ap (λ z. slice_get z p) pushed) ∙ h) in
    record {
      places_stay = (last ∷ [], pushed);
      entries_stay = more;
      classes_stay = same;
      rules_stay = ap (λ z. z.items) same_rules;
      count = ap length pushed ∙ length-append old.places.items (last ∷ []);
      ready = record {
        ordered = ordered_on old.entries.items new.entries.items x ready.ordered tt grown;
        there = omega (arith, is, count);
      };
      starts = λ q. (
        λ h. in_place new.entries.items start (length old.places.items) q here h,
        λ h. at_place new.entries.items start q (here ∙ ap (λ z. Some (entry.Place z)) (sym h)),
      );
      taken = λ p b place le h lt.
          let w : (p ≡ length old.places.items) × (last ≡ place) = only p place le h in
          let e : takes_byte new.classes.items place.takes b ≡ fits set b =
          ap (λ (z : ChartPlace). takes_byte new.classes.items z.takes b) (sym w.1) ∙ takes_on old new takes b same known
          ∙ takes_set b lt in
          (λ u. (w.0, sym e ∙ u), λ u. e ∙ u.1);
      goes = λ p q place le h.
          let w : (p ≡ length old.places.items) × (last ≡ place) = only p place le h in
          let stays = live_as_before old.entries.items new.entries.items behind q ready.ordered more ready.there in (
            λ u. (w.0, stays.0 (subst (λ (z : ChartPlace). IsIn new.entries.items z.behind q) (sym w.1) u)),
            λ u. subst (λ (z : ChartPlace). IsIn new.entries.items z.behind q) w.1 (stays.1 u.1),
          );
      there = λ p place le h.
          let w : (p ≡ length old.places.items) × (last ≡ place) = only p place le h in
          subst (λ (z : ChartPlace). (z.behind < length new.entries.items) × IsKnown new z.takes) w.1
          (omega (arith, ready.there, count), known_on old new takes same known);
    }

-- a place that takes any number of bytes
pub drawn_run : (old new : Chart) (takes : Label) (set : ByteSet) (behind start : ℕ) → IsReady old behind → IsKnown old takes →
    TakesSet old takes set →
    new.places.items ≡ old.places.items ++ record { takes = takes; behind = start } ∷ [] →
    start ≡ length old.entries.items →
    new.entries.items ≡ old.entries.items ++ entry.Run (length old.places.items) behind ∷ [] →
    new.classes ≡ old.classes → new.rules ≡ old.rules → IsDrawn old new (run set) behind start
drawn_run old new takes set behind start ready known takes_set pushed is grown same_classes same_rules =
    let x : Entry = entry.Run (length old.places.items) behind in
    let last : ChartPlace = record { takes = takes; behind = start } in
    let more : Grows old.entries.items new.entries.items = (entry.Run (length old.places.items) behind ∷ [], grown) in
    let classes : new.classes.items ≡ old.classes.items = ap (λ z. z.items) same_classes in
    let same : Grows old.classes.items new.classes.items = grows_not old.classes.items new.classes.items classes in
    let count : length new.entries.items ≡ length old.entries.items + 1 =
    ap length grown ∙ length-append old.entries.items (entry.Run (length old.places.items) behind ∷ []) in
    let here : slice_get new.entries.items start ≡ Some (entry.Run (length old.places.items) behind) =
    ap (λ z. slice_get z start) grown ∙ ap (λ z. slice_get (old.entries.items ++ entry.Run (length old.places.items) behind ∷ []) z) is
    ∙ get_last old.entries.items (entry.Run (length old.places.items) behind) in
    let only : (p : ℕ) (place : ChartPlace) → length old.places.items ≤ p → slice_get new.places.items p ≡ Some place →
    (p ≡ length old.places.items) × (last ≡ place) =
    λ p place le h. get_right old.places.items last place p le (sym (ap (λ z. slice_get z p) pushed) ∙ h) in
    let at_start : (q : ℕ) → IsIn new.entries.items start q ↔ ((q ≡ length old.places.items) ⊎ IsIn old.entries.items behind q) =
    λ q.
    let stays = live_as_before old.entries.items new.entries.items behind q ready.ordered more ready.there in (
      λ h. ⊎_elim (λ u. inl u) (λ u. inr (stays.0 u)) (in_run new.entries.items start (length old.places.items) behind q here h),
      λ h. ⊎_elim
          (λ u. at_run new.entries.items start q behind (here ∙ ap (λ z. Some (entry.Run z behind)) (sym u)))
          (λ u. past_run new.entries.items start (length old.places.items) behind q here (stays.1 u)) h,
    ) in
    record {
      places_stay = (last ∷ [], pushed);
      entries_stay = more;
      classes_stay = same;
      rules_stay = ap (λ z. z.items) same_rules;
      count = ap length pushed ∙ length-append old.places.items (last ∷ []);
      ready = record {
        ordered = ordered_on old.entries.items new.entries.items x ready.ordered ready.there grown;
        there = omega (arith, is, count);
      };
      starts = at_start;
      taken = λ p b place le h lt.
          let w : (p ≡ length old.places.items) × (last ≡ place) = only p place le h in
          let e : takes_byte new.classes.items place.takes b ≡ fits set b =
          ap (λ (z : ChartPlace). takes_byte new.classes.items z.takes b) (sym w.1) ∙ takes_on old new takes b same known
          ∙ takes_set b lt in
          (λ u. (w.0, sym e ∙ u), λ u. e ∙ u.1);
      goes = λ p q place le h.
          let w : (p ≡ length old.places.items) × (last ≡ place) = only p place le h in (
            λ u. (w.0, (at_start q).0 (subst (λ (z : ChartPlace). IsIn new.entries.items z.behind q) (sym w.1) u)),
            λ u. subst (λ (z : ChartPlace). IsIn new.entries.items z.behind q) w.1 ((at_start q).1 u.1),
          );
      there = λ p place le h.
          let w : (p ≡ length old.places.items) × (last ≡ place) = only p place le h in
          subst (λ (z : ChartPlace). (z.behind < length new.entries.items) × IsKnown new z.takes) w.1
          (omega (arith, is, count), known_on old new takes same known);
    }

-- one more class, before a drawing
pub drawn_past_class : (old mid new : Chart) (g : Glob) (behind start : ℕ) → mid.places ≡ old.places → mid.entries ≡ old.entries →
    mid.rules ≡ old.rules → Grows old.classes.items mid.classes.items → IsDrawn mid new g behind start → IsDrawn old new g behind start
drawn_past_class old mid new g behind start same_places same_entries same_rules more d =
    let items : mid.places.items ≡ old.places.items = ap (λ z. z.items) same_places in
    let entries : mid.entries.items ≡ old.entries.items = ap (λ z. z.items) same_entries in
    let base : length mid.places.items ≡ length old.places.items = ap length items in
    let le_mid : (p : ℕ) → length old.places.items ≤ p → length mid.places.items ≤ p = λ p le. omega (arith, le, base) in
    record {
      places_stay = subst (λ z. Grows z new.places.items) items d.places_stay;
      entries_stay = subst (λ z. Grows z new.entries.items) entries d.entries_stay;
      classes_stay = grows_on old.classes.items mid.classes.items new.classes.items more d.classes_stay;
      rules_stay = d.rules_stay ∙ ap (λ z. z.items) same_rules;
      count = omega (arith, d.count, base);
      ready = d.ready;
      starts = λ q. subst (λ z. IsIn new.entries.items start q ↔ Starts g z (IsIn old.entries.items behind) q) base
          (subst (λ z. IsIn new.entries.items start q ↔ Starts g (length mid.places.items) (IsIn z behind) q) entries (d.starts q));
      taken = λ p b place le h lt. subst (λ z. IsTrue (takes_byte new.classes.items place.takes b) ↔ TakesAt g z p b) base
          (d.taken p b place (le_mid p le) h lt);
      goes = λ p q place le h. subst (λ z. IsIn new.entries.items place.behind q ↔ Goes g z (IsIn old.entries.items behind) p q) base
          (subst (λ z. IsIn new.entries.items place.behind q ↔ Goes g (length mid.places.items) (IsIn z behind) p q) entries
          (d.goes p q place (le_mid p le) h));
      there = λ p place le h. d.there p place (le_mid p le) h;
    }

-- two facts of a result's value give a third
pub if_ok : {X E : Type 0} (r : Result X E) (P Q R : X → Type 0) → ((x : X) → P x → Q x → R x) → IfOk r P → IfOk r Q → IfOk r R
if_ok (Ok x) P Q R f p q = f x p q
if_ok (Err e) P Q R f p q = tt

-- The bytes of a run of stars, where it crosses slashes and where it doesn't.
pub stars_all : (chart : Chart) (crosses : Bool) (taken : Label) → crosses ≡ true → taken ≡ label.Any →
    IsKnown chart taken × TakesSet chart taken (in_stars crosses)
stars_all chart crosses taken e f = (
  subst (λ z. IsKnown chart z) (sym f) tt,
  λ b lt. ap (λ z. takes_byte chart.classes.items z b) f
      ∙ ap (λ z. fits (in_stars z) b) (sym e),
)

pub stars_some : (chart : Chart) (crosses : Bool) (taken : Label) → crosses ≡ false → taken ≡ label.InComponent →
    IsKnown chart taken × TakesSet chart taken (in_stars crosses)
stars_some chart crosses taken e f = (
  subst (λ z. IsKnown chart z) (sym f) tt,
  λ b lt. ap (λ z. takes_byte chart.classes.items z b) f
      ∙ ap (λ z. fits (in_stars z) b) (sym e),
)

-- What a run of stars stands for, strict and not.
pub strict_stars : (crosses strict : Bool) → strict ≡ true → cat (one not_slash) (run (in_stars crosses)) ≡ stars_glob crosses strict
strict_stars crosses strict e = ap (λ z. stars_glob crosses z) (sym e)

pub free_stars : (crosses strict : Bool) → strict ≡ false → run (in_stars crosses) ≡ stars_glob crosses strict
free_stars crosses strict e = ap (λ z. stars_glob crosses z) (sym e)

-- the table is right for one more byte
pub told_more : (f : ℕ → Bool) (table : List Bool) (n : ℕ) (r : Bool) → n < length table →
    ((k : ℕ) → k < n → slice_index_or table k false ≡ f k) → r ≡ f n →
    (k : ℕ) → k < n + 1 → slice_index_or (slice_set table n r) k false ≡ f k
told_more f table n r within told e k lt = ⊎_elim
    (λ less. get_or-set_other table n k r false (λ same. omega (arith, same, less)) ∙ told k less)
    (λ le.
    let same : n ≡ k = omega (arith, le, lt) in
    subst (λ z. slice_index_or (slice_set table n r) z false ≡ f z) same (get_or-set_same table n r false within ∙ e))
    (cases_lt k n)

-- a class is recorded, and the place that takes it is drawn
pub drawn_class : {E : Type 0} (old mid new : Chart) (r : Result ℕ E) (set : ByteSet) (table : List Bool) (number behind : ℕ) →
    number ≡ length old.classes.items → mid.classes.items ≡ old.classes.items ++ table ∷ [] →
    mid.places ≡ old.places → mid.entries ≡ old.entries → mid.rules ≡ old.rules →
    ((k : ℕ) → k < 256 → slice_index_or table k false ≡ fits set k) →
    IfOk r (λ start. (any : ByteSet) → IsKnown mid (label.Class number) → TakesSet mid (label.Class number) any →
    IsDrawn mid new (one any) behind start) →
    IfOk r (IsDrawn old new (one set) behind)
drawn_class old mid new r set table number behind is pushed same_places same_entries same_rules told h =
    let there : number < length mid.classes.items =
    let count : length mid.classes.items ≡ length old.classes.items + 1 = ap length pushed
    ∙ length-append old.classes.items (table ∷ []) in
    omega (arith, count, is) in
    let found : slice_index_or mid.classes.items number [] ≡ table =
    ap (λ z. slice_index_or z number []) pushed ∙ ap (λ z. slice_index_or (old.classes.items ++ table ∷ []) z []) is
    ∙ get_or-append_seam old.classes.items table [] [] in
    IfOk-weaker r
    (λ start. (any : ByteSet) → IsKnown mid (label.Class number) → TakesSet mid (label.Class number) any →
    IsDrawn mid new (one any) behind start)
    (IsDrawn old new (one set) behind)
    (λ start drawn. drawn_past_class old mid new (one set) behind start same_places same_entries same_rules (table ∷ [], pushed)
    (drawn set there (λ b lt. ap (λ z. slice_index_or z b false) found ∙ told b lt))) h
