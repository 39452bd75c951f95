-- The automaton of a rule's path, with the hits of the rule, is that of the part that is this rule.
use Rattle.std.proofs.Common.{◌≡◌, ◌≢◌, ◌==◌, IsTrue, inl, inr, ⊎_elim, ℕ, ◌+◌, ◌-◌, ◌<◌, ◌≤◌, List, [], ◌∷◌, length, Some, slice_get}
use Rattle.std.proofs.Common.{slice_index_or, if◌then◌else◌, refl, sym, ap, ◌∙◌, subst, arith}
use Rattle.std.proofs.lemmas.Bool.{cases_Bool, eqb-true, eqb-false}
use Rattle.std.proofs.lemmas.List.Elements.{All-head, All-tail}
use Rattle.std.proofs.lemmas.Option.{same_Some}
use Rattle.names.specs.Bytes.{are_bytes}
use Rattle.names.specs.declared.permissions.Permission.{Permission}
use Rattle.names.specs.declared.permissions.Permission.TheVariants.{Read}
use Rattle.names.specs.Permissions.{held}
use Rattle.rule_globs.specs.Verdict.{Hits, IsRuleAt}
use Rattle.rule_globs.specs.Glob.{Takes}
use Rattle.rule_globs.specs.LiveSteps.{IsLeftFirst}
use Rattle.rule_profile.specs.Profile.{RuleValue, pattern, holds}
use Rattle.names.specs.declared.kind.RuleKind.{RuleKind}
use Rattle.names.specs.declared.kind.RuleKind.TheVariants.{Allow}
use Rattle.names.specs.declared.record.Record.{Record}
use Rattle.names.specs.declared.record.LeastHits.{LeastHits}
use Rattle.names.specs.Least.{IsLeastOrNone, hits_of, record_of, no_hit}
use Rattle.names.specs.Hits.{no_hits}
use Rattle.automaton_rows.specs.declared.fault.CompileFault.{CompileFault}
use Rattle.automaton_rows.specs.declared.fault.CompileFault.TheVariants.{TooManyStates, NoMemory}
use Rattle.automaton_rows.specs.Automata.{Automaton, target, goes_to, state_after, most_sets}
use Rattle.glob_automaton.specs.Automata.{IsCompileFault}
use Rattle.glob_automaton.specs.Sets.{IsLive, SameSet, NoneLive, AreMoreThan}
use Rattle.glob_automaton.proofs.AloneRecords.{nobody_hits, one_hits}
use Rattle.glob_automaton.proofs.ReachedSets.{at_index, has_number}
use Rattle.glob_automaton.specs.Parts.{SameIn, NoneIn, HitsIn, IsLeastIn, IsAutomatonOfPart}
use Rattle.glob_automaton.specs.inner.Leaves.{reading, hits_alone, where_read, IsWithHits}
use Rattle.glob_automaton.proofs.WholeParts.{same_of_part, none_of_part, no_more_sets}

module _ (rules : List RuleValue) (rule : RuleValue) (before : ℕ) (stands : slice_get rules before ≡ Some rule) where
  -- the rule alone has number 1
  alone : IsRuleAt (reading rule ∷ []) 1 (reading rule)
  alone = has_number (reading rule ∷ []) 0 (reading rule) refl

  there : IsRuleAt rules (before + 1) rule
  there = has_number rules before rule stands

  only_one : (n : ℕ) (other : RuleValue) → IsRuleAt (reading rule ∷ []) n other → (n ≡ 1) × (reading rule ≡ other)
  only_one n other h =
      let e : n ≡ 1 = omega (arith, h.0, h.1) in
      let back : n - 1 ≡ 0 = omega (arith, e) in
      (e, same_Some (reading rule) other (sym (ap (slice_get (reading rule ∷ [])) back) ∙ at_index (reading rule ∷ []) n other h))

  same_one : (n : ℕ) (other : RuleValue) → before < n → n ≤ before + 1 → IsRuleAt rules n other → (n ≡ before + 1) × (rule ≡ other)
  same_one n other low high h =
      let e : n ≡ before + 1 = omega (arith, low, high) in
      let back : n - 1 ≡ before = omega (arith, e) in
      (e, same_Some rule other (sym stands ∙ sym (ap (slice_get rules) back) ∙ at_index rules n other h))

  -- live in the one exactly where in the other
  live_up : (x : List ℕ) (n p : ℕ) → IsLive (reading rule ∷ []) x n p → IsLive rules x (before + 1) p
  live_up x n p h = (rule, there, subst (λ (z : RuleValue). IsLeft z) (sym (only_one n h.0 h.1).1) h.2)
    where
      IsLeft : RuleValue → Type 0
      IsLeft z = IsLeftFirst (pattern z) x p

  live_down : (x : List ℕ) (n p : ℕ) → before < n → n ≤ before + 1 → IsLive rules x n p → IsLive (reading rule ∷ []) x 1 p
  live_down x n p low high h = (reading rule, alone, subst (λ (z : RuleValue). IsLeft z) (sym (same_one n h.0 low high h.1).1) h.2)
    where
      IsLeft : RuleValue → Type 0
      IsLeft z = IsLeftFirst (pattern z) x p

  live_at_one : (x : List ℕ) (n p : ℕ) → IsLive (reading rule ∷ []) x 1 p → before < n → n ≤ before + 1 → IsLive rules x n p
  live_at_one x n p h low high = subst (λ z. IsLive rules x z p) (omega (arith, low, high)) (live_up x 1 p h)

  one_of : (x : List ℕ) (n p : ℕ) → IsLive (reading rule ∷ []) x n p → IsLive (reading rule ∷ []) x 1 p
  one_of x n p h = subst (λ z. IsLive (reading rule ∷ []) x z p) (only_one n h.0 h.1).0 h

  back_from_one : (x : List ℕ) (n p m : ℕ) (other : RuleValue) → IsRuleAt (reading rule ∷ []) n other → IsLive (reading rule ∷ []) x 1 p →
      IsLive (reading rule ∷ []) x n p
  back_from_one x n p m other at h = subst (λ z. IsLive (reading rule ∷ []) x z p) (sym (only_one n other at).0) h

  same_up : (x y : List ℕ) → SameIn (reading rule ∷ []) 0 1 x y → SameIn rules before (before + 1) x y
  same_up x y same n p low high = (
    λ h. live_at_one y n p ((same 1 p (omega arith) (omega arith)).0 (live_down x n p low high h)) low high,
    λ h. live_at_one x n p ((same 1 p (omega arith) (omega arith)).1 (live_down y n p low high h)) low high,
  )

  same_down : (x y : List ℕ) → SameIn rules before (before + 1) x y → SameSet (reading rule ∷ []) x y
  same_down x y same n p = (
    λ h. back_from_one y n p 0 h.0 h.1 (live_down y (before + 1) p (omega arith) (omega arith)
        ((same (before + 1) p (omega arith) (omega arith)).0 (live_up x n p h))),
    λ h. back_from_one x n p 0 h.0 h.1 (live_down x (before + 1) p (omega arith) (omega arith)
        ((same (before + 1) p (omega arith) (omega arith)).1 (live_up y n p h))),
  )

  none_up : (x : List ℕ) → NoneIn (reading rule ∷ []) 0 1 x → NoneIn rules before (before + 1) x
  none_up x none n p low high h = none 1 p (omega arith) (omega arith) (live_down x n p low high h)

  none_down : (x : List ℕ) → NoneIn rules before (before + 1) x → NoneLive (reading rule ∷ []) x
  none_down x none n p h = none (before + 1) p (omega arith) (omega arith) (live_up x n p h)

  -- more sets of the rule alone are more sets of the part
  more_up : (n : ℕ) → AreMoreThan n (reading rule ∷ []) → AreMoreThan n rules
  more_up n h = no_more_sets rules before (before + 1) n (
    h.0,
    record {
      prefixes_of_names = h.1.prefixes_of_names;
      some_live = λ k d lt none. h.1.some_live k d lt (none_down (slice_index_or h.0 k d) none);
      different = λ i j lt within same. h.1.different i j lt within (same_down (slice_index_or h.0 i []) (slice_index_or h.0 j []) same);
    },
    h.2,
  )

  pub fault_up : (fault : CompileFault) → IsCompileFault (reading rule ∷ []) fault → IsCompileFault rules fault
  fault_up TooManyStates h = more_up most_sets h
  fault_up NoMemory h = tt

  -- ---- hits

  -- what reading hits, the path matches
  taken : (x : List ℕ) (n : ℕ) → Hits (reading rule ∷ []) Allow Read x n → Takes (pattern rule) x
  taken x n h = subst (λ (z : RuleValue). Takes (pattern z) x) (sym (only_one n h.0 h.1).1) h.4

  read_hit : (x : List ℕ) → Takes (pattern rule) x → Hits (reading rule ∷ []) Allow Read x 1
  read_hit x takes = (reading rule, alone, refl, refl, takes)

  hit_there : (kind : RuleKind) (p : Permission) (x : List ℕ) → rule.kind ≡ kind → IsTrue (holds rule p) → Takes (pattern rule) x →
      HitsIn rules before (before + 1) kind p x (before + 1)
  hit_there kind p x is has takes = (omega arith, omega arith, (rule, there, is, has, takes))

  hit_of : (kind : RuleKind) (p : Permission) (x : List ℕ) (n : ℕ) → HitsIn rules before (before + 1) kind p x n →
      (rule.kind ≡ kind) × IsTrue (holds rule p) × Takes (pattern rule) x
  hit_of kind p x n h = subst (λ (z : RuleValue). (z.kind ≡ kind) × IsTrue (holds z p) × Takes (pattern z) x)
      (sym (same_one n h.2.0 h.0 h.1 h.2.1).1) (h.2.2, h.2.3, h.2.4)

  module _ (made : (hits : Permission → LeastHits) (p : Permission) → hits_of (record_of hits) p ≡ hits p)
      (same_hits : (r s : Record) → ((p : Permission) → hits_of r p ≡ hits_of s p) → r ≡ s) where
    abbrev pub hits : Record
    hits = hits_alone rule (before + 1)

    none_of : (p : Permission) → hits_of no_hits p ≡ no_hit
    none_of p = made (λ q. no_hit) p

    -- the hits of the rule alone are its least ones, where its path matches
    least_alone : (x : List ℕ) → Takes (pattern rule) x → IsLeastIn rules before (before + 1) x hits
    least_alone x takes = one_hits made (λ kind p n. HitsIn rules before (before + 1) kind p x n) rule.kind (held rule.perms) (before + 1)
        (λ kind p n h. let its = hit_of kind p x n h in (its.0, its.1, omega (arith, h.0)))
        (λ kind p is holds. hit_there kind p x is holds takes)

    least_none : (x : List ℕ) → ¬ (Takes (pattern rule) x) → IsLeastIn rules before (before + 1) x no_hits
    least_none x none = nobody_hits made (λ kind p n. HitsIn rules before (before + 1) kind p x n)
        (λ kind p n h. none (hit_of kind p x n h).2)

    -- reading has a hit where the path matches, and there alone
    read_none : (x : List ℕ) (n : ℕ) → n ≡ 0 → IsLeastOrNone (HitsIn (reading rule ∷ []) 0 1 Allow Read x) n → ¬ (Takes (pattern rule) x)
    read_none x n nothing (inl h) takes = h.1 1 (omega arith, omega arith, read_hit x takes)
    read_none x n nothing (inr h) takes = absurd (omega (arith, nothing, h.0.0))

    read_some : (x : List ℕ) (n : ℕ) → n ≢ 0 → IsLeastOrNone (HitsIn (reading rule ∷ []) 0 1 Allow Read x) n → Takes (pattern rule) x
    read_some x n some (inl h) = absurd (some h.0)
    read_some x n some (inr h) = taken x n h.0.2

    least_where_read : (x : List ℕ) (r : Record) → IsLeastIn (reading rule ∷ []) 0 1 x r →
        IsLeastIn rules before (before + 1) x (where_read hits r)
    least_where_read x r h = ⊎_elim
        (λ yes. subst (IsLeastIn rules before (before + 1) x) (sym (ap (λ b. if b then no_hits else hits) yes))
        (least_none x (read_none x (hits_of r Read).allow (eqb-true (hits_of r Read).allow 0 yes) (h Read).0)))
        (λ no. subst (IsLeastIn rules before (before + 1) x) (sym (ap (λ b. if b then no_hits else hits) no))
        (least_alone x (read_some x (hits_of r Read).allow (eqb-false (hits_of r Read).allow 0 no) (h Read).0)))
        (cases_Bool ((hits_of r Read).allow == 0))

    none_where_read : where_read hits no_hits ≡ no_hits
    none_where_read = ap (λ (z : LeastHits). if z.allow == 0 then no_hits else hits) (none_of Read)

    module _ (a b : Automaton) (is : IsAutomatonOfPart (reading rule ∷ []) 0 1 a) (made_so : IsWithHits hits a b) where
      goes_same : (s : ℕ) (x : List ℕ) → s < length a.rows → are_bytes x → goes_to b s x ≡ goes_to a s x
      goes_same s [] lt small = refl
      goes_same s (c ∷ x) lt small =
          let one : c < 256 = All-head (λ d. d < 256) c x small in
          ap (λ z. goes_to b z x) (made_so.targets s c lt one)
          ∙ goes_same (target a s c) x (is.whole.targets s c lt one) (All-tail (λ d. d < 256) c x small)

      after_same : (x : List ℕ) → are_bytes x → state_after b x ≡ state_after a x
      after_same x small = ap (λ z. goes_to b z x) made_so.start ∙ goes_same a.start x is.whole.start_there small

      pub leaf_part : IsAutomatonOfPart rules before (before + 1) b
      leaf_part = record {
        whole = made_so.whole;
        least = λ x small.
            let w = is.least x small in (
              where_read hits w.0,
              made_so.records (state_after b x) w.0 (ap (slice_get a.records) (after_same x small) ∙ w.1),
              least_where_read x w.0 w.2,
            );
        one_each = λ x y one two. (
          λ e. same_up x y ((is.one_each x y one two).0 (sym (after_same x one) ∙ e ∙ after_same y two)),
          λ same. after_same x one ∙ (is.one_each x y one two).1 (same_of_part (reading rule ∷ []) 0 1 x y (same_down x y same))
              ∙ sym (after_same y two),
        );
        dead = λ x small. (
          λ e. none_up x ((is.dead x small).0 (sym (after_same x small) ∙ e)),
          λ none. after_same x small ∙ (is.dead x small).1 (none_of_part (reading rule ∷ []) 0 1 x (none_down x none)),
        );
        hits_nothing = made_so.records 0 no_hits is.hits_nothing ∙ ap Some none_where_read;
        met = λ s some lt.
            let w = is.met s some (omega (arith, lt, made_so.each_row)) in
            (w.0, w.1, after_same w.0 w.1 ∙ w.2);
      }
