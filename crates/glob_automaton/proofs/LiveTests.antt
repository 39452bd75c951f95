-- Which places are live, and whether two sets are the same, can be found out.
use Rattle.std.proofs.Common.{◌≡◌, ℕ, zero, suc, ◌+◌, ◌-◌, ◌<◌, ◌≤◌, ◌↔◌, ◌⊎◌, inl, inr, ⊎_elim, List, [], ◌∷◌, ◌++◌, length, Some}
use Rattle.std.proofs.Common.{slice_get, IsTrue, sym, ap, ◌∙◌, subst, arith}
use Rattle.std.specs.List.{list_all}
use Rattle.std.proofs.lemmas.Bool.{cases_lt}
use Rattle.std.proofs.lemmas.Option.{none-some, same_Some, slice_get_cases}
use Rattle.rule_globs.specs.Glob.{Glob, empty, one, run, cat, none, alt, fits, Takes, places, Live, LiveOrEnd}
use Rattle.rule_globs.specs.PlainVerdict.{takes}
use Rattle.rule_profile.specs.Profile.{RuleValue, pattern}
use Rattle.rule_globs.specs.Verdict.{IsRuleAt}
use Rattle.glob_automaton.specs.Sets.{SameSet, NoneLive}
use Rattle.glob_automaton.proofs.Decisions.{Decided, decided_test, decided_by, decided_both, decided_either, decided_not, decided_same}
use Rattle.glob_automaton.proofs.Decisions.{decided_equal, decided_empty, decided_behind, decided_pairs, decided_cut}
use Rattle.glob_automaton.proofs.LiveByParts.{LeftFirst, IsLiveByParts, SameByParts, NoneByParts, same_by_parts, none_by_parts}
use Rattle.glob_automaton.proofs.PatternPlaces.{live_within}
use Rattle.glob_automaton.proofs.ReachedSets.{at_index}

-- the law of the test of each cut
abbrev pub TakesByCuts : Type 0
TakesByCuts = (pattern : Glob) (bytes : List ℕ) → IsTrue (takes pattern bytes) ↔ Takes pattern bytes

-- two rules with one number are one
pub one_of_number : (rules : List RuleValue) (n : ℕ) (rule other : RuleValue) → IsRuleAt rules n rule →
    IsRuleAt rules n other → rule ≡ other
one_of_number rules n rule other first second = same_Some rule other (sym (at_index rules n rule first) ∙ at_index rules n other second)

-- more than the places of each rule
all_places : List RuleValue → ℕ
all_places [] = 0
all_places (rule ∷ rules) = places (pattern rule) + 1 + all_places rules

places_below : (rules : List RuleValue) (i : ℕ) (rule : RuleValue) → slice_get rules i ≡ Some rule →
    places (pattern rule) < all_places rules
unfolding all_places
places_below [] i rule e = absurd (none-some rule e)
places_below (r ∷ rules) zero rule e =
    let same : places (pattern r) ≡ places (pattern rule) = ap (λ z. places (pattern z)) (same_Some r rule e) in omega (arith, same)
places_below (r ∷ rules) (suc i) rule e = omega (arith, places_below rules i rule e)

live_below_bounds : (rules : List RuleValue) (bytes : List ℕ) (n p : ℕ) → IsLiveByParts rules bytes n p →
    (n < length rules + 1) × (p < all_places rules)
live_below_bounds rules bytes n p h =
    let inside = places_below rules (n - 1) h.0 (at_index rules n h.0 h.1) in
    let own = live_within (pattern h.0) bytes p h.2 in
    (omega (arith, h.1.1), omega (arith, inside, own))

-- the first part takes the front, and the place of the second is live after the rest
abbrev LiveBehind : Glob → Glob → List ℕ → ℕ → Type 0
LiveBehind a b bytes q = (front : List ℕ) × (back : List ℕ) × (bytes ≡ front ++ back) × (Takes a front × Live b back q)

module _ (by_cuts : TakesByCuts) where
  decided_takes : (g : Glob) (bytes : List ℕ) → Decided (Takes g bytes)
  decided_takes g bytes = decided_by (IsTrue (takes g bytes)) (Takes g bytes) (by_cuts g bytes) (decided_test (takes g bytes))

  decided_live : (g : Glob) (bytes : List ℕ) (p : ℕ) → Decided (Live g bytes p)
  decided_live empty bytes p = inr (λ h. h)
  decided_live (one set) bytes p = decided_both (p ≡ 0) (bytes ≡ []) (decided_equal p 0) (decided_empty bytes)
  decided_live (run set) bytes p =
      decided_both (p ≡ 0) (IsTrue (list_all (fits set) bytes)) (decided_equal p 0) (decided_test (list_all (fits set) bytes))
  decided_live (cat a b) bytes p = decided_either (Live a bytes p)
      ((q : ℕ) × (front : List ℕ) × (back : List ℕ) × (p ≡ places a + q) × (bytes ≡ front ++ back) × Takes a front × Live b back q)
      (decided_live a bytes p)
      (decided_by ((q : ℕ) × (p ≡ places a + q) × LiveBehind a b bytes q)
      ((q : ℕ) × (front : List ℕ) × (back : List ℕ) × (p ≡ places a + q) × (bytes ≡ front ++ back) × Takes a front × Live b back q) (
        λ h. (h.0, h.2.0, h.2.1, h.1, h.2.2, h.2.3.0, h.2.3.1),
        λ h. (h.0, h.3, (h.1, h.2, h.4, (h.5, h.6))),
      )
      (decided_behind (places a) p (LiveBehind a b bytes) (λ q. decided_cut (λ front back. Takes a front × Live b back q)
      (λ front back. decided_both (Takes a front) (Live b back q) (decided_takes a front) (decided_live b back q)) bytes)))
  decided_live none bytes p = inr (λ h. h)
  decided_live (alt a b) bytes p = decided_either (Live a bytes p) ((q : ℕ) × (p ≡ places a + q) × Live b bytes q)
      (decided_live a bytes p)
      (decided_behind (places a) p (Live b bytes) (decided_live b bytes))

  decided_live_or_end : (g : Glob) (bytes : List ℕ) (p : ℕ) → Decided (LiveOrEnd g bytes p)
  decided_live_or_end g bytes p = decided_either (Live g bytes p) ((p ≡ places g) × Takes g bytes)
      (decided_live g bytes p)
      (decided_both (p ≡ places g) (Takes g bytes) (decided_equal p (places g)) (decided_takes g bytes))

  -- whether a place of the rule of a number is live
  decided_is_live : (rules : List RuleValue) (bytes : List ℕ) (n p : ℕ) → Decided (IsLiveByParts rules bytes n p)
  decided_is_live rules bytes n p = ⊎_elim
      (λ low. inr (λ h. omega (arith, low, h.1.0)))
      (λ some. ⊎_elim
      (λ t. decided_by (LiveOrEnd (pattern t.0) bytes p) (IsLiveByParts rules bytes n p) (
        λ h. (t.0, (omega (arith, some), omega (arith, some, t.1), sym t.3), h),
        λ h. let e : h.0 ≡ t.0 = same_Some h.0 t.0 (sym (at_index rules n h.0 h.1) ∙ t.2) in
            subst (λ (z : RuleValue). LiveOrEnd (pattern z) bytes p) e h.2,
      )
      (decided_live_or_end (pattern t.0) bytes p))
      (λ past. inr (λ h. omega (arith, past.0, h.1.0, h.1.1)))
      (slice_get_cases rules (n - 1)).1)
      (cases_lt n 1)

  decided_same_parts : (rules : List RuleValue) (x y : List ℕ) → Decided (SameByParts rules x y)
  decided_same_parts rules x y = decided_pairs (λ n p. IsLiveByParts rules x n p ↔ IsLiveByParts rules y n p)
      (length rules + 1) (all_places rules)
      (λ n p. decided_same (IsLiveByParts rules x n p) (IsLiveByParts rules y n p)
      (decided_is_live rules x n p) (decided_is_live rules y n p))
      (λ n p past. (λ h. absurd (beyond x n p past h), λ h. absurd (beyond y n p past h)))
    where
      beyond : (z : List ℕ) (n p : ℕ) → (length rules + 1 ≤ n) ⊎ (all_places rules ≤ p) → ¬ (IsLiveByParts rules z n p)
      beyond z n p (inl past) h = omega (arith, past, (live_below_bounds rules z n p h).0)
      beyond z n p (inr past) h = omega (arith, past, (live_below_bounds rules z n p h).1)

  decided_no_parts : (rules : List RuleValue) (x : List ℕ) → Decided (NoneByParts rules x)
  decided_no_parts rules x = decided_pairs (λ n p. ¬ (IsLiveByParts rules x n p)) (length rules + 1) (all_places rules)
      (λ n p. decided_not (IsLiveByParts rules x n p) (decided_is_live rules x n p))
      (λ n p past h. ⊎_elim
      (λ t. omega (arith, t, (live_below_bounds rules x n p h).0))
      (λ t. omega (arith, t, (live_below_bounds rules x n p h).1)) past)

  module _ (by_steps : LeftFirst) (rules : List RuleValue) where
    pub decided_same_set : (x y : List ℕ) → Decided (SameSet rules x y)
    decided_same_set x y =
        decided_by (SameByParts rules x y) (SameSet rules x y) (same_by_parts by_steps rules x y) (decided_same_parts rules x y)

    pub decided_none : (x : List ℕ) → Decided (NoneLive rules x)
    decided_none x = decided_by (NoneByParts rules x) (NoneLive rules x) (none_by_parts by_steps rules x) (decided_no_parts rules x)
