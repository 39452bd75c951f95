-- Where no byte leads to a new set, each prefix of a name has a set that is counted.
use Rattle.std.proofs.Common.{ℕ, suc, ◌<◌, inl, inr, ⊎_elim, List, [], ◌∷◌, ◌++◌, slice_index_or, All, append_assoc, append-nil, sym}
use Rattle.std.proofs.Common.{subst, arith}
use Rattle.std.proofs.lemmas.List.Elements.{All-head, All-tail}
use Rattle.rule_profile.specs.Profile.{RuleValue}
use Rattle.glob_automaton.specs.Sets.{SameSet, IsPrefixOfName, AreDifferent}
use Rattle.glob_automaton.proofs.LiveByParts.{LeftFirst}
use Rattle.glob_automaton.proofs.LiveNumbers.{LiveAfterByte}
use Rattle.glob_automaton.proofs.LiveTests.{TakesByCuts}
use Rattle.glob_automaton.proofs.NewSets.{IsCounted, AreClosed, one_more, counted_or_new}
use Rattle.glob_automaton.proofs.SetsGoOn.{same_back, same_through, same_none, same_goes_on, none_goes_on}

-- each prefix of a name is counted
abbrev pub AreAll : List RuleValue → List (List ℕ) → Type 0
AreAll rules prefixes = (x : List ℕ) → IsPrefixOfName x → IsCounted rules prefixes x

-- what is counted is so with one more prefix
counted_more : (rules : List RuleValue) (prefixes : List (List ℕ)) (x y : List ℕ) → IsCounted rules prefixes y →
    IsCounted rules (x ∷ prefixes) y
counted_more rules prefixes x y (inl h) = inl h
counted_more rules prefixes x y (inr h) = inr (suc h.0, omega (arith, h.1), h.2)

module _ (after : LiveAfterByte) (by_steps : LeftFirst) (rules : List RuleValue) (prefixes : List (List ℕ))
    (closed : AreClosed rules prefixes) where
  -- what follows a counted set by one byte is counted
  counted_on : (x : List ℕ) (b : ℕ) → 0 < b → b < 256 → IsCounted rules prefixes x → IsCounted rules prefixes (x ++ b ∷ [])
  counted_on x b above below (inl empty) = inl (none_goes_on after by_steps rules x b empty)
  counted_on x b above below (inr met) =
      let y : List ℕ = slice_index_or prefixes met.0 [] in
      let same : SameSet rules (x ++ b ∷ []) (y ++ b ∷ []) = same_goes_on after by_steps rules x y b met.2 in
      ⊎_elim
      (λ empty. inl (same_none rules (y ++ b ∷ []) (x ++ b ∷ []) (same_back rules (x ++ b ∷ []) (y ++ b ∷ []) same) empty))
      (λ t. inr (t.0, t.1, same_through rules (x ++ b ∷ []) (y ++ b ∷ []) (slice_index_or prefixes t.0 []) same t.2))
      (closed.goes_on met.0 met.1 b below above)

  counted_behind : (x bytes : List ℕ) → All (λ c. (0 < c) × (c < 256)) bytes → IsCounted rules prefixes x →
      IsCounted rules prefixes (x ++ bytes)
  counted_behind x [] all h = subst (IsCounted rules prefixes) (sym (append-nil x)) h
  counted_behind x (b ∷ bytes) all h =
      let here : (0 < b) × (b < 256) = All-head (λ c. (0 < c) × (c < 256)) b bytes all in
      let others = All-tail (λ c. (0 < c) × (c < 256)) b bytes all in
      subst (IsCounted rules prefixes) (append_assoc x (b ∷ []) bytes)
      (counted_behind (x ++ b ∷ []) bytes others (counted_on x b here.0 here.1 h))

  counted_some : (b : ℕ) (bytes : List ℕ) → IsPrefixOfName (b ∷ bytes) → IsCounted rules prefixes (b ∷ bytes)
  counted_some b bytes h = subst (λ z. IsCounted rules prefixes (z ∷ bytes)) (sym h.0) (counted_behind (47 ∷ []) bytes h.1 closed.begins)

  -- The prefix without bytes comes last. Its set may be one that is counted already.
  pub all_counted : TakesByCuts → AreDifferent rules prefixes → (all : List (List ℕ)) × AreDifferent rules all × AreAll rules all
  all_counted by_cuts h = ⊎_elim
      (λ t. (prefixes, h, each t))
      (λ t. ([] ∷ prefixes, one_more rules prefixes [] h tt t, each_more))
      (counted_or_new by_cuts by_steps rules prefixes [])
    where
      each : IsCounted rules prefixes [] → AreAll rules prefixes
      each t [] name = t
      each t (b ∷ bytes) name = counted_some b bytes name

      each_more : AreAll rules ([] ∷ prefixes)
      each_more [] name = inr (0, omega arith, λ n p. (λ t. t, λ t. t))
      each_more (b ∷ bytes) name = counted_more rules prefixes [] (b ∷ bytes) (counted_some b bytes name)
