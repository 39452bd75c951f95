-- A part's sets are no more than those of all rules, and the part that is the whole has all of them.
use Rattle.std.proofs.Common.{◌≡◌, ◌≢◌, inl, inr, ⊎_elim, ◌↔◌, ℕ, zero, suc, ◌+◌, ◌-◌, ◌<◌, ◌≤◌, List, [], length, Some, slice_get}
use Rattle.std.proofs.Common.{slice_index_or, sym, ap, ◌∙◌, arith}
use Rattle.std.proofs.lemmas.Option.{slice_get-get_or}
use Rattle.names.specs.Bytes.{are_bytes}
use Rattle.names.specs.declared.permissions.Permission.{Permission}
use Rattle.rule_globs.specs.Verdict.{Hits}
use Rattle.rule_profile.specs.Profile.{RuleValue}
use Rattle.names.specs.declared.kind.RuleKind.{RuleKind}
use Rattle.names.specs.declared.kind.RuleKind.TheVariants.{Allow, Deny}
use Rattle.names.specs.Least.{IsLeastOrNone, hits_of}
use Rattle.automaton_rows.specs.declared.fault.CompileFault.{CompileFault}
use Rattle.automaton_rows.specs.declared.fault.CompileFault.TheVariants.{TooManyStates, NoMemory}
use Rattle.automaton_rows.specs.Automata.{Automaton, state_after}
use Rattle.glob_automaton.specs.Automata.{IsAutomatonOf, IsCompileFault}
use Rattle.glob_automaton.specs.Sets.{SameSet, NoneLive, AreDifferent, AreMoreThan, IsPrefixOfName}
use Rattle.glob_automaton.proofs.SetCounts.{few_values}
use Rattle.glob_automaton.proofs.LiveByParts.{LeftFirst}
use Rattle.glob_automaton.proofs.LiveNumbers.{LiveAfterByte}
use Rattle.automaton_products.specs.declared.pairs.Pair.{Pair}
use Rattle.automaton_products.specs.Products.{pair, dead_pair, ArePairs, IsProductFault}
use Rattle.automaton_products.specs.laws.PairLaws.{after_there}
use Rattle.glob_automaton.specs.Parts.{SameIn, NoneIn, HitsIn, AreMoreThanIn, IsAutomatonOfPart, BeginWithSlashes}
use Rattle.glob_automaton.proofs.Prefixes.{collected, all_of, prefix_bytes, prefix_or_none}
use Rattle.glob_automaton.proofs.SideBySide.{same_first, same_second, none_first, none_second}

-- ---- what is so of all rules is so of a part, and of the part that is the whole nothing else is so

pub same_of_part : (rules : List RuleValue) (first last : ℕ) (x y : List ℕ) → SameSet rules x y → SameIn rules first last x y
same_of_part rules first last x y same n p low high = same n p

pub none_of_part : (rules : List RuleValue) (first last : ℕ) (x : List ℕ) → NoneLive rules x → NoneIn rules first last x
none_of_part rules first last x none n p low high = none n p

pub same_of_whole : (rules : List RuleValue) (x y : List ℕ) → SameIn rules 0 (length rules) x y → SameSet rules x y
same_of_whole rules x y same n p = (
  λ live. (same n p (omega (arith, live.1.0)) live.1.1).0 live,
  λ live. (same n p (omega (arith, live.1.0)) live.1.1).1 live,
)

pub none_of_whole : (rules : List RuleValue) (x : List ℕ) → NoneIn rules 0 (length rules) x → NoneLive rules x
none_of_whole rules x none n p live = none n p (omega (arith, live.1.0)) live.1.1 live

pub no_more_sets : (rules : List RuleValue) (first last n : ℕ) → AreMoreThanIn rules first last n → AreMoreThan n rules
no_more_sets rules first last n h = (
  h.0,
  record {
    prefixes_of_names = h.1.prefixes_of_names;
    some_live = λ k d lt none. h.1.some_live k d lt (none_of_part rules first last (slice_index_or h.0 k d) none);
    different = λ i j lt within same. h.1.different i j lt within (same_of_part rules first last (slice_index_or h.0 i [])
        (slice_index_or h.0 j []) same);
  },
  h.2,
)

module _ (after : LiveAfterByte) (by_steps : LeftFirst) (rules : List RuleValue) (slashes : BeginWithSlashes rules) where
  -- too many pairs are too many sets
  pub too_many : (first middle last : ℕ) (a b : Automaton) (fault : CompileFault) → first ≤ middle → middle ≤ last →
      IsAutomatonOfPart rules first middle a → IsAutomatonOfPart rules middle last b → IsProductFault a b fault →
      IsCompileFault rules fault
  too_many first middle last a b TooManyStates low high one other h =
      let pairs : List Pair = h.0 in
      let are : ArePairs a b pairs = h.1 in
      let P : ℕ → List ℕ → Type 0 = λ i x. are_bytes x × (slice_get pairs i ≡ Some (pair (state_after a x) (state_after b x))) in
      let w = collected P 1 (length pairs - 1) (λ i le lt.
      let p : Pair = slice_index_or pairs i dead_pair in
      let at : slice_get pairs i ≡ Some p = slice_get-get_or pairs i dead_pair (omega (arith, lt, le)) in
      let met = are.met i p (omega (arith, le)) at in
      (met.0, (met.1, at ∙ ap Some met.2))) in
      let live : (i : ℕ) → i < length pairs - 1 → ¬ (NoneIn rules first last (slice_index_or w.0 i [])) = λ i lt none.
      let x : List ℕ = slice_index_or w.0 i [] in
      let left : state_after a x ≡ 0 = (one.dead x (w.2 i lt).0).1 (none_first rules first middle last x high none) in
      let right : state_after b x ≡ 0 = (other.dead x (w.2 i lt).0).1 (none_second rules first middle last x low none) in
      are.distinct 0 (1 + i) dead_pair (omega arith) are.dead
      ((w.2 i lt).1 ∙ ap (λ z. Some (pair z (state_after b x))) left ∙ ap (λ z. Some (pair 0 z)) right) in (
        w.0,
        record {
          prefixes_of_names = all_of IsPrefixOfName w.0 (λ k lt. ⊎_elim
              (λ name. name)
              (λ none. absurd (live k (omega (arith, lt, w.1)) (none_of_part rules first last (slice_index_or w.0 k []) none)))
              (prefix_or_none after by_steps rules slashes (slice_index_or w.0 k []) (w.2 k (omega (arith, lt, w.1))).0));
          some_live = all_of (λ x. ¬ (NoneLive rules x)) w.0
              (λ k lt none. live k (omega (arith, lt, w.1)) (none_of_part rules first last (slice_index_or w.0 k []) none));
          different = λ i j lt within same.
              let x : List ℕ = slice_index_or w.0 i [] in
              let y : List ℕ = slice_index_or w.0 j [] in
              let near : i < length pairs - 1 = omega (arith, lt, within, w.1) in
              let far : j < length pairs - 1 = omega (arith, within, w.1) in
              let part : SameIn rules first last x y = same_of_part rules first last x y same in
              let left : state_after a x ≡ state_after a y = (one.one_each x y (w.2 i near).0 (w.2 j far).0).1
              (same_first rules first middle last x y high part) in
              let right : state_after b x ≡ state_after b y = (other.one_each x y (w.2 i near).0 (w.2 j far).0).1
              (same_second rules first middle last x y low part) in
              are.distinct (1 + i) (1 + j) (pair (state_after a y) (state_after b y)) (omega (arith, lt))
              ((w.2 i near).1 ∙ ap (λ z. Some (pair z (state_after b x))) left ∙ ap (λ z. Some (pair (state_after a y) z)) right)
              (w.2 j far).1;
        },
        omega (arith, w.1, h.2),
      )
  too_many first middle last a b NoMemory low high one other h = tt

  module _ (a : Automaton) (is : IsAutomatonOfPart rules 0 (length rules) a) where
    state_same : (x y : List ℕ) → are_bytes x → are_bytes y → (state_after a x ≡ state_after a y) ↔ SameSet rules x y
    state_same x y one two = (
      λ e. same_of_whole rules x y ((is.one_each x y one two).0 e),
      λ same. (is.one_each x y one two).1 (same_of_part rules 0 (length rules) x y same),
    )

    state_dead : (x : List ℕ) → are_bytes x → (state_after a x ≡ 0) ↔ NoneLive rules x
    state_dead x small = (
      λ e. none_of_whole rules x ((is.dead x small).0 e),
      λ none. (is.dead x small).1 (none_of_part rules 0 (length rules) x none),
    )

    least_whole : (kind : RuleKind) (p : Permission) (x : List ℕ) (n : ℕ) → IsLeastOrNone (HitsIn rules 0 (length rules) kind p x) n →
        IsLeastOrNone (Hits rules kind p x) n
    least_whole kind p x n (inl h) = inl (h.0, λ m hit. h.1 m (omega (arith, hit.1.0), hit.1.1, hit))
    least_whole kind p x n (inr h) = inr (h.0.2, λ m hit. h.1 m (omega (arith, hit.1.0), hit.1.1, hit))

    -- the dead state, and then the states of the prefixes
    state_of : List (List ℕ) → ℕ → ℕ
    state_of prefixes zero = 0
    state_of prefixes (suc i) = state_after a (slice_index_or prefixes i [])

    few_prefixes : (prefixes : List (List ℕ)) → AreDifferent rules prefixes → length prefixes + 1 ≤ length a.rows
    unfolding state_of
    few_prefixes prefixes h = few_values (state_of prefixes) (length prefixes + 1) (length a.rows) differ below
      where
        small : (i : ℕ) → i < length prefixes → are_bytes (slice_index_or prefixes i [])
        small i lt = prefix_bytes (slice_index_or prefixes i []) (h.prefixes_of_names i [] lt)

        differ : (i j : ℕ) → i < j → j < length prefixes + 1 → state_of prefixes i ≢ state_of prefixes j
        differ i zero lt within e = omega (arith, lt)
        differ zero (suc j) lt within e =
            let inside : j < length prefixes = omega (arith, within) in
            h.some_live j [] inside ((state_dead (slice_index_or prefixes j []) (small j inside)).0 (sym e))
        differ (suc i) (suc j) lt within e =
            let inside : j < length prefixes = omega (arith, within) in
            let low : i < j = omega (arith, lt) in
            h.different i j low inside
            ((state_same (slice_index_or prefixes i []) (slice_index_or prefixes j []) (small i (omega (arith, low, inside)))
            (small j inside)).0 e)

        below : (i : ℕ) → i < length prefixes + 1 → state_of prefixes i < length a.rows
        below zero lt = let there = is.whole.start_there in omega (arith, there)
        below (suc i) lt = after_there a (slice_index_or prefixes i []) is.whole (small i (omega (arith, lt)))

    each_met : (prefixes : List (List ℕ)) × AreDifferent rules prefixes × (length prefixes + 1 ≡ length a.rows)
    each_met =
        let w = collected (λ s x. are_bytes x × (state_after a x ≡ s)) 1 (length a.rows - 1)
        (λ s le lt. let m = is.met s (omega (arith, le)) (omega (arith, lt, le)) in (m.0, (m.1, m.2))) in
        let live : (i : ℕ) → i < length a.rows - 1 → ¬ (NoneLive rules (slice_index_or w.0 i [])) = λ i lt none.
        let e : 1 + i ≡ 0 = sym (w.2 i lt).1 ∙ (state_dead (slice_index_or w.0 i []) (w.2 i lt).0).1 none in omega (arith, e) in
        let some = is.whole.start_there in (
          w.0,
          record {
            prefixes_of_names = all_of IsPrefixOfName w.0 (λ k lt. ⊎_elim
                (λ name. name)
                (λ none. absurd (live k (omega (arith, lt, w.1)) none))
                (prefix_or_none after by_steps rules slashes (slice_index_or w.0 k []) (w.2 k (omega (arith, lt, w.1))).0));
            some_live = all_of (λ x. ¬ (NoneLive rules x)) w.0 (λ k lt none. live k (omega (arith, lt, w.1)) none);
            different = λ i j lt within same.
                let near : i < length a.rows - 1 = omega (arith, lt, within, w.1) in
                let far : j < length a.rows - 1 = omega (arith, within, w.1) in
                let e : 1 + i ≡ 1 + j = sym (w.2 i near).1
                ∙ (state_same (slice_index_or w.0 i []) (slice_index_or w.0 j []) (w.2 i near).0 (w.2 j far).0).1 same ∙ (w.2 j far).1 in
                omega (arith, e, lt);
          },
          omega (arith, w.1, some),
        )

    pub whole_part : IsAutomatonOf rules a
    whole_part = record {
      whole = is.whole;
      least = λ x small.
          let r = is.least x small in
          (r.0, r.1, λ p. (least_whole Allow p x (hits_of r.0 p).allow (r.2 p).0, least_whole Deny p x (hits_of r.0 p).deny (r.2 p).1));
      one_each = state_same;
      dead = state_dead;
      hits_nothing = is.hits_nothing;
      count = (few_prefixes, each_met);
    }
