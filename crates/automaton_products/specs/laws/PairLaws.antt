-- Pairs that are met, and how they go on.
use Rattle.std.proofs.Common.{◌≡◌, inl, inr, ⊎_elim, ℕ, zero, suc, ◌<◌, List, [], ◌∷◌, ◌++◌, length, Some, slice_get}
use Rattle.std.proofs.Common.{append-nil, append_assoc, refl, sym, ap, ◌∙◌, subst, arith}
use Rattle.std.proofs.lemmas.List.{length-append}
use Rattle.std.proofs.lemmas.List.Elements.{All-nil, All-push, All-head, All-tail}
use Rattle.std.proofs.lemmas.Option.{none-some, same_Some, slice_get_within}
use Rattle.names.specs.Bytes.{are_bytes}
use Rattle.automaton_rows.specs.declared.fault.CompileFault.{CompileFault}
use Rattle.automaton_rows.specs.declared.fault.CompileFault.TheVariants.{TooManyStates, NoMemory}
use Rattle.automaton_rows.specs.Automata.{Automaton, IsWhole, target, goes_to, state_after}
use Rattle.automaton_products.specs.declared.pairs.Pair.{Pair}
use Rattle.automaton_products.specs.Numbers.{AreDistinct, IsNumbered, IsNumberFault}
use Rattle.automaton_products.specs.Products.{pair, dead_pair, start_pair, next_pair, IsMet, IsReached, ArePairs, AreFewPairs, Keeps}
use Rattle.automaton_products.specs.Products.{IsProductFault}
use Rattle.automaton_products.specs.laws.PairNumbers.{get_stays, get_either, distinct_more}

-- ---- states after bytes

pub goes_one_more : (a : Automaton) (s : ℕ) (bytes : List ℕ) (b : ℕ) → goes_to a s (bytes ++ b ∷ []) ≡ target a (goes_to a s bytes) b
goes_one_more a s [] b = refl
goes_one_more a s (c ∷ bytes) b = goes_one_more a (target a s c) bytes b

pub goes_there : (a : Automaton) (s : ℕ) (bytes : List ℕ) → IsWhole a → s < length a.rows → are_bytes bytes →
    goes_to a s bytes < length a.rows
goes_there a s [] whole lt small = lt
goes_there a s (b ∷ bytes) whole lt small =
    goes_there a (target a s b) bytes whole (whole.targets s b lt (All-head (λ c. c < 256) b bytes small))
    (All-tail (λ c. c < 256) b bytes small)

pub after_there : (a : Automaton) (bytes : List ℕ) → IsWhole a → are_bytes bytes → state_after a bytes < length a.rows
after_there a bytes whole small = goes_there a a.start bytes whole whole.start_there small

-- ---- pairs

module _ (a b : Automaton) (one : IsWhole a) (other : IsWhole b) where
  pub met_within : (p : Pair) → IsMet a b p → (p.one < length a.rows) × (p.other < length b.rows)
  met_within p h = (
    subst (λ (z : Pair). z.one < length a.rows) (sym h.2) (after_there a h.0 one h.1),
    subst (λ (z : Pair). z.other < length b.rows) (sym h.2) (after_there b h.0 other h.1),
  )

  some_state : (c : Automaton) → IsWhole c → 0 < length c.rows
  some_state c whole = omega (arith, whole.start_there)

  pub reached_within : (p : Pair) → IsReached a b p → (p.one < length a.rows) × (p.other < length b.rows)
  reached_within p (inl e) = (
    subst (λ (z : Pair). z.one < length a.rows) (sym e) (some_state a one),
    subst (λ (z : Pair). z.other < length b.rows) (sym e) (some_state b other),
  )
  reached_within p (inr h) = met_within p h

  met_next : (p : Pair) (c : ℕ) → IsMet a b p → c < 256 → IsMet a b (next_pair a b p c)
  met_next p c h small = (
    h.0 ++ c ∷ [],
    All-push (λ d. d < 256) h.0 c h.1 small,
    ap (λ (z : Pair). next_pair a b z c) h.2
        ∙ ap (λ z. pair z (target b (state_after b h.0) c)) (sym (goes_one_more a a.start h.0 c))
        ∙ ap (λ z. pair (state_after a (h.0 ++ c ∷ [])) z) (sym (goes_one_more b b.start h.0 c)),
  )

  pub dead_next : (c : ℕ) → c < 256 → next_pair a b dead_pair c ≡ dead_pair
  dead_next c small = ap (λ z. pair z (target b 0 c)) (one.stays_dead c small) ∙ ap (λ z. pair 0 z) (other.stays_dead c small)

  pub reached_next : (p : Pair) (c : ℕ) → IsReached a b p → c < 256 → IsReached a b (next_pair a b p c)
  reached_next p c (inl e) small = inl (ap (λ (z : Pair). next_pair a b z c) e ∙ dead_next c small)
  reached_next p c (inr h) small = inr (met_next p c h small)

module _ (a b : Automaton) where
  pub start_met : IsMet a b (start_pair a b)
  start_met = ([], All-nil (λ c. c < 256), refl)

  pub pair_reached : (pairs : List Pair) (i : ℕ) (p : Pair) → ArePairs a b pairs → slice_get pairs i ≡ Some p → IsReached a b p
  pair_reached pairs zero p are at = inl (same_Some p dead_pair (sym at ∙ are.dead))
  pair_reached pairs (suc i) p are at = inr (are.met (suc i) p (omega arith) at)

  -- one more pair that is met
  pub more_pairs : (old new : List Pair) (p : Pair) (n : ℕ) → AreFewPairs a b old → IsMet a b p → IsNumbered old new p n →
      AreFewPairs a b new × Keeps old new
  more_pairs old new p n are met is = ⊎_elim
      (λ e. (subst (AreFewPairs a b) (sym e) are, ([], e ∙ sym (append-nil old))))
      (λ e. (
        (
          subst (ArePairs a b) (sym e) (record {
            dead = get_stays old (p ∷ []) 0 dead_pair are.0.dead;
            distinct = subst AreDistinct e is.distinct;
            met = λ i q some at. ⊎_elim
                (λ h. are.0.met i q some h)
                (λ h. subst (IsMet a b) h.1 met)
                (get_either old p q i at);
          }),
          is.few,
        ),
        (p ∷ [], e),
      ))
      is.grows

  pub pair_fault : (old : List Pair) (p : Pair) (fault : CompileFault) → ArePairs a b old → IsMet a b p → IsNumberFault old p fault →
      IsProductFault a b fault
  pair_fault old p TooManyStates are met is = (
    old ++ p ∷ [],
    record {
      dead = get_stays old (p ∷ []) 0 dead_pair are.dead;
      distinct = distinct_more old p is.1 is.2;
      met = λ i q some at. ⊎_elim
          (λ h. are.met i q some h)
          (λ h. subst (IsMet a b) h.1 met)
          (get_either old p q i at);
    },
    omega (arith, is.0, length-append old (p ∷ [])),
  )
  pair_fault old p NoMemory are met is = tt

  -- the dead pair alone
  pub dead_alone : (old new : List Pair) (n : ℕ) → length old ≡ 0 → IsNumbered old new dead_pair n → AreFewPairs a b new × (length new ≡ 1)
  dead_alone [] new n e is = ⊎_elim
      (λ same. absurd (none-some dead_pair (sym (ap (λ z. slice_get z n) same) ∙ is.at)))
      (λ more. (
        (
          record {
            dead = ap (λ z. slice_get z 0) more;
            distinct = is.distinct;
            met = λ i q some at. absurd (omega (arith, some, slice_get_within new i q at, ap length more));
          },
          is.few,
        ),
        ap length more,
      ))
      is.grows
  dead_alone (p ∷ old) new n e is = absurd (omega (arith, e))

pub kept_through : (one two three : List Pair) → Keeps one two → Keeps two three → Keeps one three
kept_through one two three h k = (h.0 ++ k.0, k.1 ∙ ap (λ z. z ++ k.0) h.1 ∙ append_assoc one h.0 k.0)

pub kept_itself : (pairs : List Pair) → Keeps pairs pairs
kept_itself pairs = ([], sym (append-nil pairs))

pub kept_at : (old new : List Pair) (i : ℕ) (p : Pair) → Keeps old new → slice_get old i ≡ Some p → slice_get new i ≡ Some p
kept_at old new i p kept at = ap (λ z. slice_get z i) kept.1 ∙ get_stays old kept.0 i p at

pub met_unless_dead : (a b : Automaton) (p : Pair) → IsReached a b p → ¬ (p ≡ dead_pair) → IsMet a b p
met_unless_dead a b p (inl e) other = absurd (other e)
met_unless_dead a b p (inr h) other = h
