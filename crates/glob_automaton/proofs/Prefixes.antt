-- Bytes after which something is live are a front part of a name.
use Rattle.std.proofs.Common.{◌≡◌, ◌⊎◌, inl, inr, ⊎_elim, ℕ, zero, suc, ◌+◌, ◌-◌, ◌<◌, ◌≤◌, List, [], ◌∷◌, ◌++◌, length, slice_index_or}
use Rattle.std.proofs.Common.{All, append_assoc, append-nil, refl, sym, ap, subst, arith}
use Rattle.std.proofs.lemmas.Bool.{cases_lt}
use Rattle.std.proofs.lemmas.List.{get_or_default}
use Rattle.std.proofs.lemmas.Bool.Decides.{eqb_tells}
use Rattle.std.proofs.lemmas.List.Elements.{All-nil, All-push, All-head, All-tail}
use Rattle.names.specs.Bytes.{are_bytes}
use Rattle.rule_globs.specs.Glob.{Glob, LiveOrEnd}
use Rattle.rule_profile.specs.Profile.{RuleValue, pattern}
use Rattle.glob_automaton.specs.Sets.{NoneLive, IsPrefixOfName}
use Rattle.glob_automaton.proofs.LiveByParts.{LeftFirst}
use Rattle.glob_automaton.proofs.LiveNumbers.{LiveAfterByte}
use Rattle.glob_automaton.proofs.PatternPlaces.{live_within, takes_within, first_is_slash}
use Rattle.glob_automaton.proofs.ReachedSets.{at_index}
use Rattle.glob_automaton.proofs.SetsGoOn.{none_goes_on}
use Rattle.glob_automaton.specs.Parts.{BeginWithSlashes}

-- a list with something for each number
pub collected : (P : ℕ → List ℕ → Type 0) (from left : ℕ) → ((i : ℕ) → from ≤ i → i < from + left → (x : List ℕ) × P i x) →
    (xs : List (List ℕ)) × (length xs ≡ left) × ((i : ℕ) → i < left → P (from + i) (slice_index_or xs i []))
collected P from zero each = ([], refl, λ i lt. absurd (omega (arith, lt)))
collected P from (suc left) each =
    let one = each from (omega arith) (omega arith) in
    let rest = collected P (from + 1) left (λ i le lt. each i (omega (arith, le)) (omega (arith, lt))) in (
      one.0 ∷ rest.0,
      ap suc rest.1,
      at one.0 rest.0 one.1 rest.2,
    )
  where
    at : (x : List ℕ) (xs : List (List ℕ)) → P from x → ((i : ℕ) → i < left → P (from + 1 + i) (slice_index_or xs i [])) →
        (i : ℕ) → i < suc left → P (from + i) (slice_index_or (x ∷ xs) i [])
    at x xs h hs zero lt = subst (λ z. P z x) (omega arith) h
    at x xs h hs (suc i) lt = subst (λ z. P z (slice_index_or xs i [])) (omega arith) (hs i (omega (arith, lt)))

-- what holds of each element of a list of lists
pub all_of : (P : List ℕ → Type 0) (xs : List (List ℕ)) → ((k : ℕ) → k < length xs → P (slice_index_or xs k [])) → All P xs
all_of P xs h k d lt = subst P (get_or_default xs k [] d lt) (h k lt)

pub prefix_bytes : (bytes : List ℕ) → IsPrefixOfName bytes → are_bytes bytes
prefix_bytes [] h = All-nil (λ c. c < 256)
prefix_bytes (b ∷ bytes) h = λ k d lt. each k d lt
  where
    each : (k d : ℕ) → k < length (b ∷ bytes) → slice_index_or (b ∷ bytes) k d < 256
    each zero d lt = omega (arith, h.0)
    each (suc k) d lt = (h.1 k d (omega (arith, lt))).1

-- one more byte of a name
longer : (x : List ℕ) (b : ℕ) → IsPrefixOfName x → 0 < length x → 0 < b → b < 256 → IsPrefixOfName (x ++ b ∷ [])
longer [] b h some above below = absurd (omega (arith, some))
longer (c ∷ more) b h some above below = (h.0, All-push (λ d. (0 < d) × (d < 256)) more b h.1 (above, below))

longer_some : (x : List ℕ) (b : ℕ) → 0 < length (x ++ b ∷ [])
longer_some [] b = omega arith
longer_some (c ∷ more) b = omega arith

module _ (after : LiveAfterByte) (by_steps : LeftFirst) (rules : List RuleValue) where
  -- nothing is live after a byte 0
  none_after_zero : (x : List ℕ) → NoneLive rules (x ++ 0 ∷ [])
  none_after_zero x n p h =
      let g : Glob = pattern h.0 in
      let live : LiveOrEnd g (x ++ 0 ∷ []) p = (by_steps g (x ++ 0 ∷ []) p).0 h.2 in
      let w = (after g 0 p x 0 (live_within g (x ++ 0 ∷ []) p live)).0 live in
      omega (arith, (takes_within g 1 _ 0 w.3).1)

  none_behind : (x bytes : List ℕ) → NoneLive rules x → NoneLive rules (x ++ bytes)
  none_behind x [] none = subst (NoneLive rules) (sym (append-nil x)) none
  none_behind x (b ∷ bytes) none =
      subst (NoneLive rules) (append_assoc x (b ∷ []) bytes) (none_behind (x ++ b ∷ []) bytes (none_goes_on after by_steps rules x b none))

  goes_on : (x bytes : List ℕ) → IsPrefixOfName x → 0 < length x → are_bytes bytes → IsPrefixOfName (x ++ bytes)
      ⊎ NoneLive rules (x ++ bytes)
  goes_on x [] name some small = inl (subst IsPrefixOfName (sym (append-nil x)) name)
  goes_on x (b ∷ bytes) name some small = ⊎_elim
      (λ e. inr (subst (NoneLive rules) (append_assoc x (b ∷ []) bytes)
      (none_behind (x ++ b ∷ []) bytes (subst (λ z. NoneLive rules (x ++ z ∷ [])) (sym e.1) (none_after_zero x)))))
      (λ other.
      let above : 0 < b = ⊎_elim (λ lt. lt) (λ le. absurd (other.1 (omega (arith, le)))) (cases_lt 0 b) in
      subst (λ z. IsPrefixOfName z ⊎ NoneLive rules z) (append_assoc x (b ∷ []) bytes)
      (goes_on (x ++ b ∷ []) bytes (longer x b name some above (All-head (λ c. c < 256) b bytes small)) (longer_some x b)
      (All-tail (λ c. c < 256) b bytes small)))
      (eqb_tells b 0)

  -- bytes are a front part of a name, or nothing is live after them
  pub prefix_or_none : BeginWithSlashes rules → (bytes : List ℕ) → are_bytes bytes → IsPrefixOfName bytes ⊎ NoneLive rules bytes
  prefix_or_none slashes [] small = inl tt
  prefix_or_none slashes (b ∷ bytes) small = ⊎_elim
      (λ e. subst (λ z. IsPrefixOfName (z ∷ bytes) ⊎ NoneLive rules (z ∷ bytes)) (sym e.1)
      (goes_on (47 ∷ []) bytes (refl, All-nil (λ c. (0 < c) × (c < 256))) (omega arith) (All-tail (λ c. c < 256) b bytes small)))
      (λ other. inr (λ n p h. other.1
      (first_is_slash h.0.items b bytes p (slashes (n - 1) h.0 (at_index rules n h.0 h.1))
      ((by_steps (pattern h.0) (b ∷ bytes) p).0 h.2))))
      (eqb_tells b 47)
