-- Same sets, and how they go on: what is live after one more byte is given by the set before it.
use Rattle.std.proofs.Common.{◌≡◌, ℕ, List, [], ◌∷◌, ◌++◌, subst}
use Rattle.rule_globs.specs.Glob.{Glob, LiveOrEnd}
use Rattle.rule_profile.specs.Profile.{RuleValue, pattern}
use Rattle.glob_automaton.specs.Sets.{SameSet, NoneLive}
use Rattle.glob_automaton.proofs.LiveByParts.{LeftFirst, IsLiveByParts, SameByParts, NoneByParts, same_by_parts, none_by_parts}
use Rattle.glob_automaton.proofs.LiveNumbers.{LiveAfterByte}
use Rattle.glob_automaton.proofs.LiveTests.{one_of_number}
use Rattle.glob_automaton.proofs.PatternPlaces.{live_within}

pub same_back : (rules : List RuleValue) (x y : List ℕ) → SameSet rules x y → SameSet rules y x
same_back rules x y h n p = ((h n p).1, (h n p).0)

pub same_through : (rules : List RuleValue) (x y z : List ℕ) → SameSet rules x y → SameSet rules y z → SameSet rules x z
same_through rules x y z h k n p = (λ t. (k n p).0 ((h n p).0 t), λ t. (h n p).1 ((k n p).1 t))

pub same_none : (rules : List RuleValue) (x y : List ℕ) → SameSet rules x y → NoneLive rules x → NoneLive rules y
same_none rules x y h empty n p live = empty n p ((h n p).1 live)

module _ (after : LiveAfterByte) (rules : List RuleValue) where
  -- where all that is live after the one is live after the other, it is so after one more byte
  goes_along : (x y : List ℕ) (b : ℕ) → ((n p : ℕ) → IsLiveByParts rules x n p → IsLiveByParts rules y n p) →
      (n p : ℕ) → IsLiveByParts rules (x ++ b ∷ []) n p → IsLiveByParts rules (y ++ b ∷ []) n p
  goes_along x y b go n p h =
      let g : Glob = pattern h.0 in
      let le = live_within g (x ++ b ∷ []) p h.2 in
      let w = (after g 0 p x b le).0 h.2 in
      let m = go n w.0 (h.0, h.1, w.2) in
      let same : m.0 ≡ h.0 = one_of_number rules n m.0 h.0 m.1 h.1 in
      (h.0, h.1, (after g 0 p y b le).1 (w.0, w.1, subst (λ (z : RuleValue). LiveOrEnd (pattern z) y w.0) same m.2, w.3, w.4))

  -- so the same places stay live
  same_on : (x y : List ℕ) (b : ℕ) → SameByParts rules x y → SameByParts rules (x ++ b ∷ []) (y ++ b ∷ [])
  same_on x y b same n p = (goes_along x y b (λ m q. (same m q).0) n p, goes_along y x b (λ m q. (same m q).1) n p)

  -- where nothing is live, nothing is so after one more byte
  none_on : (x : List ℕ) (b : ℕ) → NoneByParts rules x → NoneByParts rules (x ++ b ∷ [])
  none_on x b empty n p h =
      let w = (after (pattern h.0) 0 p x b (live_within (pattern h.0) (x ++ b ∷ []) p h.2)).0 h.2 in
      empty n w.0 (h.0, h.1, w.2)

module _ (after : LiveAfterByte) (by_steps : LeftFirst) (rules : List RuleValue) where
  pub same_goes_on : (x y : List ℕ) (b : ℕ) → SameSet rules x y → SameSet rules (x ++ b ∷ []) (y ++ b ∷ [])
  same_goes_on x y b same =
      (same_by_parts by_steps rules (x ++ b ∷ []) (y ++ b ∷ [])).0 (same_on after rules x y b ((same_by_parts by_steps rules x y).1 same))

  pub none_goes_on : (x : List ℕ) (b : ℕ) → NoneLive rules x → NoneLive rules (x ++ b ∷ [])
  none_goes_on x b empty =
      (none_by_parts by_steps rules (x ++ b ∷ [])).0 (none_on after rules x b ((none_by_parts by_steps rules x).1 empty))
