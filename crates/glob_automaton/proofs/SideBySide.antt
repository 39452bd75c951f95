-- The product of the automata of rules side by side.
use Rattle.std.proofs.Common.{◌≡◌, ⊎_elim, ◌↔◌, ℕ, ◌<◌, ◌≤◌, List, [], ◌∷◌, Some, slice_get, slice_index_or, sym, ap, ◌∙◌, arith}
use Rattle.std.proofs.lemmas.Bool.{cases_lt}
use Rattle.std.proofs.lemmas.List.Elements.{All-head, All-tail}
use Rattle.std.proofs.lemmas.Option.{same_Some, slice_get-get_or}
use Rattle.names.specs.Bytes.{are_bytes}
use Rattle.names.specs.declared.permissions.Permission.{Permission}
use Rattle.rule_profile.specs.Profile.{RuleValue}
use Rattle.names.specs.declared.record.Record.{Record}
use Rattle.names.specs.declared.record.LeastHits.{LeastHits}
use Rattle.names.specs.Least.{hits_of, record_of, no_hit}
use Rattle.names.specs.Hits.{no_hits, first_number}
use Rattle.automaton_rows.specs.Automata.{Automaton, target, goes_to, state_after}
use Rattle.automaton_products.specs.declared.pairs.Pair.{Pair}
use Rattle.automaton_products.specs.Products.{pair, dead_pair, IsProduct, joined}
use Rattle.glob_automaton.specs.Parts.{SameIn, NoneIn, IsAutomatonOfPart}
use Rattle.glob_automaton.proofs.JoinedLeast.{record_joined}

-- what is so of the rules of both parts is so of all
pub same_both : (rules : List RuleValue) (first middle last : ℕ) (x y : List ℕ) → SameIn rules first middle x y →
    SameIn rules middle last x y →
    SameIn rules first last x y
same_both rules first middle last x y one other n p low high = ⊎_elim
    (λ lt. other n p lt high)
    (λ le. one n p low le)
    (cases_lt middle n)

pub same_first : (rules : List RuleValue) (first middle last : ℕ) (x y : List ℕ) → middle ≤ last → SameIn rules first last x y →
    SameIn rules first middle x y
same_first rules first middle last x y le same n p low high = same n p low (omega (arith, high, le))

pub same_second : (rules : List RuleValue) (first middle last : ℕ) (x y : List ℕ) → first ≤ middle → SameIn rules first last x y →
    SameIn rules middle last x y
same_second rules first middle last x y le same n p low high = same n p (omega (arith, low, le)) high

pub none_both : (rules : List RuleValue) (first middle last : ℕ) (x : List ℕ) → NoneIn rules first middle x → NoneIn rules middle last x →
    NoneIn rules first last x
none_both rules first middle last x one other n p low high = ⊎_elim
    (λ lt. other n p lt high)
    (λ le. one n p low le)
    (cases_lt middle n)

pub none_first : (rules : List RuleValue) (first middle last : ℕ) (x : List ℕ) → middle ≤ last → NoneIn rules first last x →
    NoneIn rules first middle x
none_first rules first middle last x le none n p low high = none n p low (omega (arith, high, le))

pub none_second : (rules : List RuleValue) (first middle last : ℕ) (x : List ℕ) → first ≤ middle → NoneIn rules first last x →
    NoneIn rules middle last x
none_second rules first middle last x le none n p low high = none n p (omega (arith, low, le)) high

module _ (a b c : Automaton) (is : IsProduct a b c) where
  abbrev pub pairs : List Pair
  pairs = is.pairs

  -- the state after more bytes is that of the pair that they lead to
  pub followed : (s one other : ℕ) (bytes : List ℕ) → slice_get pairs s ≡ Some (pair one other) → are_bytes bytes →
      slice_get pairs (goes_to c s bytes) ≡ Some (pair (goes_to a one bytes) (goes_to b other bytes))
  followed s one other [] at small = at
  followed s one other (d ∷ bytes) at small =
      followed (target c s d) (target a one d) (target b other d) bytes
      (is.steps s d (pair one other) at (All-head (λ z. z < 256) d bytes small)) (All-tail (λ z. z < 256) d bytes small)

  pub state_pair : (bytes : List ℕ) → are_bytes bytes → slice_get pairs (state_after c bytes)
      ≡ Some (pair (state_after a bytes) (state_after b bytes))
  state_pair bytes small = followed c.start a.start b.start bytes is.starts small

  -- a pair has one number
  pub one_number : (i j : ℕ) (p : Pair) → slice_get pairs i ≡ Some p → slice_get pairs j ≡ Some p → i ≡ j
  one_number i j p one other = ⊎_elim
      (λ lt. absurd (is.are_pairs.distinct i j p lt one other))
      (λ le. ⊎_elim
      (λ lt. absurd (is.are_pairs.distinct j i p lt other one))
      (λ ge. omega (arith, le, ge))
      (cases_lt j i))
      (cases_lt i j)

module _ (made : (hits : Permission → LeastHits) (p : Permission) → hits_of (record_of hits) p ≡ hits p)
    (same_hits : (r s : Record) → ((p : Permission) → hits_of r p ≡ hits_of s p) → r ≡ s)
    (rules : List RuleValue) (first middle last : ℕ) (low : first ≤ middle) (high : middle ≤ last) (a b c : Automaton)
    (one : IsAutomatonOfPart rules first middle a) (other : IsAutomatonOfPart rules middle last b) (is : IsProduct a b c) where
  one_each : (x y : List ℕ) → are_bytes x → are_bytes y → (state_after c x ≡ state_after c y) ↔ SameIn rules first last x y
  one_each x y small_x small_y = (
    λ e.
        let both : pair (state_after a x) (state_after b x) ≡ pair (state_after a y) (state_after b y) =
        same_Some _ _ (sym (state_pair a b c is x small_x) ∙ ap (slice_get is.pairs) e ∙ state_pair a b c is y small_y) in
        same_both rules first middle last x y
        ((one.one_each x y small_x small_y).0 (ap (λ (z : Pair). z.one) both))
        ((other.one_each x y small_x small_y).0 (ap (λ (z : Pair). z.other) both)),
    λ same.
        let left : state_after a x ≡ state_after a y = (one.one_each x y small_x small_y).1
        (same_first rules first middle last x y high same) in
        let right : state_after b x ≡ state_after b y = (other.one_each x y small_x small_y).1
        (same_second rules first middle last x y low same) in
        one_number a b c is (state_after c x) (state_after c y) (pair (state_after a y) (state_after b y))
        (state_pair a b c is x small_x ∙ ap (λ z. Some (pair z (state_after b x))) left ∙ ap (λ z. Some (pair (state_after a y) z)) right)
        (state_pair a b c is y small_y),
  )

  dead : (x : List ℕ) → are_bytes x → (state_after c x ≡ 0) ↔ NoneIn rules first last x
  dead x small = (
    λ e.
        let both : pair (state_after a x) (state_after b x) ≡ dead_pair =
        same_Some _ _ (sym (state_pair a b c is x small) ∙ ap (slice_get is.pairs) e ∙ is.are_pairs.dead) in
        none_both rules first middle last x
        ((one.dead x small).0 (ap (λ (z : Pair). z.one) both))
        ((other.dead x small).0 (ap (λ (z : Pair). z.other) both)),
    λ none.
        let left : state_after a x ≡ 0 = (one.dead x small).1 (none_first rules first middle last x high none) in
        let right : state_after b x ≡ 0 = (other.dead x small).1 (none_second rules first middle last x low none) in
        one_number a b c is (state_after c x) 0 dead_pair
        (state_pair a b c is x small ∙ ap (λ z. Some (pair z (state_after b x))) left ∙ ap (λ z. Some (pair 0 z)) right)
        is.are_pairs.dead,
  )

  -- nothing hits where nothing did
  none_joined : joined no_hits no_hits ≡ no_hits
  none_joined = same_hits (joined no_hits no_hits) no_hits (λ p.
      made (λ q. record {
        allow = first_number (hits_of no_hits q).allow (hits_of no_hits q).allow;
        deny =
            first_number (hits_of no_hits q).deny (hits_of no_hits q).deny;
      }) p
      ∙ ap (λ (h : LeastHits). record { allow = first_number h.allow h.allow; deny = first_number h.deny h.deny }) (made (λ q. no_hit) p)
      ∙ sym (made (λ q. no_hit) p))

  pub product_of_parts : IsAutomatonOfPart rules first last c
  product_of_parts = record {
    whole = is.whole;
    least = λ x small.
        let r = one.least x small in
        let q = other.least x small in (
          joined r.0 q.0,
          is.records (state_after c x) (pair (state_after a x) (state_after b x)) r.0 q.0 (state_pair a b c is x small) r.1 q.1,
          record_joined made rules first middle last low high x r.0 q.0 r.2 q.2,
        );
    one_each = one_each;
    dead = dead;
    hits_nothing = is.records 0 dead_pair no_hits no_hits is.are_pairs.dead one.hits_nothing other.hits_nothing ∙ ap Some none_joined;
    met = λ s some lt.
        let p : Pair = slice_index_or is.pairs s dead_pair in
        let at : slice_get is.pairs s ≡ Some p = slice_get-get_or is.pairs s dead_pair (omega (arith, lt, is.each_row)) in
        let met = is.are_pairs.met s p some at in (
          met.0,
          met.1,
          one_number a b c is (state_after c met.0) s p (state_pair a b c is met.0 met.1 ∙ ap Some (sym met.2)) at,
        );
  }
