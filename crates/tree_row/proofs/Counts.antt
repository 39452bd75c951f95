-- There are as many entries as used slots: an entry is free iff a slot is.
use Rattle.std.proofs.Common.{◌≡◌, ℕ, zero, suc, ◌+◌, ◌<◌, ◌≤◌, ◌≢◌, ◌||◌, Bool, true, false, List, [], ◌∷◌, length, Some, None, sym, refl}
use Rattle.std.proofs.Common.{ap, ◌∙◌, subst, arith, eqb-true, eq-eqb, ne_eqb}
use Rattle.std.specs.Prelude.{nat_eq, if◌then◌else◌}
use Rattle.std.specs.Cmp.{nat_eq_equiv}
use Rattle.std.specs.List.{IsDistinct, AllByRecursion}
use Rattle.std.specs.Set.{is_member}
use Rattle.std.proofs.lemmas.Map.Made.{length-le_from_is_member}
use mathlib.Core.Logic.{dite}
use native.Mathlib.Decide.{ℕ_discrete}
use Rattle.directory_tree.specs.Tree.{Tree, Entry, Distinct, find, is_at}
use Rattle.std.proofs.lemmas.Option.{none-some, same_Some}
use Rattle.directory_tree.specs.laws.Found.{at_once}
use Rattle.directory_tree.proofs.Walks.{first}
use Rattle.tree_row.specs.Slots.{Slot, entry_at, IsUsed, IsFree}
use Rattle.tree_row.specs.Rows.{EncodesSlots}

true_is_false : true ≡ false → ⊥
true_is_false e = absurd (cc e)

-- what a tail of the entries has, the whole has too
later : (y : Entry) (es : List Entry) (d : ℕ) (c : List ℕ) (e : Entry) → find es y.of y.component ≡ None → find es d c ≡ Some e →
    find (y ∷ es) d c ≡ Some e
later y es d c e none is = elim (is_at d c y) as (λ (b : Bool). is_at d c y ≡ b → (if b then Some y else find es d c) ≡ Some e) [
  | true ↦ λ q. let k = at_once d c y.of y.component q in absurd (none-some e (sym none ∙ (λ i. find es (k.0 i) (k.1 i)) ∙ is))
  | false ↦ λ q. is
] refl

-- the numbers from k down to 1
abbrev down_from : ℕ → List ℕ
down_from zero = []
down_from (suc k) = suc k ∷ down_from k

length-down : (k : ℕ) → length (down_from k) ≡ k
length-down zero = refl
length-down (suc k) = ap suc (length-down k)

in_down : (k q : ℕ) → 0 < q → q ≤ k → is_member nat_eq (down_from k) q ≡ true
in_down zero q low high = absurd (omega arith)
in_down (suc k) q low high = dite (ℕ_discrete q (suc k))
    (λ e. ap (λ (b : Bool). b || is_member nat_eq (down_from k) q) (eq-eqb q (suc k) e))
    (λ other. or_right (nat_eq q (suc k)) _ (in_down k q low (omega arith)))
  where
    or_right : (a b : Bool) → b ≡ true → (a || b) ≡ true
    or_right true b h = refl
    or_right false b h = h

below_down : (k q : ℕ) → is_member nat_eq (down_from k) q ≡ true → (0 < q) × (q ≤ k)
below_down zero q h = absurd (true_is_false (sym h))
below_down (suc k) q h =
    elim (nat_eq q (suc k)) as (λ (b : Bool). nat_eq q (suc k) ≡ b → (b || is_member nat_eq (down_from k) q) ≡ true →
    (0 < q) × (q ≤ suc k)) [
      | true ↦ λ p r. let e = eqb-true q (suc k) p in (omega arith, omega arith)
      | false ↦ λ p r. let b = below_down k q r in let x = b.0 in let y = b.1 in (omega arith, omega arith)
    ] refl h

over_all : (x k : ℕ) → k < x → AllByRecursion (λ y. nat_eq x y ≡ false) (down_from k)
over_all x zero l = tt
over_all x (suc k) l = (ne_eqb x (suc k) (λ e. absurd (omega arith)), over_all x k (omega arith))

distinct_down : (k : ℕ) → IsDistinct nat_eq (down_from k)
unfolding IsDistinct
distinct_down zero = tt
distinct_down (suc k) = (over_all (suc k) k (omega arith), distinct_down k)

module _ (n : ℕ) (f : ℕ → Slot) (t : Tree) (enc : EncodesSlots n f t) where
  abbrev Within : List Entry → Type 0
  Within es = (d : ℕ) (c : List ℕ) (e : Entry) → find es d c ≡ Some e → find t.entries d c ≡ Some e

  own_slot : (e : Entry) (es : List Entry) → Within (e ∷ es) → (s : ℕ) × IsUsed n f s × (entry_at f s ≡ e)
  own_slot e es h = enc.held e.of e.component e (h e.of e.component e (first e es))

  rest_within : (e : Entry) (es : List Entry) → Distinct (e ∷ es) → Within (e ∷ es) → Within es
  rest_within e es apart h d c x is = h d c x (later e es d c x apart.0 is)

  slots_for : (es : List Entry) → Distinct es → Within es → List ℕ
  slots_for [] apart h = []
  slots_for (e ∷ es) apart h = (own_slot e es h).0 ∷ slots_for es apart.1 (rest_within e es apart h)

  length-slots : (es : List Entry) (apart : Distinct es) (h : Within es) → length (slots_for es apart h) ≡ length es
  unfolding slots_for
  length-slots [] apart h = refl
  length-slots (e ∷ es) apart h = ap suc (length-slots es apart.1 (rest_within e es apart h))

  -- a slot of the list is used, and its entry is one of these
  pub record IsSlotOf (es : List Entry) (q : ℕ) : Type 0 where
    pub used : IsUsed n f q
    pub found : find es (entry_at f q).of (entry_at f q).component ≡ Some (entry_at f q)

  all_slots : (es : List Entry) (apart : Distinct es) (h : Within es) (q : ℕ) → is_member nat_eq (slots_for es apart h) q ≡ true →
      IsSlotOf es q
  unfolding slots_for
  all_slots [] apart h q is = absurd (true_is_false (sym is))
  all_slots (e ∷ es) apart h q is =
      let own = own_slot e es h in
      elim (nat_eq q own.0) as (λ (b : Bool). nat_eq q own.0 ≡ b →
      (b || is_member nat_eq (slots_for es apart.1 (rest_within e es apart h)) q) ≡ true → IsSlotOf (e ∷ es) q) [
        | true ↦ λ p r. subst (IsSlotOf (e ∷ es)) (sym (eqb-true q own.0 p)) record {
          used = own.1;
          found =
              subst (λ (z : Entry). find (e ∷ es) z.of z.component ≡ Some z) (sym own.2) (first e es);
        }
        | false ↦ λ p r. let k = all_slots es apart.1 (rest_within e es apart h) q r in
            record { used = k.used; found = later e es _ _ _ apart.0 k.found }
      ] refl is

  every_slot : (es : List Entry) (apart : Distinct es) (h : Within es) (q : ℕ) → IsSlotOf es q →
      is_member nat_eq (slots_for es apart h) q ≡ true
  unfolding slots_for
  every_slot [] apart h q k = absurd (none-some _ k.found)
  every_slot (e ∷ es) apart h q k =
      let own = own_slot e es h in
      let z = entry_at f q in
      elim (is_at z.of z.component e) as (λ (b : Bool). is_at z.of z.component e ≡ b → (if b then Some e else find es z.of z.component)
      ≡ Some z → (nat_eq q own.0 || is_member nat_eq (slots_for es apart.1 (rest_within e es apart h)) q) ≡ true) [
        | true ↦ λ p r. ap (λ (b : Bool). b || is_member nat_eq (slots_for es apart.1 (rest_within e es apart h)) q)
            (eq-eqb q own.0 (enc.once q own.0 k.used own.1 (sym (same_Some e z r) ∙ sym own.2)))
        | false ↦ λ p r. or_right (nat_eq q own.0) _
            (every_slot es apart.1 (rest_within e es apart h) q record { used = k.used; found = r })
      ] refl k.found
    where
      or_right : (a b : Bool) → b ≡ true → (a || b) ≡ true
      or_right true b h = refl
      or_right false b h = h

  not_in : (x : ℕ) (qs : List ℕ) → ((q : ℕ) → is_member nat_eq qs q ≡ true → x ≢ q) → AllByRecursion (λ y. nat_eq x y ≡ false) qs
  not_in x [] h = tt
  not_in x (q ∷ qs) h = (
    ne_eqb x q (h q (ap (λ (b : Bool). b || is_member nat_eq qs q) (eq-eqb q q refl))),
    not_in x qs
        (λ y is. h y (or_right (nat_eq y q) _ is)),
  )
    where
      or_right : (a b : Bool) → b ≡ true → (a || b) ≡ true
      or_right true b h = refl
      or_right false b h = h

  distinct_slots : (es : List Entry) (apart : Distinct es) (h : Within es) → IsDistinct nat_eq (slots_for es apart h)
  unfolding slots_for IsDistinct
  distinct_slots [] apart h = tt
  distinct_slots (e ∷ es) apart h =
      let own = own_slot e es h in (
        not_in own.0 (slots_for es apart.1 (rest_within e es apart h)) (λ q is same.
            let k = all_slots es apart.1 (rest_within e es apart h) q is in
            let at_q : entry_at f q ≡ e = ap (entry_at f) (sym same) ∙ own.2 in
            absurd (none-some _ (sym apart.0 ∙ (λ i. find es (sym at_q i).of (sym at_q i).component) ∙ k.found))),
        distinct_slots es apart.1 (rest_within e es apart h),
      )

  -- if a slot is free, an entry is
  pub room_free : (capacity s : ℕ) → n ≡ capacity + 1 → Distinct t.entries → IsFree n f s → length t.entries < capacity
  unfolding IsDistinct
  room_free capacity s is apart free =
      let qs = slots_for t.entries apart (λ d c e h. h) in
      let within : (q : ℕ) → is_member nat_eq (s ∷ qs) q ≡ true → is_member nat_eq (down_from capacity) q ≡ true = λ q h.
      elim (nat_eq q s) as (λ (b : Bool). nat_eq q s ≡ b → (b || is_member nat_eq qs q) ≡ true →
      is_member nat_eq (down_from capacity) q ≡ true) [
        | true ↦ λ p r. let e = eqb-true q s p in let a = free.past_root in let b = free.within in
            in_down capacity q (omega arith) (omega arith)
        | false ↦ λ p r. let k = (all_slots t.entries apart (λ d c e h. h) q r).used in let a = k.past_root in let b = k.within in
            in_down capacity q a (omega arith)
      ] refl h in
      let a = length-le_from_is_member nat_eq_equiv (s ∷ qs) (down_from capacity) (
        not_in s qs (λ q h e. (all_slots t.entries apart (λ d c e h. h) q h).used.used (ap (λ (z : ℕ). (f z).kind) (sym e)
            ∙ free.free)),
        distinct_slots t.entries apart (λ d c e h. h),
      ) within in
      let b = length-slots t.entries apart (λ d c e h. h) in
      let c = length-down capacity in
      omega arith

  -- no more entries than slots past the root's
  pub room_most : (capacity : ℕ) → n ≡ capacity + 1 → Distinct t.entries → length t.entries ≤ capacity
  unfolding IsDistinct
  room_most capacity is apart =
      let qs = slots_for t.entries apart (λ d c e h. h) in
      let a = length-le_from_is_member nat_eq_equiv qs (down_from capacity) (distinct_slots t.entries apart (λ d c e h. h)) (λ q h.
      let k = (all_slots t.entries apart (λ d c e h. h) q h).used in let low = k.past_root in let high = k.within in
      in_down capacity q low (omega arith)) in
      let b = length-slots t.entries apart (λ d c e h. h) in
      let c = length-down capacity in
      omega arith

  -- if no slot is free, no entry is
  pub room_full : (capacity : ℕ) → n ≡ capacity + 1 → Distinct t.entries → ((s : ℕ) → ¬ (IsFree n f s)) → capacity ≤ length t.entries
  room_full capacity is apart full =
      let qs = slots_for t.entries apart (λ d c e h. h) in
      let a = length-le_from_is_member nat_eq_equiv (down_from capacity) qs (distinct_down capacity) (λ q h.
      let b = below_down capacity q h in
      let low = b.0 in let high = b.1 in
      let used : IsUsed n f q = record {
        past_root = low;
        within = omega arith;
        used =
            λ e. full q record { past_root = low; within = omega arith; free = e };
      } in
      every_slot t.entries apart (λ d c e h. h) q record { used = used; found = enc.there q used }) in
      let b = length-slots t.entries apart (λ d c e h. h) in
      let c = length-down capacity in
      omega arith
