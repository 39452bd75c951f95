-- An entry that moves leaves the tree well-formed.
use Rattle.std.proofs.Common.{◌≡◌, ℕ, zero, suc, ◌<◌, ◌≤◌, ◌==◌, ◌≢◌, ◌&&◌, Bool, true, false, List, [], ◌∷◌, Some, None, Option, sym}
use Rattle.std.proofs.Common.{refl, ap, ◌∙◌, subst, arith, eq-eqb, ne_eqb, true≢false}
use Rattle.std.specs.Prelude.{if◌then◌else◌}
use mathlib.Core.Logic.{◌⊎◌, inl, inr}
use Rattle.directory_tree.specs.Components.{IsComponent}
use Rattle.directory_tree.specs.Tree.{Tree, Entry, WellFormed, Distinct, root, find, own_entry, leads, is_at, is_directory, is_below}
use Rattle.directory_tree.specs.Apply.{entry, placed, place_one}
use Rattle.directory_tree.specs.laws.Found.{found_at, at_once, is_at-same, Apart, find-placed_new}
use Rattle.directory_tree.specs.laws.Found.{find-placed_old, find-placed_else, put_at}
use Rattle.std.proofs.lemmas.Option.{none-some, same_Some}
use Rattle.directory_tree.proofs.Walks.{own_entry_found}
use Rattle.directory_tree.proofs.Depth.{Deep, deep}
use Rattle.directory_tree.proofs.Drops.{apart_from, at_key}

-- a climb to the root of exactly this many steps that doesn't meet the node a
abbrev pub Avoids : List Entry → ℕ → ℕ → ℕ → Type 0
Avoids es a zero d = d ≡ root
Avoids es a (suc n) d = (e : Entry) × (own_entry es d ≡ Some e) × (d ≢ root) × (d ≢ a) × Avoids es a n e.of

pub not_below : (es : List Entry) (a m k d : ℕ) → Deep es m d → m ≤ k → is_below es k a d ≡ false → Avoids es a m d
not_below es a zero k d up low h = up
not_below es a (suc m) zero d up low h = absurd (omega arith)
not_below es a (suc m) (suc k) d (e, is, other, up) low h =
    elim (d == a) as (λ (b : Bool). (d == a) ≡ b →
    (if b then true else elim (own_entry es d) as (λ _. Bool) [ None ↦ false | Some e ↦ is_below es k a e.of ]) ≡ false →
    Avoids es a (suc m) d) [
      | true ↦ λ q r. absurd (true≢false r)
      | false ↦ λ q r. (
        e,
        is,
        other,
        (λ p. true≢false (sym (eq-eqb d a p) ∙ q)),
        not_below es a m k e.of up (omega arith)
            (sym (ap (λ (o : Option Entry). elim o as (λ _. Bool) [ None ↦ false | Some e ↦ is_below es k a e.of ]) is) ∙ r),
      )
    ] refl h

option_place : ℕ → List ℕ → ℕ → List ℕ → Option Entry → Option Entry
option_place d c into name None = None
option_place d c into name (Some e) = Some (place_one d c into name e)

same_node : (d : ℕ) (c : List ℕ) (into : ℕ) (name : List ℕ) (e : Entry) → ((place_one d c into name e).node ≡ e.node)
    × ((place_one d c into name e).kind ≡ e.kind)
same_node d c into name e = elim (is_at d c e) as (λ (b : Bool). ((if b then entry into name e.node e.kind else e).node ≡ e.node)
    × ((if b then entry into name e.node e.kind else e).kind ≡ e.kind)) [
      | true ↦ (refl, refl)
      | false ↦ (refl, refl)
    ]

own_entry-placed : (d : ℕ) (c : List ℕ) (into : ℕ) (name : List ℕ) (es : List Entry) (x : ℕ) (e : Entry) → own_entry es x ≡ Some e →
    own_entry (placed d c into name es) x ≡ Some (place_one d c into name e)
own_entry-placed d c into name [] x e h = absurd (none-some e h)
own_entry-placed d c into name (y ∷ es) x e h =
    let k = same_node d c into name y in
    (λ i. if (k.0 i == x) && is_directory (k.1 i) then Some (place_one d c into name y) else own_entry (placed d c into name es) x)
    ∙ elim ((y.node == x) && is_directory y.kind) as (λ (b : Bool). (if b then Some y else own_entry es x) ≡ Some e →
    (if b then Some (place_one d c into name y) else own_entry (placed d c into name es) x) ≡ Some (place_one d c into name e)) [
      | true ↦ λ q. ap (λ (z : Entry). Some (place_one d c into name z)) (same_Some y e q)
      | false ↦ λ q. own_entry-placed d c into name es x e q
    ] h

module _ (u : Tree) (well : WellFormed u) (d : ℕ) (c : List ℕ) (into : ℕ) (name : List ℕ) (old : Entry)
    (is : find u.entries d c ≡ Some old) (free : find u.entries into name ≡ None)
    (proper : IsComponent name) (m : ℕ) (avoids : Avoids u.entries old.node m into) where
  abbrev es : List Entry
  es = u.entries

  abbrev after : List Entry
  after = placed d c into name u.entries

  abbrev new : Entry
  new = entry into name old.node old.kind

  other : Apart d c into name
  other = λ a b. none-some old (sym free ∙ (λ i. find es (a i) (b i)) ∙ is)

  -- an entry of a key that is free of both places
  stays_at : (y : Entry) (rest : List Entry) → find (y ∷ rest) into name ≡ None → find rest y.of y.component ≡ None →
      Distinct (placed d c into name rest) → Distinct (placed d c into name (y ∷ rest))
  stays_at y rest none single more =
      elim (is_at into name y) as (λ (b : Bool). is_at into name y ≡ b → (if b then Some y else find rest into name) ≡ None →
      Distinct (placed d c into name (y ∷ rest))) [
        | true ↦ λ p r. absurd (none-some y (sym r))
        | false ↦ λ p r. elim (is_at d c y) as (λ (b : Bool). is_at d c y ≡ b →
            Distinct ((if b then entry into name y.node y.kind else y) ∷ placed d c into name rest)) [
              | true ↦ λ q. let k = at_once d c y.of y.component q in (
                find-placed_new d c into name other rest r ∙ ap (put_at into name)
                    ((λ i. find rest (sym k.0 i) (sym k.1 i)) ∙ single),
                more,
              )
              | false ↦ λ q. (
                find-placed_else d c into name other rest y.of y.component
                    (λ a b. true≢false (sym (is_at-same d c y a b) ∙ q)) (λ a b. true≢false (sym (is_at-same into name y a b) ∙ p))
                    ∙ single,
                more,
              )
            ] refl
      ] refl none

  none_rest : (y : Entry) (rest : List Entry) → find (y ∷ rest) into name ≡ None → find rest into name ≡ None
  none_rest y rest h = elim (is_at into name y) as (λ (b : Bool). (if b then Some y else find rest into name) ≡ None →
      find rest into name ≡ None) [
        | true ↦ λ q. absurd (none-some y (sym q))
        | false ↦ λ q. q
      ] h

  Distinct-placed : (xs : List Entry) → Distinct xs → find xs into name ≡ None → Distinct (placed d c into name xs)
  Distinct-placed [] h none = tt
  Distinct-placed (y ∷ xs) h none = stays_at y xs none h.0 (Distinct-placed xs h.1 (none_rest y xs none))

  -- what is found after the move: what was there, but not the old entry; or the new one
  after_found : (d' : ℕ) (c' : List ℕ) (z : Entry) → find after d' c' ≡ Some z → ((find es d' c' ≡ Some z) × (is_at d c z ≡ false))
      ⊎ ((d' ≡ into) × (z ≡ new))
  after_found d' c' z h =
      elim (is_at into name z) as (λ (b : Bool). is_at into name z ≡ b → ((find es d' c' ≡ Some z) × (is_at d c z ≡ false))
      ⊎ ((d' ≡ into) × (z ≡ new))) [
        | true ↦ λ q. let k = at_key after into name d' c' z h q in
            inr (
              k.0,
              same_Some z new (sym h ∙ (λ i. find after (k.0 i) (k.1 i)) ∙ find-placed_new d c into name other es free
                  ∙ ap (put_at into name) is),
            )
        | false ↦ λ q. elim (is_at d c z) as (λ (b : Bool). is_at d c z ≡ b → ((find es d' c' ≡ Some z) × (b ≡ false))
            ⊎ ((d' ≡ into) × (z ≡ new))) [
              | true ↦ λ r. let k = at_key after d c d' c' z h r in
                  absurd (none-some z (sym (find-placed_old d c into name other es) ∙ sym (λ i. find after (k.0 i) (k.1 i)) ∙ h))
              | false ↦ λ r. inl (
                sym (find-placed_else d c into name other es d' c' (apart_from after d c d' c' z h r)
                    (apart_from after into name d' c' z h q)) ∙ h,
                refl,
              )
            ] refl
      ] refl

  abbrev climb : ℕ → Option Entry → Bool
  climb n o = elim o as (λ _. Bool) [ None ↦ false | Some z ↦ leads after n z.of ]

  one_up : (n x : ℕ) (e : Entry) → x ≢ root → own_entry es x ≡ Some e → leads after (suc n) x ≡ leads after n
      (place_one d c into name e).of
  one_up n x e apart at = ap (λ (b : Bool). if b then true else climb n (own_entry after x)) (ne_eqb x root apart)
      ∙ ap (climb n) (own_entry-placed d c into name es x e at)

  is_old : (x : ℕ) (e : Entry) → own_entry es x ≡ Some e → is_at d c e ≡ true → e ≡ old
  is_old x e at q = let k = at_once d c e.of e.component q in same_Some e old (sym (own_entry_found es x e well.distinct at).found
      ∙ (λ i. find es (k.0 i) (k.1 i)) ∙ is)

  avoid_leads : (n x : ℕ) → Avoids es old.node n x → leads after n x ≡ true
  avoid_leads zero x h = eq-eqb x root h
  avoid_leads (suc n) x (e, at, apart, far, up) =
      one_up n x e apart at
      ∙ elim (is_at d c e) as (λ (b : Bool). is_at d c e ≡ b → leads after n (if b then entry into name e.node e.kind else e).of ≡ true) [
        | true ↦ λ q. absurd (far (sym (own_entry_found es x e well.distinct at).node ∙ ap (λ (z : Entry). z.node) (is_old x e at q)))
        | false ↦ λ q. avoid_leads n e.of up
      ] refl

  deep_leads : (n x : ℕ) → Deep es n x → (k : ℕ) × (leads after k x ≡ true)
  deep_leads zero x h = (0, eq-eqb x root h)
  deep_leads (suc n) x (e, at, apart, up) =
      elim (is_at d c e) as (λ (b : Bool). is_at d c e ≡ b → (k : ℕ) × (leads after k x ≡ true)) [
        | true ↦ λ q. (
          suc m,
          one_up m x e apart at ∙ ap (λ (b : Bool). leads after m (if b then entry into name e.node e.kind else e).of)
              q ∙ avoid_leads m into avoids,
        )
        | false ↦ λ q. let (k, l) = deep_leads n e.of up in
            (suc k, one_up k x e apart at ∙ ap (λ (b : Bool). leads after k (if b then entry into name e.node e.kind else e).of) q ∙ l)
      ] refl

  -- the entry that this one was before the move
  before : (d' : ℕ) (c' : List ℕ) (z : Entry) → find after d' c' ≡ Some z → (a : ℕ) × (b : List ℕ) × (y : Entry) × (find es a b ≡ Some y)
      × (y.node ≡ z.node) × (y.kind ≡ z.kind)
  before d' c' z h = elim (after_found d' c' z h) [
    | inl k ↦ (d', c', z, k.0, refl, refl)
    | inr k ↦ (d, c, old, is, ap (λ (w : Entry). w.node) (sym k.1), ap (λ (w : Entry). w.kind) (sym k.1))
  ]

  old_at : is_at d c old ≡ true
  old_at = let k = found_at es d c old is in is_at-same d c old k.0 k.1

  pub move_keeps : WellFormed record { entries = after; next = u.next }
  move_keeps = record {
    distinct = Distinct-placed u.entries well.distinct free;
    past_root = well.past_root;
    low = λ d' c' z h. let (a, b, y, at, node, kind) = before d' c' z h in subst (λ (n : ℕ). (root < n) × (n < u.next)) node
        (well.low a b y at);
    one_kind = λ d' c' d'' c'' x y hx hy same.
        let (a, b, x0, at, node, kind) = before d' c' x hx in
        let (a', b', y0, at', node', kind') = before d'' c'' y hy in
        sym kind ∙ well.one_kind a b a' b' x0 y0 at at' (node ∙ same ∙ sym node') ∙ kind';
    one_entry = λ d' c' d'' c'' x y hx hy same directory. elim (after_found d' c' x hx) [
      | inl a ↦ elim (after_found d'' c'' y hy) [
        | inl b ↦ well.one_entry d' c' d'' c'' x y a.0 b.0 same directory
        | inr b ↦ let e : x ≡ old = well.one_entry d' c' d c x old a.0 is (same ∙ ap (λ (w : Entry). w.node) b.1) directory in
            absurd (true≢false (sym (ap (is_at d c) e ∙ old_at) ∙ a.1))
      ]
      | inr a ↦ elim (after_found d'' c'' y hy) [
        | inl b ↦
            let e : old ≡ y = well.one_entry d c d'' c'' old y is b.0 (sym (ap (λ (w : Entry). w.node) a.1) ∙ same)
            (ap (λ (w : Entry). is_directory w.kind) (sym a.1) ∙ directory) in
            absurd (true≢false (sym (ap (is_at d c) (sym e) ∙ old_at) ∙ b.1))
        | inr b ↦ a.1 ∙ sym b.1
      ]
    ];
    rooted = λ d' c' z h. elim (after_found d' c' z h) [
      | inl k ↦ let (n, l) = well.rooted d' c' z k.0 in let (j, low, up) = deep es n d' l in deep_leads j d' up
      | inr k ↦ (m, subst (λ (x : ℕ). leads after m x ≡ true) (sym k.0) (avoid_leads m into avoids))
    ];
    named = λ d' c' z h. elim (after_found d' c' z h) [
      | inl k ↦ well.named d' c' z k.0
      | inr k ↦ subst (λ (w : Entry). IsComponent w.component) (sym k.1) proper
    ];
  }
