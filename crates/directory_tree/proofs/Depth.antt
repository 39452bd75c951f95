-- No climb to the root is longer than there are entries.
use Rattle.std.proofs.Common.{◌≡◌, ℕ, zero, suc, ◌<◌, ◌≤◌, ◌≢◌, ◌==◌, ◌&&◌, ◌||◌, Bool, true, false, List, [], ◌∷◌, ◌++◌, map, length}
use Rattle.std.proofs.Common.{Some, None, Option, sym, refl, ap, ◌∙◌, subst, arith, eqb-true, eq-eqb, ne_eqb}
use Rattle.std.specs.Prelude.{if◌then◌else◌, nat_eq}
use Rattle.std.specs.Cmp.{nat_eq_equiv}
use Rattle.std.specs.List.{IsDistinct, AllByRecursion}
use Rattle.std.specs.Set.{is_member}
use Rattle.std.proofs.lemmas.Map.Made.{length-le_from_is_member}
use Rattle.std.proofs.lemmas.List.{length-map}
use Rattle.directory_tree.specs.Tree.{Entry, root, own_entry, leads, is_directory}
use Rattle.directory_tree.specs.Name.{name_up}
use Rattle.directory_tree.specs.Components.{slash}
use Rattle.std.proofs.lemmas.Option.{none-some, same_Some}

-- a directory exactly this many steps below the root
abbrev pub Deep : List Entry → ℕ → ℕ → Type 0
Deep es zero d = d ≡ 1
Deep es (suc n) d = (e : Entry) × (own_entry es d ≡ Some e) × (d ≢ 1) × Deep es n e.of

pub deep : (es : List Entry) (n d : ℕ) → leads es n d ≡ true → (m : ℕ) × (m ≤ n) × Deep es m d
deep es zero d h = (0, omega arith, eqb-true d 1 h)
deep es (suc n) d h =
    elim (d == 1) as (λ (b : Bool). (d == 1) ≡ b →
    (if b then true else elim (own_entry es d) as (λ _. Bool) [ None ↦ false | Some e ↦ leads es n e.of ]) ≡ true →
    (m : ℕ) × (m ≤ suc n) × Deep es m d) [
      | true ↦ λ q r. (0, omega arith, eqb-true d 1 q)
      | false ↦ λ q r. elim (own_entry es d) as (λ (o : Option Entry). own_entry es d ≡ o →
          (elim o as (λ _. Bool) [ None ↦ false | Some e ↦ leads es n e.of ]) ≡ true → (m : ℕ) × (m ≤ suc n) × Deep es m d) [
            | None ↦ λ is l. absurd (cc l)
            | Some e ↦ λ is l. let (m, low, up) = deep es n e.of l in (suc m, omega arith, (e, is, not_root d q, up))
          ] refl r
    ] refl h
  where
    true_is_false : true ≡ false → ⊥
    true_is_false e = absurd (cc e)

    not_root : (d : ℕ) → (d == 1) ≡ false → d ≢ 1
    not_root d q e = true_is_false (sym (eq-eqb d 1 e) ∙ q)

-- no directory is at two depths
pub one_depth : (es : List Entry) (n m d : ℕ) → Deep es n d → Deep es m d → n ≡ m
one_depth es zero zero d a b = refl
one_depth es zero (suc m) d a (e, is, other, up) = absurd (other a)
one_depth es (suc n) zero d (e, is, other, up) b = absurd (other b)
one_depth es (suc n) (suc m) d (e, is, other, up) (e', is', other', up') =
    let same : e' ≡ e = same_Some e' e (sym is' ∙ is) in
    ap suc (one_depth es n m e.of up (subst (λ (z : Entry). Deep es m z.of) same up'))

chain : (es : List Entry) (n d : ℕ) → Deep es n d → List ℕ
chain es zero d h = []
chain es (suc n) d (e, is, other, up) = d ∷ chain es n e.of up

length-chain : (es : List Entry) (n d : ℕ) (h : Deep es n d) → length (chain es n d h) ≡ n
unfolding chain
length-chain es zero d h = refl
length-chain es (suc n) d (e, is, other, up) = ap suc (length-chain es n e.of up)

-- what is higher up differs
higher : (es : List Entry) (x k : ℕ) (n d : ℕ) (h : Deep es n d) → Deep es k x → n < k →
    AllByRecursion (λ y. nat_eq x y ≡ false) (chain es n d h)
unfolding chain
higher es x k zero d h deep_x l = tt
higher es x k (suc n) d (e, is, other, up) deep_x l = (
  ne_eqb x d (λ p. let same = one_depth es k (suc n) d (subst (Deep es k) p deep_x) (e, is, other, up) in absurd (omega arith)),
  higher
      es x k n e.of up deep_x (omega arith),
)

distinct : (es : List Entry) (n d : ℕ) (h : Deep es n d) → IsDistinct nat_eq (chain es n d h)
unfolding chain IsDistinct
distinct es zero d h = tt
distinct es (suc n) d (e, is, other, up) = (higher es d (suc n) n e.of up (e, is, other, up) (omega arith), distinct es n e.of up)

has_node : (es : List Entry) (d : ℕ) (e : Entry) → own_entry es d ≡ Some e → is_member nat_eq (map (λ (x : Entry). x.node) es) d ≡ true
has_node [] d e h = absurd (none-some e h)
has_node (y ∷ es) d e h =
    elim (y.node == d) as (λ (b : Bool). (y.node == d) ≡ b → (if b && is_directory y.kind then Some y else own_entry es d) ≡ Some e →
    (nat_eq d y.node || is_member nat_eq (map (λ (x : Entry). x.node) es) d) ≡ true) [
      | true ↦ λ q r. ap (λ (b : Bool). b || is_member nat_eq (map (λ (x : Entry). x.node) es) d)
          (eq-eqb d y.node (sym (eqb-true y.node d q)))
      | false ↦ λ q r. or_right (nat_eq d y.node) _ (has_node es d e r)
    ] refl h
  where
    or_right : (a b : Bool) → b ≡ true → (a || b) ≡ true
    or_right true b h = refl
    or_right false b h = h

all_nodes : (es : List Entry) (n d : ℕ) (h : Deep es n d) (q : ℕ) → is_member nat_eq (chain es n d h) q ≡ true →
    is_member nat_eq (map (λ (x : Entry). x.node) es) q ≡ true
unfolding chain
all_nodes es zero d h q is = absurd (cc is)
all_nodes es (suc n) d (e, at, other, up) q is =
    elim (nat_eq q d) as (λ (b : Bool). nat_eq q d ≡ b → (b || is_member nat_eq (chain es n e.of up) q) ≡ true →
    is_member nat_eq (map (λ (x : Entry). x.node) es) q ≡ true) [
      | true ↦ λ p r. subst (λ (z : ℕ). is_member nat_eq (map (λ (x : Entry). x.node) es) z ≡ true) (sym (eqb-true q d p))
          (has_node es d e at)
      | false ↦ λ p r. all_nodes es n e.of up q r
    ] refl is

pub shallow : (es : List Entry) (n d : ℕ) → Deep es n d → n ≤ length es
shallow es n d h =
    let a = length-le_from_is_member nat_eq_equiv (chain es n d h) (map (λ (x : Entry). x.node) es) (distinct es n d h)
    (all_nodes es n d h) in
    let b = length-chain es n d h in
    let c = length-map es (λ (x : Entry). x.node) in
    omega arith

leads_deep : (es : List Entry) (m k d : ℕ) → Deep es m d → m ≤ k → leads es k d ≡ true
leads_deep es zero zero d h l = eq-eqb d 1 h
leads_deep es zero (suc k) d h l =
    ap (λ (b : Bool). if b then true else elim (own_entry es d) as (λ _. Bool) [ None ↦ false | Some e ↦ leads es k e.of ]) (eq-eqb d 1 h)
leads_deep es (suc m) zero d h l = absurd (omega arith)
leads_deep es (suc m) (suc k) d (e, is, other, up) l =
    ap (λ (b : Bool). if b then true else elim (own_entry es d) as (λ _. Bool) [ None ↦ false | Some e ↦ leads es k e.of ])
    (ne_eqb d 1 other)
    ∙ ap (λ (o : Option Entry). elim o as (λ _. Bool) [ None ↦ false | Some e ↦ leads es k e.of ]) is
    ∙ leads_deep es m k e.of up (omega arith)

-- as many steps as there are entries lead to the root where any number does
pub enough : (es : List Entry) (n d : ℕ) → leads es n d ≡ true → leads es (length es) d ≡ true
enough es n d h = let (m, low, up) = deep es n d h in leads_deep es m (length es) d up (shallow es m d up)

-- more steps than lead to the root add nothing
pub up_deep : (es : List Entry) (m n d : ℕ) → Deep es m d → m ≤ n → name_up es n d ≡ name_up es m d
up_deep es zero zero d h l = refl
up_deep es zero (suc n) d h l =
    ap (λ (b : Bool). if b then [] else elim (own_entry es d) as (λ _. List ℕ) [
      | None ↦ []
      | Some e ↦ name_up es n e.of
          ++ slash ∷ e.component
    ]) (ap (λ (z : ℕ). z == root) h)
up_deep es (suc m) zero d h l = absurd (omega arith)
up_deep es (suc m) (suc n) d (e, is, other, up) l =
    let at : (k : ℕ) → name_up es (suc k) d ≡ name_up es k e.of ++ slash ∷ e.component =
    λ k.
    ap (λ (b : Bool). if b then [] else elim (own_entry es d) as (λ _. List ℕ) [
      | None ↦ []
      | Some e ↦ name_up es k e.of
          ++ slash ∷ e.component
    ]) (ne_eqb d root other)
    ∙ ap (λ (o : Option Entry). elim o as (λ _. List ℕ) [ None ↦ [] | Some e ↦ name_up es k e.of ++ slash ∷ e.component ]) is in
    at n ∙ ap (λ (z : List ℕ). z ++ slash ∷ e.component) (up_deep es m n e.of up (omega arith)) ∙ sym (at m)
