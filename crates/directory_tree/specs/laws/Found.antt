-- What is found after an edit of the entries.
use Rattle.std.proofs.Common.{◌≡◌, ℕ, ◌==◌, ◌&&◌, Bool, true, false, List, [], ◌∷◌, ◌++◌, Some, None, Option, sym, refl, ap, ◌∙◌, subst}
use Rattle.std.proofs.Common.{eqb-true, eq-eqb}
use Rattle.std.specs.Prelude.{if◌then◌else◌}
use Rattle.std.specs.Prelude.{bytes_eq}
use Rattle.directory_tree.specs.Tree.{Entry, find, is_at, is_empty}
use Rattle.directory_tree.specs.Apply.{without, placed, entry}
use Rattle.std.proofs.lemmas.Slice.Eq.{bytes_eq-Decides}

pub find-append_old : (es : List Entry) (x : Entry) (d : ℕ) (c : List ℕ) (e : Entry) → find es d c ≡ Some e →
    find (es ++ x ∷ []) d c ≡ Some e
find-append_old [] x d c e h = cc
find-append_old (y ∷ es) x d c e h =
    elim (is_at d c y) as (λ b. (if b then Some y else find es d c) ≡ Some e → (if b then Some y else find (es ++ x ∷ []) d c) ≡ Some e) [
      | true ↦ λ p. p
      | false ↦ λ p. find-append_old es x d c e p
    ] h

pub find-append_new : (es : List Entry) (x : Entry) (d : ℕ) (c : List ℕ) → find es d c ≡ None → find (es ++ x ∷ []) d c
    ≡ (if is_at d c x then Some x else None)
find-append_new [] x d c h = refl
find-append_new (y ∷ es) x d c h =
    elim (is_at d c y) as (λ b. (if b then Some y else find es d c) ≡ None → (if b then Some y else find (es ++ x ∷ []) d c)
    ≡ (if is_at d c x then Some x else None)) [
      | true ↦ λ p. cc
      | false ↦ λ p. find-append_new es x d c p
    ] h

-- what is found is at the key
pub found_at : (es : List Entry) (d : ℕ) (c : List ℕ) (e : Entry) → find es d c ≡ Some e → (e.of ≡ d) × (e.component ≡ c)
found_at [] d c e h = cc
found_at (y ∷ es) d c e h =
    elim (y.of == d) as (λ a. (y.of == d) ≡ a → (if a && bytes_eq y.component c then Some y else find es d c) ≡ Some e →
    (e.of ≡ d) × (e.component ≡ c)) [
      | true ↦ λ p. elim (bytes_eq y.component c) as (λ b. bytes_eq y.component c ≡ b → (if b then Some y else find es d c) ≡ Some e →
          (e.of ≡ d) × (e.component ≡ c)) [
            | true ↦ λ q r. let same : y ≡ e = ap (λ (o : Option Entry). elim o [ Some z ↦ z | None ↦ y ]) r in (
              subst (λ (z : Entry). z.of ≡ d) same (eqb-true y.of d p),
              subst (λ (z : Entry). z.component ≡ c) same
                  ((bytes_eq-Decides y.component c).0 q),
            )
            | false ↦ λ q r. found_at es d c e r
          ] refl
      | false ↦ λ p r. found_at es d c e r
    ] refl h

pub at_once : (a : ℕ) (b : List ℕ) (x : ℕ) (y : List ℕ) → ((x == a) && bytes_eq y b) ≡ true → (x ≡ a) × (y ≡ b)
at_once a b x y h = elim (x == a) as (λ p. (x == a) ≡ p → (p && bytes_eq y b) ≡ true → (x ≡ a) × (y ≡ b)) [
  | true ↦ λ p q. (eqb-true x a p, (bytes_eq-Decides y b).0 q)
  | false ↦ λ p q. absurd (cc q)
] refl h

pub is_at-same : (d : ℕ) (c : List ℕ) (e : Entry) → e.of ≡ d → e.component ≡ c → is_at d c e ≡ true
is_at-same d c e a b = ap (λ (z : Bool). z && bytes_eq e.component c) (eq-eqb e.of d a) ∙ (bytes_eq-Decides e.component c).1 b

-- two different keys
abbrev pub Apart : ℕ → List ℕ → ℕ → List ℕ → Type 0
Apart d c d' c' = d' ≡ d → c' ≡ c → ⊥

is_at-apart : (d : ℕ) (c : List ℕ) (d' : ℕ) (c' : List ℕ) (e : Entry) → Apart d c d' c' → is_at d c e ≡ true → is_at d' c' e ≡ false
is_at-apart d c d' c' e other h = elim (is_at d' c' e) as (λ (b : Bool). is_at d' c' e ≡ b → b ≡ false) [
  | true ↦ λ q. let x = at_once d c e.of e.component h in let y = at_once d' c' e.of e.component q in
      absurd (other (sym y.0 ∙ x.0) (sym y.1 ∙ x.1))
  | false ↦ λ q. refl
] refl

pub find-without_same : (es : List Entry) (d : ℕ) (c : List ℕ) → find (without d c es) d c ≡ None
find-without_same [] d c = refl
find-without_same (e ∷ es) d c = elim (is_at d c e) as (λ (b : Bool). is_at d c e ≡ b →
    find (if b then without d c es else e ∷ without d c es) d c ≡ None) [
      | true ↦ λ q. find-without_same es d c
      | false ↦ λ q. ap (λ (b : Bool). if b then Some e else find (without d c es) d c) q ∙ find-without_same es d c
    ] refl

pub find-without_other : (es : List Entry) (d : ℕ) (c : List ℕ) (d' : ℕ) (c' : List ℕ) → Apart d c d' c' →
    find (without d c es) d' c' ≡ find es d' c'
find-without_other [] d c d' c' other = refl
find-without_other (e ∷ es) d c d' c' other = elim (is_at d c e) as (λ (b : Bool). is_at d c e ≡ b →
    find (if b then without d c es else e ∷ without d c es) d' c' ≡ (if is_at d' c' e then Some e else find es d' c')) [
      | true ↦ λ q. find-without_other es d c d' c' other
          ∙ sym (ap (λ (b : Bool). if b then Some e else find es d' c') (is_at-apart d c d' c' e other q))
      | false ↦ λ q. ap (λ (o : Option Entry). if is_at d' c' e then Some e else o) (find-without_other es d c d' c' other)
    ] refl

abbrev pub put_at : ℕ → List ℕ → Option Entry → Option Entry
put_at d c None = None
put_at d c (Some e) = Some (entry d c e.node e.kind)

-- an entry of a key that is free goes to a key that is free
module _ (d : ℕ) (c : List ℕ) (into : ℕ) (name : List ℕ) (other : Apart d c into name) where
  pub find-placed_new : (es : List Entry) → find es into name ≡ None → find (placed d c into name es) into name
      ≡ put_at into name (find es d c)
  find-placed_new [] h = refl
  find-placed_new (e ∷ es) h = elim (is_at into name e) as (λ (b : Bool). is_at into name e ≡ b → (if b then Some e else find es into name)
      ≡ None → find (placed d c into name (e ∷ es)) into name ≡ put_at into name (find (e ∷ es) d c)) [
        | true ↦ λ q r. absurd (cc r)
        | false ↦ λ q r. elim (is_at d c e) as
            (λ (b : Bool). find ((if b then entry into name e.node e.kind else e) ∷ placed d c into name es)
            into name ≡ put_at into name (if b then Some e else find es d c)) [
              | true ↦ ap (λ (b : Bool). if b then Some (entry into name e.node e.kind) else find (placed d c into name es) into name)
                  (is_at-same into name (entry into name e.node e.kind) refl refl)
              | false ↦ ap (λ (b : Bool). if b then Some e else find (placed d c into name es) into name) q ∙ find-placed_new es r
            ]
      ] refl h

  pub find-placed_old : (es : List Entry) → find (placed d c into name es) d c ≡ None
  find-placed_old [] = refl
  find-placed_old (e ∷ es) = elim (is_at d c e) as (λ (b : Bool). is_at d c e ≡ b →
      find ((if b then entry into name e.node e.kind else e) ∷ placed d c into name es) d c ≡ None) [
        | true ↦ λ q. ap (λ (b : Bool). if b then Some (entry into name e.node e.kind) else find (placed d c into name es) d c)
            (is_at-apart into name d c (entry into name e.node e.kind) (λ x y. other (sym x) (sym y))
            (is_at-same into name (entry into name e.node e.kind) refl refl)) ∙ find-placed_old es
        | false ↦ λ q. ap (λ (b : Bool). if b then Some e else find (placed d c into name es) d c) q ∙ find-placed_old es
      ] refl

  pub find-placed_else : (es : List Entry) (d' : ℕ) (c' : List ℕ) → Apart d c d' c' → Apart into name d' c' →
      find (placed d c into name es) d' c' ≡ find es d' c'
  find-placed_else [] d' c' one two = refl
  find-placed_else (e ∷ es) d' c' one two =
      let rest = find-placed_else es d' c' one two in
      elim (is_at d c e) as (λ (b : Bool). is_at d c e ≡ b →
      find ((if b then entry into name e.node e.kind else e) ∷ placed d c into name es) d' c'
      ≡ (if is_at d' c' e then Some e else find es d' c')) [
        | true ↦ λ q. ap (λ (b : Bool). if b then Some (entry into name e.node e.kind) else find (placed d c into name es) d' c')
            (is_at-apart into name d' c' (entry into name e.node e.kind) two
            (is_at-same into name (entry into name e.node e.kind) refl refl))
            ∙ rest ∙ sym (ap (λ (b : Bool). if b then Some e else find es d' c') (is_at-apart d c d' c' e one q))
        | false ↦ λ q. ap (λ (o : Option Entry). if is_at d' c' e then Some e else o) rest
      ] refl

pub without-none : (es : List Entry) (d : ℕ) (c : List ℕ) → find es d c ≡ None → without d c es ≡ es
without-none [] d c h = refl
without-none (e ∷ es) d c h = elim (is_at d c e) as (λ (b : Bool). (if b then Some e else find es d c) ≡ None →
    (if b then without d c es else e ∷ without d c es) ≡ e ∷ es) [
      | true ↦ λ q. absurd (cc q)
      | false ↦ λ q. ap (λ (xs : List Entry). e ∷ xs) (without-none es d c q)
    ] h

pub empty_none : (es : List Entry) (d : ℕ) (c : List ℕ) → is_empty es d ≡ true → find es d c ≡ None
empty_none [] d c h = refl
empty_none (e ∷ es) d c h = elim (e.of == d) as (λ (b : Bool). (if b then false else is_empty es d) ≡ true →
    (if b && bytes_eq e.component c then Some e else find es d c) ≡ None) [
      | true ↦ λ q. absurd (cc q)
      | false ↦ λ q. empty_none es d c q
    ] h
