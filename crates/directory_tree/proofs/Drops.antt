-- Removing an entry of a file, a link or an empty directory leaves the tree well-formed.
use Rattle.std.proofs.Common.{◌≡◌, ℕ, zero, suc, ◌==◌, ◌&&◌, Bool, true, false, List, [], ◌∷◌, Some, None, Option, sym, refl, ap, ◌∙◌}
use Rattle.std.proofs.Common.{subst, true≢false}
use Rattle.std.specs.Prelude.{if◌then◌else◌, Ok, Err}
use Rattle.names.specs.declared.errors.Errno.TheVariants.{ENOENT, EISDIR, ENOTDIR, ENOTEMPTY}
use Rattle.directory_tree.specs.Tree.{Tree, Entry, WellFormed, Distinct, root, find, own_entry, leads, is_at, is_directory, is_empty}
use Rattle.directory_tree.specs.Apply.{without, dropped, unlink, unlink_at, rmdir, rmdir_at}
use Rattle.directory_tree.specs.laws.Found.{found_at, at_once, is_at-same, Apart, find-without_same, find-without_other, empty_none}
use Rattle.std.proofs.lemmas.Option.{none-some, same_Some}
use Rattle.names.specs.laws.Results.{err-ok, same_Ok}
use Rattle.directory_tree.proofs.Walks.{own_entry_found}

-- one found entry at a key: whether it is at another key too
pub apart_from : (es : List Entry) (d : ℕ) (c : List ℕ) (d' : ℕ) (c' : List ℕ) (z : Entry) → find es d' c' ≡ Some z → is_at d c z ≡ false →
    Apart d c d' c'
apart_from es d c d' c' z h other = λ a b. let k = found_at es d' c' z h in
    true≢false (sym (is_at-same d c z (k.0 ∙ a) (k.1 ∙ b)) ∙ other)

pub at_key : (es : List Entry) (d : ℕ) (c : List ℕ) (d' : ℕ) (c' : List ℕ) (z : Entry) → find es d' c' ≡ Some z → is_at d c z ≡ true →
    (d' ≡ d) × (c' ≡ c)
at_key es d c d' c' z h here = let k = found_at es d' c' z h in let j = at_once d c z.of z.component here in (sym k.0 ∙ j.0, sym k.1 ∙ j.1)

-- what is left was there, and at another key
pub without_old : (es : List Entry) (d : ℕ) (c : List ℕ) (d' : ℕ) (c' : List ℕ) (z : Entry) → find (without d c es) d' c' ≡ Some z →
    find es d' c' ≡ Some z
without_old es d c d' c' z h = elim (is_at d c z) as (λ (b : Bool). is_at d c z ≡ b → find es d' c' ≡ Some z) [
  | true ↦ λ q. let k = at_key (without d c es) d c d' c' z h q in
      absurd (none-some z (sym (find-without_same es d c) ∙ sym (λ i. find (without d c es) (k.0 i) (k.1 i)) ∙ h))
  | false ↦ λ q. sym (find-without_other es d c d' c' (apart_from (without d c es) d c d' c' z h q)) ∙ h
] refl

without_free : (es : List Entry) (d : ℕ) (c : List ℕ) (d' : ℕ) (c' : List ℕ) → find es d' c' ≡ None → find (without d c es) d' c' ≡ None
without_free es d c d' c' h = elim (find (without d c es) d' c') as (λ (o : Option Entry). find (without d c es) d' c' ≡ o → o ≡ None) [
  | None ↦ λ q. refl
  | Some z ↦ λ q. absurd (none-some z (sym h ∙ without_old es d c d' c' z q))
] refl

Distinct-without : (es : List Entry) (d : ℕ) (c : List ℕ) → Distinct es → Distinct (without d c es)
Distinct-without [] d c h = tt
Distinct-without (e ∷ es) d c h = elim (is_at d c e) as (λ (b : Bool). Distinct (if b then without d c es else e ∷ without d c es)) [
  | true ↦ Distinct-without es d c h.1
  | false ↦ (without_free es d c e.of e.component h.0, Distinct-without es d c h.1)
]

pub own_entry-without : (es : List Entry) (d : ℕ) (c : List ℕ) (x : ℕ) (e : Entry) → own_entry es x ≡ Some e → is_at d c e ≡ false →
    own_entry (without d c es) x ≡ Some e
own_entry-without [] d c x e h other = absurd (none-some e h)
own_entry-without (y ∷ es) d c x e h other =
    elim ((y.node == x) && is_directory y.kind) as (λ (b : Bool). ((y.node == x) && is_directory y.kind) ≡ b →
    (if b then Some y else own_entry es x) ≡ Some e → own_entry (if is_at d c y then without d c es else y ∷ without d c es) x
    ≡ Some e) [
      | true ↦ λ q r.
          ap (λ (b : Bool). own_entry (if b then without d c es else y ∷ without d c es) x) (ap (is_at d c) (same_Some y e r) ∙ other)
          ∙ ap (λ (b : Bool). if b then Some y else own_entry (without d c es) x) q ∙ r
      | false ↦ λ q r. elim (is_at d c y) as (λ (b : Bool). own_entry (if b then without d c es else y ∷ without d c es) x ≡ Some e) [
        | true ↦ own_entry-without es d c x e r other
        | false ↦ ap (λ (b : Bool). if b then Some y else own_entry (without d c es) x) q ∙ own_entry-without es d c x e r other
      ]
    ] refl h

-- this directory has some entry
abbrev pub HasEntry : List Entry → ℕ → Type 0
HasEntry es x = (c : List ℕ) × (e : Entry) × (find es x c ≡ Some e)

module _ (t : Tree) (well : WellFormed t) (d : ℕ) (c : List ℕ) (e : Entry) (is : find t.entries d c ≡ Some e)
    (loose : is_directory e.kind ≡ true → is_empty t.entries e.node ≡ true) where
  -- no climb from an entry goes through what is removed
  pub kept_place : (x : ℕ) (z : Entry) → HasEntry t.entries x → own_entry t.entries x ≡ Some z → is_at d c z ≡ false
  kept_place x z (c', y, there) h = elim (is_at d c z) as (λ (b : Bool). is_at d c z ≡ b → b ≡ false) [
    | true ↦ λ q.
        let p = own_entry_found t.entries x z well.distinct h in
        let k = at_once d c z.of z.component q in
        let same : z ≡ e = same_Some z e (sym p.found ∙ (λ i. find t.entries (k.0 i) (k.1 i)) ∙ is) in
        let node : e.node ≡ x = ap (λ (w : Entry). w.node) (sym same) ∙ p.node in
        let none : find t.entries e.node c' ≡ None = empty_none t.entries e.node c'
        (loose (ap (λ (w : Entry). is_directory w.kind) (sym same) ∙ p.directory)) in
        absurd (none-some y (sym none ∙ (λ i. find t.entries (node i) c') ∙ there))
    | false ↦ λ q. refl
  ] refl

  leads-without : (n x : ℕ) → HasEntry t.entries x → leads t.entries n x ≡ true → leads (without d c t.entries) n x ≡ true
  leads-without zero x has h = h
  leads-without (suc n) x has h =
      elim (x == root) as (λ (b : Bool). (if b then true else elim (own_entry t.entries x) as (λ _. Bool)
      [ None ↦ false | Some z ↦ leads t.entries n z.of ]) ≡ true →
      (if b then true else elim (own_entry (without d c t.entries) x) as (λ _. Bool)
      [ None ↦ false | Some z ↦ leads (without d c t.entries) n z.of ]) ≡ true) [
        | true ↦ λ q. refl
        | false ↦ λ q. elim (own_entry t.entries x) as (λ (o : Option Entry). own_entry t.entries x ≡ o →
            (elim o as (λ _. Bool) [ None ↦ false | Some z ↦ leads t.entries n z.of ]) ≡ true →
            (elim (own_entry (without d c t.entries) x) as (λ _. Bool) [ None ↦ false | Some z ↦ leads (without d c t.entries) n z.of ])
            ≡ true) [
              | None ↦ λ at r. absurd (true≢false (sym r))
              | Some z ↦ λ at r.
                  ap (λ (o : Option Entry). elim o as (λ _. Bool) [ None ↦ false | Some z ↦ leads (without d c t.entries) n z.of ])
                  (own_entry-without t.entries d c x z at (kept_place x z has at))
                  ∙ leads-without n z.of (z.component, z, (own_entry_found t.entries x z well.distinct at).found) r
            ] refl q
      ] h

  pub drop_keeps : WellFormed (dropped t d c)
  drop_keeps =
      let old : (d' : ℕ) (c' : List ℕ) (z : Entry) → find (without d c t.entries) d' c' ≡ Some z → find t.entries d' c' ≡ Some z =
      λ d' c' z h. without_old t.entries d c d' c' z h in
      record {
        distinct = Distinct-without t.entries d c well.distinct;
        past_root = well.past_root;
        low = λ d' c' z h. well.low d' c' z (old d' c' z h);
        one_kind = λ d' c' d'' c'' x y hx hy same. well.one_kind d' c' d'' c'' x y (old d' c' x hx) (old d'' c'' y hy) same;
        one_entry = λ d' c' d'' c'' x y hx hy same directory. well.one_entry d' c' d'' c'' x y (old d' c' x hx)
            (old d'' c'' y hy) same directory;
        rooted = λ d' c' z h. let (n, l) = well.rooted d' c' z (old d' c' z h) in (n, leads-without n d' (c', z, old d' c' z h) l);
        named = λ d' c' z h. well.named d' c' z (old d' c' z h);
      }

pub unlink_keeps : (t u : Tree) (d : ℕ) (c : List ℕ) → WellFormed t → unlink t d c ≡ Ok u → WellFormed u
unlink_keeps t u d c well h =
    elim (find t.entries d c) as (λ (o : Option Entry). find t.entries d c ≡ o → unlink_at t d c o ≡ Ok u → WellFormed u) [
      | None ↦ λ is q. absurd (err-ok ENOENT u q)
      | Some e ↦ λ is q. elim (is_directory e.kind) as (λ (b : Bool). is_directory e.kind ≡ b →
          (if b then Err EISDIR else Ok (dropped t d c)) ≡ Ok u → WellFormed u) [
            | true ↦ λ directory r. absurd (err-ok EISDIR u r)
            | false ↦ λ directory r. subst WellFormed (same_Ok _ u r)
                (drop_keeps t well d c e is (λ p. absurd (true≢false (sym p ∙ directory))))
          ] refl q
    ] refl h

pub rmdir_keeps : (t u : Tree) (d : ℕ) (c : List ℕ) → WellFormed t → rmdir t d c ≡ Ok u → WellFormed u
rmdir_keeps t u d c well h =
    elim (find t.entries d c) as (λ (o : Option Entry). find t.entries d c ≡ o → rmdir_at t d c o ≡ Ok u → WellFormed u) [
      | None ↦ λ is q. absurd (err-ok ENOENT u q)
      | Some e ↦ λ is q. elim (is_directory e.kind) as
          (λ (b : Bool). (if b then (if is_empty t.entries e.node then Ok (dropped t d c) else Err ENOTEMPTY) else Err ENOTDIR) ≡ Ok u →
          WellFormed u) [
            | true ↦ λ r. elim (is_empty t.entries e.node) as (λ (b : Bool). is_empty t.entries e.node ≡ b →
                (if b then Ok (dropped t d c) else Err ENOTEMPTY) ≡ Ok u → WellFormed u) [
                  | true ↦ λ empty s. subst WellFormed (same_Ok _ u s) (drop_keeps t well d c e is (λ p. empty))
                  | false ↦ λ empty s. absurd (err-ok ENOTEMPTY u s)
                ] refl r
            | false ↦ λ r. absurd (err-ok ENOTDIR u r)
          ] q
    ] refl h
