-- A new entry keeps the tree well formed.
use Rattle.std.proofs.Common.{◌≡◌, ℕ, zero, suc, ◌+◌, ◌<◌, ◌≤◌, ◌==◌, ◌&&◌, Bool, true, false, List, [], ◌∷◌, ◌++◌, Some, None, Option}
use Rattle.std.proofs.Common.{sym, refl, ap, ◌∙◌, subst, arith, true≢false}
use Rattle.std.specs.Prelude.{if◌then◌else◌}
use mathlib.Core.Logic.{◌⊎◌, inl, inr}
use Rattle.directory_tree.specs.declared.node.NodeKind.{NodeKind}
use Rattle.directory_tree.specs.declared.node.NodeKind.TheVariants.{Directory, File, Link}
use Rattle.directory_tree.specs.Tree.{Tree, Entry, WellFormed, root, Distinct, find, own_entry, leads, is_at, is_directory}
use Rattle.std.specs.Prelude.{Ok, Err}
use Rattle.names.specs.declared.errors.Errno.TheVariants.{EPERM, ENOENT, EEXIST, ENOSPC}
use Rattle.directory_tree.specs.Apply.{entry, with_entry, make, make_at, is_file, link, link_to, link_from}
use Rattle.directory_tree.specs.Components.{IsComponent}
use Rattle.directory_tree.specs.laws.Found.{find-append_old, find-append_new, at_once, is_at-same, found_at}
use Rattle.std.proofs.lemmas.Option.{none-some, same_Some}
use Rattle.names.specs.laws.Results.{err-ok, same_Ok}

Distinct-append : (es : List Entry) (e : Entry) → Distinct es → find es e.of e.component ≡ None → Distinct (es ++ e ∷ [])
Distinct-append [] e distinct h = (refl, tt)
Distinct-append (y ∷ es) e distinct h =
    elim (is_at e.of e.component y) as (λ (b : Bool). is_at e.of e.component y ≡ b → (if b then Some y else find es e.of e.component)
    ≡ None → Distinct (y ∷ es ++ e ∷ [])) [
      | true ↦ λ q r. absurd (none-some y (sym r))
      | false ↦ λ q r. (
        find-append_new es e y.of y.component distinct.0
            ∙ elim (is_at y.of y.component e) as (λ (b : Bool). is_at y.of y.component e ≡ b → (if b then Some e else None) ≡ None) [
              | true ↦ λ p. let k = at_once y.of y.component e.of e.component p in
                  absurd (true≢false (sym (is_at-same e.of e.component y (sym k.0) (sym k.1)) ∙ q))
              | false ↦ λ p. refl
            ] refl,
        Distinct-append es e distinct.1 r,
      )
    ] refl h

own_entry-append : (es : List Entry) (y : Entry) (d : ℕ) (x : Entry) → own_entry es d ≡ Some x → own_entry (es ++ y ∷ []) d ≡ Some x
own_entry-append [] y d x h = absurd (none-some x h)
own_entry-append (z ∷ es) y d x h =
    elim ((z.node == d) && is_directory z.kind) as (λ (b : Bool). (if b then Some z else own_entry es d) ≡ Some x →
    (if b then Some z else own_entry (es ++ y ∷ []) d) ≡ Some x) [
      | true ↦ λ p. p
      | false ↦ λ p. own_entry-append es y d x p
    ] h

leads-append : (es : List Entry) (y : Entry) (n d : ℕ) → leads es n d ≡ true → leads (es ++ y ∷ []) n d ≡ true
leads-append es y zero d h = h
leads-append es y (suc n) d h =
    elim (d == 1) as (λ (b : Bool). (if b then true else elim (own_entry es d) as (λ _. Bool) [ None ↦ false | Some e ↦ leads es n e.of ])
    ≡ true → (if b then true else elim (own_entry (es ++ y ∷ []) d) as (λ _. Bool)
    [ None ↦ false | Some e ↦ leads (es ++ y ∷ []) n e.of ]) ≡ true) [
      | true ↦ λ p. refl
      | false ↦ λ p. elim (own_entry es d) as (λ (o : Option Entry). own_entry es d ≡ o →
          (elim o as (λ _. Bool) [ None ↦ false | Some e ↦ leads es n e.of ]) ≡ true →
          (elim (own_entry (es ++ y ∷ []) d) as (λ _. Bool) [ None ↦ false | Some e ↦ leads (es ++ y ∷ []) n e.of ]) ≡ true) [
            | None ↦ λ is q. absurd (cc q)
            | Some e ↦ λ is q. ap (λ (o : Option Entry). elim o as (λ _. Bool) [ None ↦ false | Some e ↦ leads (es ++ y ∷ []) n e.of ])
                (own_entry-append es y d e is) ∙ leads-append es y n e.of q
          ] refl p
    ] h

old_or_new : (es : List Entry) (e : Entry) (d : ℕ) (c : List ℕ) (z : Entry) → find (es ++ e ∷ []) d c ≡ Some z →
    (find es d c ≡ Some z) ⊎ (e ≡ z)
old_or_new es e d c z h =
    elim (find es d c) as (λ (o : Option Entry). find es d c ≡ o → (find es d c ≡ Some z) ⊎ (e ≡ z)) [
      | Some x ↦ λ is. inl (is ∙ sym (find-append_old es e d c x is) ∙ h)
      | None ↦ λ is. elim (is_at d c e) as (λ (b : Bool). (if b then Some e else None) ≡ Some z → (find es d c ≡ Some z) ⊎ (e ≡ z)) [
        | true ↦ λ q. inr (same_Some e z q)
        | false ↦ λ q. absurd (none-some z q)
      ] (sym (find-append_new es e d c is) ∙ h)
    ] refl

-- a new entry keeps a tree well-formed
pub add_keeps : (t : Tree) (new : Entry) (next : ℕ) → WellFormed t → find t.entries new.of new.component ≡ None → (n : ℕ) →
    leads t.entries n new.of ≡ true → IsComponent new.component
    → root < new.node → new.node < next → t.next ≤ next
    → ((d : ℕ) (c : List ℕ) (z : Entry) → find t.entries d c ≡ Some z → z.node ≡ new.node → z.kind ≡ new.kind)
    → ((d : ℕ) (c : List ℕ) (z : Entry) → find t.entries d c ≡ Some z → z.node ≡ new.node → is_directory new.kind ≡ true → ⊥)
    → WellFormed (with_entry t new next)
add_keeps t new next well free n up proper past under more kin lone =
    record {
      distinct = Distinct-append t.entries new well.distinct free;
      low = λ d' c' z h. elim (old_or_new t.entries new d' c' z h) [
        | inl is ↦ let l = well.low d' c' z is in (l.0, (let a = l.1 in omega arith))
        | inr is ↦ subst (λ (x : Entry). (root < x.node) × (x.node < next)) is (past, under)
      ];
      past_root = let p = well.past_root in omega arith;
      one_kind = λ d' c' d'' c'' x y hx hy same. elim (old_or_new t.entries new d' c' x hx) [
        | inl a ↦ elim (old_or_new t.entries new d'' c'' y hy) [
          | inl b ↦ well.one_kind d' c' d'' c'' x y a b same
          | inr b ↦ kin d' c' x a (same ∙ ap (λ (z : Entry). z.node) (sym b)) ∙ ap (λ (z : Entry). z.kind) b
        ]
        | inr a ↦ elim (old_or_new t.entries new d'' c'' y hy) [
          | inl b ↦ sym (kin d'' c'' y b (sym same ∙ ap (λ (z : Entry). z.node) (sym a)) ∙ ap (λ (z : Entry). z.kind) a)
          | inr b ↦ ap (λ (z : Entry). z.kind) (sym a ∙ b)
        ]
      ];
      one_entry = λ d' c' d'' c'' x y hx hy same directory. elim (old_or_new t.entries new d' c' x hx) [
        | inl a ↦ elim (old_or_new t.entries new d'' c'' y hy) [
          | inl b ↦ well.one_entry d' c' d'' c'' x y a b same directory
          | inr b ↦ let q : x.node ≡ new.node = same ∙ ap (λ (z : Entry). z.node) (sym b) in
              absurd (lone d' c' x a q (ap is_directory (sym (kin d' c' x a q)) ∙ directory))
        ]
        | inr a ↦ elim (old_or_new t.entries new d'' c'' y hy) [
          | inl b ↦ absurd (lone d'' c'' y b (sym same ∙ ap (λ (z : Entry). z.node) (sym a))
              (ap (λ (z : Entry). is_directory z.kind) a ∙ directory))
          | inr b ↦ sym a ∙ b
        ]
      ];
      rooted = λ d' c' z h. elim (old_or_new t.entries new d' c' z h) [
        | inl is ↦ let (m, l) = well.rooted d' c' z is in (m, leads-append t.entries new m d' l)
        | inr is ↦ (
          n,
          subst (λ (k : ℕ). leads (t.entries ++ new ∷ []) n k ≡ true)
              (ap (λ (x : Entry). x.of) is ∙ (found_at (t.entries ++ new ∷ []) d' c' z h).0) (leads-append t.entries new n new.of up),
        )
      ];
      named = λ d' c' z h. elim (old_or_new t.entries new d' c' z h) [
        | inl is ↦ well.named d' c' z is
        | inr is ↦ subst (λ (x : Entry). IsComponent x.component) is proper
      ];
    }

pub make_keeps : (t u : Tree) (room : Bool) (kind : NodeKind) (d : ℕ) (c : List ℕ) (n : ℕ) → WellFormed t → leads t.entries n d ≡ true →
    IsComponent c → make t room kind d c ≡ Ok u → WellFormed u
make_keeps t u room kind d c n well up proper h =
    elim (find t.entries d c) as (λ (o : Option Entry). find t.entries d c ≡ o → make_at t room kind d c o ≡ Ok u → WellFormed u) [
      | Some e ↦ λ is q. absurd (err-ok EEXIST u q)
      | None ↦ λ is q. elim room as (λ (b : Bool). make_at t b kind d c None ≡ Ok u → WellFormed u) [
        | true ↦ λ r. subst WellFormed (same_Ok _ u r) (add_keeps t (entry d c t.next kind) (t.next + 1) well is n up proper well.past_root
            (omega arith) (omega arith)
            (λ d' c' z hz same. let l = (well.low d' c' z hz).1 in absurd (omega arith)) (λ d' c' z hz same directory. let l =
            (well.low d' c' z hz).1 in absurd (omega arith)))
        | false ↦ λ r. absurd (err-ok ENOSPC u r)
      ] q
    ] refl h

no_directory : (k : NodeKind) → is_file k ≡ true → is_directory k ≡ true → ⊥
no_directory Directory a b = true≢false (sym a)
no_directory File a b = true≢false (sym b)
no_directory (Link text) a b = true≢false (sym b)

pub link_keeps : (t u : Tree) (room : Bool) (d : ℕ) (c : List ℕ) (into : ℕ) (name : List ℕ) (n : ℕ) → WellFormed t → leads t.entries n into
    ≡ true → IsComponent name → link t room d c into name ≡ Ok u → WellFormed u
link_keeps t u room d c into name n well up proper h =
    elim (find t.entries d c) as (λ (o : Option Entry). find t.entries d c ≡ o → link_from t room into name o ≡ Ok u → WellFormed u) [
      | None ↦ λ is q. absurd (err-ok ENOENT u q)
      | Some old ↦ λ is q. elim (is_file old.kind) as (λ (b : Bool). is_file old.kind ≡ b →
          (if b then link_to t room old into name (find t.entries into name) else Err EPERM) ≡ Ok u → WellFormed u) [
            | false ↦ λ file r. absurd (err-ok EPERM u r)
            | true ↦ λ file r. elim (find t.entries into name) as (λ (o : Option Entry). find t.entries into name ≡ o →
                link_to t room old into name o ≡ Ok u → WellFormed u) [
                  | Some e ↦ λ there s. absurd (err-ok EEXIST u s)
                  | None ↦ λ free s. elim room as (λ (b : Bool). link_to t b old into name None ≡ Ok u → WellFormed u) [
                    | true ↦ λ p. let l = well.low d c old is in subst WellFormed (same_Ok _ u p)
                        (add_keeps t (entry into name old.node old.kind) t.next well free n up proper l.0 l.1 (omega arith)
                        (λ d' c' z hz same. well.one_kind d' c' d c z old hz is same)
                        (λ d' c' z hz same directory. no_directory old.kind file directory))
                    | false ↦ λ p. absurd (err-ok ENOSPC u p)
                  ] s
                ] refl r
          ] refl q
    ] refl h
