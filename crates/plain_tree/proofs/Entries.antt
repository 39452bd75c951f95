-- An entry of a plain tree, and what it stands for.
use Rattle.std.proofs.Common.{◌≡◌, ℕ, ◌≤◌, ◌==◌, Bool, true, false, List, length, Bor, Some, None, Option, sym, refl, ap, ◌∙◌, subst}
use Rattle.std.proofs.Common.{eqb-true, ne_eqb, arith, true≢false}
use Rattle.std.specs.Prelude.{if◌then◌else◌, IsSome, is_some, IfSome}
use Rattle.directory_tree.proofs.Placement.{root_nowhere}
use Rattle.std.specs.Option.{option_map, option_copied}
use Rattle.plain_tree.specs.declared.directory.Node.{Node}
use Rattle.plain_tree.specs.declared.directory.Parent.{Parent}
use Rattle.plain_tree.specs.declared.entry.EntryKey.{EntryKey}
use Rattle.plain_tree.specs.declared.entry.PlainEntry.{PlainEntry}
use Rattle.plain_tree.specs.declared.entry.PlainEntry.TheVariants as entry
use Rattle.directory_tree.specs.Tree.{Tree, Entry, WellFormed, root, find, own_entry}
use Rattle.directory_tree.specs.Walk.{Spot, spot_of}
use Rattle.directory_tree.specs.Walk.Spot.{Root, Held}
use Rattle.directory_tree.specs.Spots.{component_at, directory_of}
use Rattle.plain_tree.specs.inner.Mirror.{node_for, parent_for, some_parent, stands_at, IsShortText}
use Rattle.plain_tree.specs.PlainEntry.{key_component, spot_at, means_in, knows_in}
use Rattle.std.proofs.lemmas.Option.{none-some, same_Some}
use Rattle.directory_tree.specs.laws.Found.{found_at}
use Rattle.directory_tree.proofs.Walks.{own_entry_found}
use Rattle.plain_tree.proofs.Held.{AllShort}
use Rattle.plain_tree.proofs.Carried.{some_of}

-- the lengths of what is found
pub found_fits : (t : Tree) (d : ℕ) (c : List ℕ) → AllShort t → IsSome (find t.entries d c) → length c ≤ 255
found_fits t d c short some =
    let (e, is) = some_of (find t.entries d c) some in
    subst (λ (x : List ℕ). length x ≤ 255) (found_at t.entries d c e is).1 (short d c e is).component_fits

pub text_fits : (t : Tree) (d : ℕ) (c : List ℕ) (n : Node) → AllShort t → Some n ≡ option_map node_for (find t.entries d c) →
    IsShortText n.kind
text_fits t d c n short h = elim (find t.entries d c) as (λ (o : Option Entry). find t.entries d c ≡ o → Some n ≡ option_map node_for o →
    IsShortText n.kind) [
      | None ↦ λ is q. absurd (none-some n (sym q))
      | Some e ↦ λ is q. subst (λ (m : Node). IsShortText m.kind) (same_Some (node_for e) n (sym q)) (short d c e is).text_fits
    ] refl h

pub parent_fits : (t : Tree) (d : ℕ) (p : Parent) → WellFormed t → AllShort t → Some p ≡ option_map parent_for (own_entry t.entries d) →
    length p.component ≤ 255
parent_fits t d p well short h = elim (own_entry t.entries d) as (λ (o : Option Entry). own_entry t.entries d ≡ o →
    Some p ≡ option_map parent_for o → length p.component ≤ 255) [
      | None ↦ λ is q. absurd (none-some p (sym q))
      | Some e ↦ λ is q. subst (λ (x : Parent). length x.component ≤ 255) (same_Some (parent_for e) p (sym q))
          (short e.of e.component e (own_entry_found t.entries d e well.distinct is).found).component_fits
    ] refl h

mapped_some : (o : Option Entry) → IsSome (option_map node_for o) → IsSome o
mapped_some None h = h
mapped_some (Some e) h = h

-- the same for what a search returns
pub node_fits : (t : Tree) (d : ℕ) (c : List ℕ) (r : Option (Bor Node)) → AllShort t → option_copied r ≡ option_map node_for
    (find t.entries d c) → IsSome r → length c ≤ 255
node_fits t d c None short h some = absurd (true≢false (sym some))
node_fits t d c (Some n) short h some = found_fits t d c short (mapped_some (find t.entries d c) (sym (ap is_some h)))

pub node_text : (t : Tree) (d : ℕ) (c : List ℕ) (r : Option (Bor Node)) → AllShort t → option_copied r ≡ option_map node_for
    (find t.entries d c) → IfSome r (λ n. IsShortText n.now.kind)
node_text t d c None short h = tt
node_text t d c (Some n) short h = text_fits t d c n.now short h

pub parent_short : (t : Tree) (d : ℕ) (r : Option (Bor Parent)) → WellFormed t → AllShort t → option_copied r ≡ option_map parent_for
    (own_entry t.entries d) → IfSome r (λ p. length p.now.component ≤ 255)
parent_short t d None well short h = tt
parent_short t d (Some p) well short h = parent_fits t d p.now well short h

-- ---- the answers of a look
held_found : (t : Tree) (e : PlainEntry) (key : EntryKey) → e ≡ entry.Held key → knows_in t e → (z : Entry) × (means_in t e ≡ Held z)
    × (z.of ≡ key.of) × (z.component ≡ key_component key)
held_found t e key is known =
    let k : knows_in t (entry.Held key) = subst (knows_in t) is known in
    let (z, at) = some_of (find t.entries key.of (key_component key)) k.1 in
    let spot = found_at t.entries key.of (key_component key) z at in
    (z, ap (means_in t) is ∙ ap spot_at at, spot.0, spot.1)

pub component_known : (t : Tree) (e : PlainEntry) (key : EntryKey) → e ≡ entry.Held key → knows_in t e → component_at (means_in t e)
    ≡ key_component key
component_known t e key is known = let (z, at, of, component) = held_found t e key is known in ap component_at at ∙ component

pub directory_known : (t : Tree) (e : PlainEntry) (key : EntryKey) → e ≡ entry.Held key → knows_in t e → directory_of t (means_in t e)
    ≡ Some (spot_of t key.of)
directory_known t e key is known = let (z, at, of, component) = held_found t e key is known in ap (directory_of t) at
    ∙ ap (λ (d : ℕ). Some (spot_of t d)) of

abbrev spot_from : Bool → Option Entry → Spot
spot_from b o = if b then Root else elim o as (λ _. Spot) [ None ↦ Root | Some e ↦ Held e ]

pub parent_none : (t : Tree) (d : ℕ) → None ≡ option_map parent_for (own_entry t.entries d) → spot_of t d ≡ Root
parent_none t d h = elim (d == root) as (λ (b : Bool). spot_from b (own_entry t.entries d) ≡ Root) [
  | true ↦ refl
  | false ↦ elim (own_entry t.entries d) as (λ (o : Option Entry). None ≡ option_map parent_for o → spot_from false o ≡ Root) [
    | None ↦ λ q. refl
    | Some y ↦ λ q. absurd (none-some (parent_for y) q)
  ] h
]

pub parent_some : (t : Tree) (d : ℕ) (p : Parent) (k : EntryKey) → WellFormed t → Some p ≡ option_map parent_for (own_entry t.entries d) →
    k.of ≡ p.of → key_component k ≡ p.component
    → IsSome (find t.entries k.of (key_component k)) × (spot_of t d ≡ means_in t (entry.Held k))
parent_some t d p k well h of component = elim (own_entry t.entries d) as (λ (o : Option Entry). own_entry t.entries d ≡ o →
    Some p ≡ option_map parent_for o → IsSome (find t.entries k.of (key_component k)) × (spot_of t d ≡ means_in t (entry.Held k))) [
      | None ↦ λ is q. absurd (none-some p (sym q))
      | Some y ↦ λ is q.
          let same : parent_for y ≡ p = same_Some (parent_for y) p (sym q) in
          let at = own_entry_found t.entries d y well.distinct is in
          let found : find t.entries k.of (key_component k) ≡ Some y =
          (λ i. find t.entries ((of ∙ ap (λ (x : Parent). x.of) (sym same)) i)
          ((component ∙ ap (λ (x : Parent). x.component) (sym same)) i)) ∙ at.found in
          let past : (d == root) ≡ false = elim (d == root) as (λ (b : Bool). (d == root) ≡ b → b ≡ false) [
            | true ↦ λ e. absurd (none-some y (sym (root_nowhere t well) ∙ ap (own_entry t.entries) (sym (eqb-true d root e)) ∙ is))
            | false ↦ λ e. refl
          ] refl in (
            ap is_some found,
            (λ i. spot_from (past i) (is i)) ∙ sym (ap spot_at found),
          )
    ] refl h

-- the next number is no directory's yet
pub next_nowhere : (t : Tree) (n : ℕ) → WellFormed t → n ≡ t.next → stands_at t n ≡ None
next_nowhere t n well is =
    let past : (n == root) ≡ false = let low = well.past_root in ne_eqb n root (λ p. absurd (omega arith)) in
    let none : own_entry t.entries n ≡ None = elim (own_entry t.entries n) as (λ (o : Option Entry). own_entry t.entries n ≡ o →
    o ≡ None) [
      | None ↦ λ at. refl
      | Some e ↦ λ at. let p = own_entry_found t.entries n e well.distinct at in let node = p.node in let high =
          (well.low e.of e.component e p.found).1 in absurd (omega arith)
    ] refl in
    (λ i. if past i then Some None else option_map some_parent (none i))
