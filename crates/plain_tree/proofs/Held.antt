-- What a plain tree holds, before and after a change that is accepted.
use Rattle.std.proofs.Common.{◌≡◌, ℕ, ◌+◌, ◌<◌, ◌≤◌, ◌^◌, ◌==◌, Bool, true, false, List, [], ◌∷◌, ◌++◌, length, Some, None, Option}
use Rattle.std.proofs.Common.{sym, refl, ap, ◌∙◌, subst, arith, length-append, eqb-true}
use Rattle.std.specs.Prelude.{if◌then◌else◌, Ok, Err}
use mathlib.Core.Logic.{inl, inr}
use Rattle.directory_tree.specs.declared.change.Change.{Change}
use Rattle.plain_tree.specs.declared.store.Store.{Store}
use Rattle.directory_tree.specs.Tree.{Tree, Entry, WellFormed, Has, root, root_alone, find, own_entry}
use Rattle.directory_tree.specs.Apply.{Changed, with_entry, dropped, moved, tree_after}
use Rattle.directory_tree.specs.Plain.{Plain, tree_of, new_plain, changed, outcome, Accepted}
use Rattle.std.specs.Option.{option_map}
use Rattle.plain_tree.specs.inner.Store.{known_parent}
use Rattle.plain_tree.specs.inner.Mirror.{Mirrors, Holds, IsShort, parent_for, some_parent, stands_at}
use Rattle.std.proofs.lemmas.Option.{none-some, same_Some}
use Rattle.directory_tree.specs.laws.Found.{Apart}
use Rattle.directory_tree.proofs.Changes.{tree_after_well}
use Rattle.directory_tree.proofs.Placement.{root_nowhere, is_key, find_entered, after_moved}
use Rattle.directory_tree.proofs.Drops.{without_old}
use Rattle.directory_tree.specs.laws.OneMore.{after_more}

module _ (p : Plain) (change : Change) (u : Tree) (accepted : tree_after p.capacity p.history ≡ Ok (tree_of p))
    (is : outcome p change ≡ Ok u) where
  pub tree_next : tree_after p.capacity (p.history ++ change ∷ []) ≡ Ok u
  tree_next = after_more p.capacity 0 root_alone (tree_of p) p.history change (length p.history) (omega arith) accepted ∙ is

  pub tree_changed : tree_of (changed p change) ≡ u
  tree_changed = ap (λ (r : Changed). elim r as (λ _. Tree) [ Ok t ↦ t | Err e ↦ root_alone ]) tree_next

  pub well_changed : WellFormed u
  well_changed = tree_after_well p.capacity (p.history ++ change ∷ []) u tree_next

pub holds_well : (s : Store) (n number made : ℕ) (p : Plain) → Holds s n number made p → WellFormed (tree_of p)
holds_well s n number made p h = tree_after_well p.capacity p.history (tree_of p) h.accepted

abbrev pub AllShort : Tree → Type 0
AllShort t = (d : ℕ) (c : List ℕ) (e : Entry) → Has t d c e → IsShort e

pub holds_next : (s : Store) (n number made : ℕ) (p : Plain) (change : Change) (u : Tree) (s' : Store) (n' number' made' : ℕ) →
    Holds s n number made p → outcome p change ≡ Ok u
    → Mirrors s' u → n' ≡ length u.entries → number' ≡ u.next → made' ≡ made + 1 → number' ≤ made' + 2 → AllShort u →
    Holds s' n' number' made' (changed p change)
holds_next s n number made p change u s' n' number' made' h is mirrors count next more few short =
    let same : u ≡ tree_of (changed p change) = sym (tree_changed p change u h.accepted is) in
    record {
      capacity_fits = h.capacity_fits;
      accepted = tree_next p change u h.accepted is ∙ ap Ok same;
      mirrors = subst (Mirrors s') same mirrors;
      entries = count ∙ ap (λ (t : Tree). length t.entries) same;
      next = next ∙ ap (λ (t : Tree). t.next) same;
      version = more ∙ (let a = h.version in let b = length-append p.history (change ∷ []) in omega arith);
      few = few;
      short = subst AllShort same short;
    }

pub holds_new : (s : Store) (capacity : ℕ) → capacity < 2 ^ 64 → Mirrors s root_alone → Holds s 0 2 0 (new_plain capacity)
holds_new s capacity fits m = record {
  capacity_fits = fits;
  accepted = refl;
  mirrors = m;
  entries = refl;
  next = refl;
  version = refl;
  few = omega arith;
  short =
      λ d c e h. absurd (none-some e h);
}

-- short components and texts stay so
pub short_entered : (t : Tree) (x : Entry) (next : ℕ) → find t.entries x.of x.component ≡ None → AllShort t → IsShort x →
    AllShort (with_entry t x next)
short_entered t x next free all one d c e h =
    elim (is_key x.of x.component d c) as (λ (b : Bool). (if b then Some x else find t.entries d c) ≡ Some e → IsShort e) [
      | true ↦ λ q. subst IsShort (same_Some x e q) one
      | false ↦ λ q. all d c e q
    ] (sym (find_entered t x next free d c) ∙ h)

pub short_dropped : (t : Tree) (of : ℕ) (c : List ℕ) → AllShort t → AllShort (dropped t of c)
short_dropped t of c all d q e h = all d q e (without_old t.entries of c d q e h)

pub short_moved : (t : Tree) (of : ℕ) (c : List ℕ) (into : ℕ) (name : List ℕ) (old : Entry) → find t.entries of c ≡ Some old →
    Apart of c into name → length name ≤ 255 → AllShort t → AllShort (moved t of c into name)
short_moved t of c into name old is other fits all d q e h = elim (after_moved t of c into name old is other d q e h) [
  | inl new ↦ subst IsShort (sym new) record { component_fits = fits; text_fits = (all of c old is).text_fits }
  | inr (found, one, two) ↦ all d q e found
]

-- the same, as a function that carries out a change has it: p is what its parts were worth, and q the same value
pub holds_step : (s : Store) (n number made : ℕ) (p q : Plain) (change : Change) (u : Tree) (s' : Store) (n' number' made' : ℕ)
    (events : List Change) → p ≡ q → Holds s n number made p → outcome q change ≡ Ok u → events ≡ p.history ++ change ∷ []
    → Mirrors s' u → n' ≡ length u.entries → number' ≡ u.next → made' ≡ made + 1 → number' ≤ made' + 2 → AllShort u →
    Holds s' n' number' made' record { capacity = p.capacity; history = events }
holds_step s n number made p q change u s' n' number' made' events same h is more mirrors count next version few short =
    subst (λ (es : List Change). Holds s' n' number' made' record { capacity = p.capacity; history = es }) (sym more)
    (holds_next s n number made p change u s' n' number' made' h (ap (λ (x : Plain). outcome x change) same ∙ is) mirrors count
    next version few short)

pub accepted_step : (s : Store) (n number made : ℕ) (p q : Plain) (change : Change) (u : Tree) (made' : ℕ) (events : List Change) → p ≡ q →
    Holds s n number made p → outcome q change ≡ Ok u → events ≡ p.history ++ change ∷ []
    → made' ≡ made + 1 → Accepted q (record { capacity = p.capacity; history = events }) change made'
accepted_step s n number made p q change u made' events same h is more version =
    let now : Plain = record { capacity = p.capacity; history = events } in
    let made_of : now ≡ changed p change = ap (λ (es : List Change). let x : Plain = record { capacity = p.capacity; history = es } in x)
    more in
    let is_p : outcome p change ≡ Ok u = ap (λ (x : Plain). outcome x change) same ∙ is in (
      made_of ∙ ap (λ (x : Plain). changed x change) same,
      is ∙ ap Ok (sym (tree_changed p change u h.accepted is_p) ∙ ap tree_of (sym made_of)),
      (let a = h.version in let b = ap length more ∙ length-append p.history (change ∷ []) in omega arith),
    )

-- where a directory is, by its entry: the root has none
pub known_stands : (t : Tree) (d : ℕ) → WellFormed t → known_parent (stands_at t d) ≡ option_map parent_for (own_entry t.entries d)
known_stands t d well = elim (d == root) as (λ (b : Bool). (d == root) ≡ b →
    known_parent (if b then Some None else option_map some_parent (own_entry t.entries d))
    ≡ option_map parent_for (own_entry t.entries d)) [
      | true ↦ λ q. sym (ap (λ (x : ℕ). option_map parent_for (own_entry t.entries x)) (eqb-true d root q) ∙ ap (option_map parent_for)
          (root_nowhere t well))
      | false ↦ λ q. elim (own_entry t.entries d) as (λ (o : Option Entry). known_parent (option_map some_parent o)
          ≡ option_map parent_for o)
          [ None ↦ refl | Some e ↦ refl ]
    ] refl
