-- What an accepted move does to the entries, and what it says about the tree before it.
use Rattle.std.proofs.Common.{◌≡◌, ℕ, ◌==◌, Bool, true, false, List, Some, None, Option, sym, refl, ap, ◌∙◌, eqb-true, true≢false}
use mathlib.Core.Logic.{inl, inr}
use Rattle.std.specs.Prelude.{if◌then◌else◌, Ok, Err, IfSome, ◌≢◌}
use Rattle.names.specs.declared.errors.Errno.TheVariants.{EISDIR, ENOTDIR, ENOTEMPTY, EINVAL}
use Rattle.directory_tree.specs.Tree.{Tree, Entry, Has, find, is_at, is_directory, is_empty}
use Rattle.directory_tree.specs.Moves.{IsMove}
use Rattle.directory_tree.specs.Apply.{entry, without, place_one, moved, goes_below, onto_kind, rename, rename_from, rename_onto}
use Rattle.directory_tree.specs.laws.Found.{found_at, at_once, is_at-same, Apart, find-placed_else, find-without_other}
use Rattle.std.proofs.lemmas.Option.{none-some, same_Some}
use Rattle.names.specs.laws.Results.{err-ok, same_Ok}
use Rattle.directory_tree.proofs.Presence.{own_key}
use Rattle.directory_tree.proofs.Placement.{key_apart, after_moved}

-- a directory that was at the new place was empty
abbrev pub Loose : Tree → ℕ → List ℕ → Type 0
Loose t into name = (new : Entry) → find t.entries into name ≡ Some new → is_directory new.kind ≡ true → is_empty t.entries new.node ≡ true

-- the tree afterwards is that of the move, whose new place is another, not in what moves, and free or replaced
pub record IsAccepted (t u : Tree) (d : ℕ) (c : List ℕ) (into : ℕ) (name : List ℕ) (old : Entry) : Type 0 where
  pub tree : moved t d c into name ≡ u
  pub above : goes_below t.entries old into ≡ false
  pub apart : Apart d c into name
  pub loose : Loose t into name

-- what is at the new place is replaced only if it isn't a directory, or is an empty one
pub gives_way : (directory onto empty : Bool) (m u : Tree) →
    (if directory then (if onto then (if empty then Ok m else Err ENOTEMPTY) else Err ENOTDIR) else (if onto then Err EISDIR else Ok m))
    ≡ Ok u → (m ≡ u) × (onto ≡ true → empty ≡ true)
gives_way true true true m u h = (same_Ok m u h, λ p. refl)
gives_way true true false m u h = absurd (err-ok ENOTEMPTY u h)
gives_way true false empty m u h = absurd (err-ok ENOTDIR u h)
gives_way false true empty m u h = absurd (err-ok EISDIR u h)
gives_way false false empty m u h = (same_Ok m u h, λ p. absurd (true≢false (sym p)))

-- an accepted rename with no other entry of its node at the new place is a move, not into what moves
pub accepted : (t u : Tree) (d : ℕ) (c : List ℕ) (into : ℕ) (name : List ℕ) (old : Entry) → Has t d c old → rename t d c into name ≡ Ok u →
    IsMove t old into name → IsAccepted t u d c into name old
accepted t u d c into name old is h move =
    elim (find t.entries into name) as (λ (o : Option Entry). find t.entries into name ≡ o →
    rename_onto t old into (Ok (moved t d c into name)) o ≡ Ok u → IfSome o (λ new. new.node ≢ old.node) →
    IsAccepted t u d c into name old) [
      | None ↦ λ free q far. elim (goes_below t.entries old into) as (λ (b : Bool). goes_below t.entries old into ≡ b →
          (if b then Err EINVAL else Ok (moved t d c into name)) ≡ Ok u → IsAccepted t u d c into name old) [
            | true ↦ λ below r. absurd (err-ok EINVAL u r)
            | false ↦ λ below r. record {
              tree = same_Ok _ u r;
              above = below;
              apart = λ a b. none-some old (sym free ∙ (λ i. find t.entries (a i) (b i)) ∙ is);
              loose = λ new there. absurd (none-some new (sym free ∙ there));
            }
          ] refl q
      | Some new ↦ λ there q far. elim (new.node == old.node) as (λ (b : Bool). (new.node == old.node) ≡ b →
          (if b then Ok t else (if goes_below t.entries old into then Err EINVAL else onto_kind t.entries old new
          (Ok (moved t d c into name)))) ≡ Ok u → IsAccepted t u d c into name old) [
            | true ↦ λ same r. absurd (far (eqb-true new.node old.node same))
            | false ↦ λ same r. elim (goes_below t.entries old into) as (λ (b : Bool). goes_below t.entries old into ≡ b →
                (if b then Err EINVAL else onto_kind t.entries old new (Ok (moved t d c into name))) ≡ Ok u →
                IsAccepted t u d c into name old) [
                  | true ↦ λ below s. absurd (err-ok EINVAL u s)
                  | false ↦ λ below s. let k = gives_way (is_directory old.kind) (is_directory new.kind) (is_empty t.entries new.node)
                      (moved t d c into name) u s in record {
                        tree = k.0;
                        above = below;
                        apart = λ a b. far (ap (λ (z : Entry). z.node)
                            (same_Some new old (sym there ∙ (λ i. find t.entries (a i) (b i)) ∙ is)));
                        loose = λ z at directory. let e = same_Some z new (sym at ∙ there) in
                            ap (λ (w : Entry). is_empty t.entries w.node) e
                            ∙ k.1 (ap (λ (w : Entry). is_directory w.kind) (sym e) ∙ directory);
                      }
                ] refl r
          ] refl q
    ] refl (ap (λ (o : Option Entry). rename_from t d c into name o) (sym is) ∙ h) move

-- an entry at another place stays as it is
pub own_entry_other : (d : ℕ) (c : List ℕ) (into : ℕ) (name : List ℕ) (e : Entry) → Apart d c e.of e.component →
    place_one d c into name e ≡ e
own_entry_other d c into name e other = elim (is_at d c e) as (λ (b : Bool). is_at d c e ≡ b →
    (if b then entry into name e.node e.kind else e) ≡ e) [
      | true ↦ λ q. let k = at_once d c e.of e.component q in absurd (other k.0 k.1)
      | false ↦ λ q. refl
    ] refl

-- an entry at neither place is found after the move
pub found_still : (t : Tree) (d : ℕ) (c : List ℕ) (into : ℕ) (name : List ℕ) → Apart d c into name → (e : Entry) →
    find t.entries e.of e.component ≡ Some e → Apart d c e.of e.component → Apart into name e.of e.component →
    Has (moved t d c into name) e.of e.component e
found_still t d c into name other e found far free = find-placed_else d c into name other (without into name t.entries) e.of e.component
    far free ∙ find-without_other t.entries into name e.of e.component free ∙ found

module _ (t : Tree) (d : ℕ) (c : List ℕ) (old : Entry) (is : find t.entries d c ≡ Some old) where
  -- the entry that moves gets the new place
  pub own_entry_old : (into : ℕ) (name : List ℕ) → place_one d c into name old ≡ entry into name old.node old.kind
  own_entry_old into name = let spot = found_at t.entries d c old is in
      ap (λ (b : Bool). if b then entry into name old.node old.kind else old) (is_at-same d c old spot.0 spot.1)

  -- what is found at the old place is the entry that moves
  pub at_old : (e : Entry) → Has t e.of e.component e → is_at d c e ≡ true → e ≡ old
  at_old e found q = let k = at_once d c e.of e.component q in same_Some e old (sym found ∙ (λ i. find t.entries (k.0 i) (k.1 i)) ∙ is)

  -- what is found after the move was there before, at its place or at the old one
  pub found_before : (into : ℕ) (name : List ℕ) → Apart d c into name → (f : Entry) → Has (moved t d c into name) f.of f.component f →
      (e : Entry) × Has t e.of e.component e × (f ≡ place_one d c into name e)
  found_before into name other f h = elim (after_moved t d c into name old is other f.of f.component f h) [
    | inl same ↦ (old, own_key t.entries d c old is, same ∙ sym (own_entry_old into name))
    | inr (found, far, free) ↦ (f, found, sym (own_entry_other d c into name f (key_apart d c f.of f.component far)))
  ]
