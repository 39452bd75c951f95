-- An accepted rename keeps a tree well-formed.
use Rattle.std.proofs.Common.{◌≡◌, ℕ, zero, suc, ◌==◌, ◌≢◌, ◌&&◌, Bool, true, false, List, length, Some, None, Option, sym, refl, ap, ◌∙◌}
use Rattle.std.proofs.Common.{subst, eq-eqb, true≢false}
use Rattle.std.specs.Prelude.{if◌then◌else◌, Ok, Err}
use Rattle.names.specs.declared.errors.Errno.TheVariants.{ENOENT, EINVAL}
use Rattle.directory_tree.specs.Components.{IsComponent}
use Rattle.directory_tree.specs.Tree.{Tree, Entry, WellFormed, find, leads, is_directory, is_empty, is_below}
use Rattle.directory_tree.specs.Apply.{without, dropped, placed, moved, goes_below, onto_kind, rename, rename_from, rename_onto}
use Rattle.directory_tree.specs.laws.Found.{Apart, find-without_same, find-without_other, without-none}
use Rattle.std.proofs.lemmas.Option.{same_Some}
use Rattle.names.specs.laws.Results.{err-ok, same_Ok}
use Rattle.directory_tree.proofs.Walks.{own_entry_found}
use Rattle.directory_tree.proofs.Depth.{Deep, deep, shallow}
use Rattle.directory_tree.proofs.Drops.{HasEntry, own_entry-without, kept_place, drop_keeps}
use Rattle.directory_tree.proofs.Accepted.{gives_way}
use Rattle.directory_tree.proofs.Moves.{Avoids, not_below, move_keeps}

-- no climb meets a node that isn't a directory
file_avoids : (t : Tree) → WellFormed t → (d : ℕ) (c : List ℕ) (old : Entry) → find t.entries d c ≡ Some old → is_directory old.kind
    ≡ false → (m x : ℕ) → Deep t.entries m x → Avoids t.entries old.node m x
file_avoids t well d c old is file zero x up = up
file_avoids t well d c old is file (suc m) x (e, at, apart, up) =
    let p = own_entry_found t.entries x e well.distinct at in (
      e,
      at,
      apart,
      (λ q. true≢false (sym p.directory ∙ ap is_directory (well.one_kind e.of e.component d c e old p.found is (p.node ∙ q)) ∙ file)),
      file_avoids t well d c old is file m e.of up,
    )

-- no climb from a directory outside of what moves meets what moves
pub climbs : (t : Tree) → WellFormed t → (d : ℕ) (c : List ℕ) (old : Entry) → find t.entries d c ≡ Some old → (n into : ℕ) →
    leads t.entries n into ≡ true → goes_below t.entries old into ≡ false → (m : ℕ) × Avoids t.entries old.node m into
climbs t well d c old is n into up h =
    let (m, low, climb) = deep t.entries n into up in
    elim (is_directory old.kind) as (λ (b : Bool). is_directory old.kind ≡ b → (b && is_below t.entries (length t.entries) old.node into)
    ≡ false → (m : ℕ) × Avoids t.entries old.node m into) [
      | true ↦ λ q r. (m, not_below t.entries old.node m (length t.entries) into climb (shallow t.entries m into climb) r)
      | false ↦ λ q r. (m, file_avoids t well d c old is q m into climb)
    ] refl h

module _ (t : Tree) (well : WellFormed t) (d : ℕ) (c : List ℕ) (into : ℕ) (name : List ℕ) (proper : IsComponent name) (n : ℕ)
    (up : leads t.entries n into ≡ true) (old : Entry) (is : find t.entries d c ≡ Some old)
    (above : goes_below t.entries old into ≡ false) where
  onto_free : find t.entries into name ≡ None → WellFormed (moved t d c into name)
  onto_free free =
      let (m, avoids) = climbs t well d c old is n into up above in
      subst (λ (es : List Entry). WellFormed record { entries = placed d c into name es; next = t.next })
      (sym (without-none t.entries into name free)) (move_keeps t well d c into name old is free proper m avoids)

  module _ (new : Entry) (there : find t.entries into name ≡ Some new) (apart : new.node ≢ old.node)
      (loose : is_directory new.kind ≡ true → is_empty t.entries new.node ≡ true) where
    avoids_without : (m x : ℕ) → HasEntry t.entries x → Avoids t.entries old.node m x → Avoids (without into name t.entries) old.node m x
    avoids_without zero x has h = h
    avoids_without (suc m) x has (e, at, other, far, rest) = (
      e,
      own_entry-without t.entries into name x e at (kept_place t well into name new there loose x e has at),
      other,
      far,
      avoids_without m e.of (e.component, e, (own_entry_found t.entries x e well.distinct at).found) rest,
    )

    onto_other : WellFormed (moved t d c into name)
    onto_other =
        let (m, avoids) = climbs t well d c old is n into up above in
        let keys : Apart into name d c =
        λ a b. apart (ap (λ (z : Entry). z.node) (same_Some new old (sym there ∙ sym (λ i. find t.entries (a i) (b i)) ∙ is))) in
        move_keeps (dropped t into name) (drop_keeps t well into name new there loose) d c into name old
        (find-without_other t.entries into name d c keys ∙ is) (find-without_same t.entries into name) proper m
        (avoids_without m into (name, new, there) avoids)

pub rename_keeps : (t u : Tree) (d : ℕ) (c : List ℕ) (into : ℕ) (name : List ℕ) (n : ℕ) → WellFormed t → leads t.entries n into ≡ true →
    IsComponent name → rename t d c into name ≡ Ok u → WellFormed u
rename_keeps t u d c into name n well up proper h =
    elim (find t.entries d c) as (λ (o : Option Entry). find t.entries d c ≡ o → rename_from t d c into name o ≡ Ok u → WellFormed u) [
      | None ↦ λ is q. absurd (err-ok ENOENT u q)
      | Some old ↦ λ is q. elim (find t.entries into name) as (λ (o : Option Entry). find t.entries into name ≡ o →
          rename_onto t old into (Ok (moved t d c into name)) o ≡ Ok u → WellFormed u) [
            | None ↦ λ free r. elim (goes_below t.entries old into) as (λ (b : Bool). goes_below t.entries old into ≡ b →
                (if b then Err EINVAL else Ok (moved t d c into name)) ≡ Ok u → WellFormed u) [
                  | true ↦ λ below s. absurd (err-ok EINVAL u s)
                  | false ↦ λ below s. subst WellFormed (same_Ok _ u s) (onto_free t well d c into name proper n up old is below free)
                ] refl r
            | Some new ↦ λ there r. elim (new.node == old.node) as (λ (b : Bool). (new.node == old.node) ≡ b →
                (if b then Ok t else (if goes_below t.entries old into then Err EINVAL else onto_kind t.entries old new
                (Ok (moved t d c into name)))) ≡ Ok u → WellFormed u) [
                  | true ↦ λ same s. subst WellFormed (same_Ok t u s) well
                  | false ↦ λ same s. elim (goes_below t.entries old into) as (λ (b : Bool). goes_below t.entries old into ≡ b →
                      (if b then Err EINVAL else onto_kind t.entries old new (Ok (moved t d c into name))) ≡ Ok u → WellFormed u) [
                        | true ↦ λ below p. absurd (err-ok EINVAL u p)
                        | false ↦ λ below p. let k = gives_way (is_directory old.kind) (is_directory new.kind)
                            (is_empty t.entries new.node)
                            (moved t d c into name) u p in
                            subst WellFormed k.0 (onto_other t well d c into name proper n up old is below new there
                            (λ e. true≢false (sym (eq-eqb new.node old.node e) ∙ same)) k.1)
                      ] refl s
                ] refl r
          ] refl q
    ] refl h
