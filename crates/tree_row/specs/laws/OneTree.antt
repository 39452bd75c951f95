-- A row encodes one tree's entries.
use Rattle.std.proofs.Common.{◌≡◌, ℕ, List, Some, None, Option, sym, refl, ◌∙◌, subst}
use Rattle.directory_tree.specs.Tree.{Tree, Entry, Has, find}
use Rattle.std.proofs.lemmas.Option.{none-some}
use Rattle.directory_tree.specs.laws.Found.{found_at}
use Rattle.tree_row.specs.Rows.{Encodes}

has_too : (capacity : ℕ) (row : List ℕ) (t u : Tree) → Encodes capacity row t → Encodes capacity row u → (d : ℕ) (c : List ℕ) (e : Entry) →
    Has t d c e → Has u d c e
has_too capacity row t u a b d c e h =
    let (s, used, is) = a.slots.held d c e h in
    let key = found_at t.entries d c e h in
    let there = b.slots.there s used in
    subst (λ (z : ℕ). find u.entries z c ≡ Some e) key.0 (subst (λ (z : List ℕ). find u.entries e.of z ≡ Some e) key.1
    (subst (λ (z : Entry). find u.entries z.of z.component ≡ Some z) is there))

pub same_tree : (capacity : ℕ) (row : List ℕ) (t u : Tree) → Encodes capacity row t → Encodes capacity row u → (d : ℕ) (c : List ℕ) →
    find t.entries d c ≡ find u.entries d c
same_tree capacity row t u a b d c =
    elim (find t.entries d c) as (λ (o : Option Entry). find t.entries d c ≡ o → find t.entries d c ≡ find u.entries d c) [
      | Some e ↦ λ is. is ∙ sym (has_too capacity row t u a b d c e is)
      | None ↦ λ is. elim (find u.entries d c) as (λ (o : Option Entry). find u.entries d c ≡ o → find t.entries d c
          ≡ find u.entries d c) [
            | Some e ↦ λ was. absurd (none-some e (sym is ∙ has_too capacity row u t b a d c e was))
            | None ↦ λ was. is ∙ sym was
          ] refl
    ] refl
