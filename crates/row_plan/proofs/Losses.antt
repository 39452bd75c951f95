-- The keys at which something is found before an act and nothing after it, by which acts are distinguished.
use Rattle.std.proofs.Common.{◌≡◌, ◌≢◌, ℕ, Bool, List, [], ◌∷◌, ◌++◌, Some, None, sym, refl, ap, ◌∙◌}
use Rattle.std.specs.Prelude.{if◌then◌else◌}
use Rattle.std.proofs.lemmas.List.{append_cancel_left}
use Rattle.directory_tree.specs.Tree.{Entry, find}
use Rattle.directory_tree.specs.Apply.{entry, without, placed}
use Rattle.std.proofs.lemmas.Option.{none-some}
use Rattle.directory_tree.specs.laws.Found.{find-append_old, find-append_new, find-without_same, find-without_other, find-placed_new}
use Rattle.directory_tree.specs.laws.Found.{find-placed_old, find-placed_else, is_at-same, Apart, put_at}
use Rattle.row_plan.proofs.Removals.{keys}

abbrev pub Lost : List Entry → List Entry → ℕ → List ℕ → Type 0
Lost es after d c = (was : Entry) × (find es d c ≡ Some was) × (find after d c ≡ None)

abbrev pub LosesOnly : List Entry → List Entry → ℕ → List ℕ → Type 0
LosesOnly es after d c = (d' : ℕ) (c' : List ℕ) → Lost es after d' c' → (d' ≡ d) × (c' ≡ c)

abbrev pub Keeps : List Entry → List Entry → Type 0
Keeps es after = (d : ℕ) (c : List ℕ) (e : Entry) → find es d c ≡ Some e → find after d c ≡ Some e

pub lost_is_not_kept : (es after : List Entry) (d : ℕ) (c : List ℕ) → Lost es after d c → Keeps es after → ⊥
lost_is_not_kept es after d c lost keeps = none-some lost.0 (sym lost.2 ∙ keeps d c lost.0 lost.1)

-- what is found as before isn't lost
as_before : (es after : List Entry) (d : ℕ) (c : List ℕ) → Lost es after d c → find after d c ≡ find es d c → ⊥
as_before es after d c lost same = none-some lost.0 (sym lost.2 ∙ same ∙ lost.1)

-- a new entry
pub grown_keeps : (es : List Entry) (x : Entry) → Keeps es (es ++ x ∷ [])
grown_keeps es x d c e is = find-append_old es x d c e is

pub grown_is_more : (es : List Entry) (x : Entry) → find es x.of x.component ≡ None → es ++ x ∷ [] ≡ es → ⊥
grown_is_more es x free same =
    none-some x (sym free ∙ ap (λ (z : List Entry). find z x.of x.component) (sym same) ∙ find-append_new es x x.of x.component free
    ∙ ap (λ (b : Bool). if b then Some x else None) (is_at-same x.of x.component x refl refl))

-- the new entries that leave the same are the same
pub grown_alike : (es : List Entry) (x y : Entry) → es ++ x ∷ [] ≡ es ++ y ∷ [] → x ≡ y
grown_alike es x y same = ap (λ (zs : List Entry). elim zs [ [] ↦ x | z ∷ rest ↦ z ]) (append_cancel_left es (x ∷ []) (y ∷ []) same)

-- an entry that is removed
module _ (es : List Entry) (d : ℕ) (c : List ℕ) (e : Entry) (is : find es d c ≡ Some e) where
  pub gone_lost : Lost es (without d c es) d c
  gone_lost = (e, is, find-without_same es d c)

  pub gone_only : LosesOnly es (without d c es) d c
  gone_only d' c' lost = keys d c d' c' (λ same. same)
      (λ apart. absurd (as_before es (without d c es) d' c' lost (find-without_other es d c d' c' apart)))

-- an entry that moves
module _ (es : List Entry) (d : ℕ) (c : List ℕ) (into : ℕ) (name : List ℕ) (e : Entry) (is : find es d c ≡ Some e) (other : (y : Entry) →
    find es into name ≡ Some y → y.node ≢ e.node) where
  abbrev after : List Entry
  after = placed d c into name (without into name es)

  abbrev new : Entry
  new = entry into name e.node e.kind

  new_apart : Apart d c into name
  new_apart a b = other e ((λ i. find es (a i) (b i)) ∙ is) refl

  pub moved_there : find after into name ≡ Some new
  moved_there = find-placed_new d c into name new_apart (without into name es) (find-without_same es into name)
      ∙ ap (put_at into name) (find-without_other es into name d c (λ a b. new_apart (sym a) (sym b)) ∙ is)

  pub moved_lost : Lost es after d c
  moved_lost = (e, is, find-placed_old d c into name new_apart (without into name es))

  pub moved_else : (d' : ℕ) (c' : List ℕ) → Apart d c d' c' → Apart into name d' c' → find after d' c' ≡ find es d' c'
  moved_else d' c' one two = find-placed_else d c into name new_apart (without into name es) d' c' one two
      ∙ find-without_other es into name d' c' two

  pub moved_only : LosesOnly es after d c
  moved_only d' c' lost = keys d c d' c' (λ same. same) (λ one. keys into name d' c'
      (λ same. absurd (none-some new (sym lost.2 ∙ (λ i. find after (same.0 i) (same.1 i)) ∙ moved_there)))
      (λ two. absurd (as_before es after d' c' lost (moved_else d' c' one two))))

  -- it isn't what another act leaves that loses the same key, except by a move to the same key
  pub moved_not_gone : without d c es ≡ after → ⊥
  moved_not_gone same = other new (sym (find-without_other es d c into name new_apart) ∙ ap (λ (z : List Entry). find z into name) same
      ∙ moved_there) refl

-- two moves from one key that leave the same go to one key
pub moved_alike : (es : List Entry) (d : ℕ) (c : List ℕ) (into : ℕ) (name : List ℕ) (into' : ℕ) (name' : List ℕ) (e : Entry) →
    find es d c ≡ Some e → ((y : Entry) → find es into name ≡ Some y → y.node ≢ e.node)
    → ((y : Entry) → find es into' name' ≡ Some y → y.node ≢ e.node) → placed d c into name (without into name es) ≡ placed d c into' name'
    (without into' name' es) → (into ≡ into') × (name ≡ name')
moved_alike es d c into name into' name' e is other other' same =
    let here = ap (λ (z : List Entry). find z into name) (sym same) ∙ moved_there es d c into name e is other in
    keys into' name' into name (λ k. k)
    (λ apart. absurd (other (entry into name e.node e.kind)
    (sym (moved_else es d c into' name' e is other' into name (new_apart es d c into name e is other) apart) ∙ here) refl))
