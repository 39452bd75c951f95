-- The names of entries in a tree in which an entry moved.
use Rattle.std.proofs.Common.{◌≡◌, ℕ, ◌&&◌, Bool, true, false, List, [], ◌∷◌, ◌++◌, length, Some, None, Option, sym, refl, ap, ◌∙◌, subst}
use Rattle.std.proofs.Common.{append_assoc, true≢false}
use Rattle.std.specs.Prelude.{if◌then◌else◌, Ok}
use mathlib.Core.Logic.{inl, inr}
use Rattle.directory_tree.specs.Components.{IsComponent, slash}
use Rattle.directory_tree.specs.Tree.{Tree, Entry, Has, WellFormed, find, leads, is_at, is_directory, is_below}
use Rattle.directory_tree.specs.Walk.Spot.{Held}
use Rattle.directory_tree.specs.Name.{name_of, directory_name}
use Rattle.directory_tree.specs.Place.{place_name}
use Rattle.directory_tree.specs.Moves.{IsWithin, IsMove, StandsAt}
use Rattle.directory_tree.specs.Apply.{entry, moved, rename, goes_below, place_one}
use Rattle.directory_tree.proofs.Renames.{climbs}
use Rattle.std.proofs.lemmas.Bool.{and_parts}
use Rattle.directory_tree.specs.laws.Found.{found_at, is_at-same, Apart}
use Rattle.directory_tree.proofs.Depth.{deep}
use Rattle.directory_tree.proofs.Renames.{rename_keeps}
use Rattle.directory_tree.proofs.Placement.{is_gone, find_new}
use Rattle.directory_tree.proofs.Accepted.{Loose, accepted, own_entry_other, own_entry_old, at_old, found_still, found_before}
use Rattle.directory_tree.proofs.Fronts.{kept_there, far_name, near_name}

-- the entry e is f after the move, and only the front of its name changes
abbrev MovesTo : Tree → Tree → ℕ → List ℕ → ℕ → List ℕ → Entry → Entry → Type 0
MovesTo t u d c into name e f = Has u f.of f.component f × (rest : List ℕ) × (name_of t (Held e) ≡ place_name t d c ++ rest)
    × (name_of u (Held f) ≡ place_name t into name ++ rest)

module _ (t : Tree) (well : WellFormed t) (d : ℕ) (c : List ℕ) (old : Entry) (is : find t.entries d c ≡ Some old) (into : ℕ)
    (name : List ℕ) (n : ℕ) (up : leads t.entries n into ≡ true) (above : goes_below t.entries old into ≡ false)
    (other : Apart d c into name) (loose : Loose t into name) (later : WellFormed (moved t d c into name)) where
  abbrev u : Tree
  u = moved t d c into name

  abbrev new : Entry
  new = entry into name old.node old.kind

  abbrev tail : Entry → List ℕ
  tail e = e.component ++ (if is_directory e.kind then slash ∷ [] else [])

  -- the directory of an entry wasn't replaced
  stays : (e : Entry) → Has t e.of e.component e → is_gone (find t.entries into name) e.of ≡ false
  stays e found = kept_there t well d c into name old is other loose later e.of (e.component, e, found)

  -- an entry elsewhere keeps its name
  name_else : (e : Entry) → Has t e.of e.component e → goes_below t.entries old e.of ≡ false → name_of u (Held e) ≡ name_of t (Held e)
  name_else e found far =
      let (k, l) = well.rooted e.of e.component e found in
      let (m, avoids) = climbs t well d c old is k e.of l far in
      ap (λ (z : List ℕ). z ++ slash ∷ tail e) (far_name t well d c into name old is other loose later m e.of (stays e found) avoids)

  -- the new place's directory wasn't replaced
  into_stays : is_gone (find t.entries into name) into ≡ false
  into_stays = elim (find t.entries into name) as (λ (o : Option Entry). find t.entries into name ≡ o → is_gone o into ≡ false) [
    | None ↦ λ there. refl
    | Some e ↦ λ there. sym (ap (λ (o : Option Entry). is_gone o into) there) ∙ kept_there t well d c into name old is other loose
        later into (name, e, there)
  ] refl

  -- the new place's directory keeps its name
  into_name : directory_name u into ≡ directory_name t into
  into_name = let (m, avoids) = climbs t well d c old is n into up above in far_name t well d c into name old is other loose later
      m into into_stays avoids

  -- the moved entry's own name
  moves_old : MovesTo t u d c into name old new
  moves_old = let spot = found_at t.entries d c old is in (
    find_new t d c into name old is other,
    (if is_directory old.kind then slash ∷ [] else []),
    (λ i. directory_name t (spot.0 i) ++ slash ∷ (spot.1 i ++ (if is_directory old.kind then slash ∷ [] else [])))
        ∙ sym (append_assoc (directory_name t d) (slash ∷ c) (if is_directory old.kind then slash ∷ [] else [])),
    ap (λ (z : List ℕ). z ++ slash ∷ tail new) into_name
        ∙ sym (append_assoc (directory_name t into) (slash ∷ name) (if is_directory old.kind then slash ∷ [] else [])),
  )

  -- the name of an entry below
  moves_below : (e : Entry) → Has t e.of e.component e → Apart d c e.of e.component → is_directory old.kind ≡ true →
      is_below t.entries (length t.entries) old.node e.of ≡ true → MovesTo t u d c into name e e
  moves_below e found far directory below =
      let free : Apart into name e.of e.component =
      λ a b. true≢false (sym (λ i. directory i && below i) ∙ ap (goes_below t.entries old) a ∙ above) in
      let there = found_still t d c into name other e found far free in
      let (k, l) = well.rooted e.of e.component e found in
      let (j, l_u) = later.rooted e.of e.component e there in
      let (m, low, climb) = deep t.entries k e.of l in
      let (m_u, low_u, climb_u) = deep u.entries j e.of l_u in
      let (rest, front, new_front) = near_name t well d c into name old is other loose later directory into_name (length t.entries) m m_u
      e.of (stays e found) below climb climb_u in (
        there,
        rest ++ slash ∷ tail e,
        ap (λ (z : List ℕ). z ++ slash ∷ tail e) front ∙ append_assoc (place_name t d c) rest (slash ∷ tail e),
        ap (λ (z : List ℕ). z ++ slash ∷ tail e) new_front ∙ append_assoc (place_name t into name) rest (slash ∷ tail e),
      )

  -- the moved entry, under another name
  moves_same : (e : Entry) → e ≡ old → MovesTo t u d c into name e (place_one d c into name e)
  moves_same e same = subst (λ (z : Entry). MovesTo t u d c into name z (place_one d c into name z)) (sym same)
      (subst (MovesTo t u d c into name old) (sym (own_entry_old t d c old is into name)) moves_old)

  -- all that is within what moves gets the new front
  moves : (e : Entry) → Has t e.of e.component e → IsWithin t old e → MovesTo t u d c into name e (place_one d c into name e)
  moves e found inside = elim inside [
    | inl same ↦ moves_same e same
    | inr (directory, below) ↦ elim (is_at d c e) as (λ (b : Bool). is_at d c e ≡ b →
        MovesTo t u d c into name e (place_one d c into name e)) [
          | true ↦ λ q. moves_same e (at_old t d c old is e found q)
          | false ↦ λ q.
              let far : Apart d c e.of e.component = λ a b. true≢false (sym (is_at-same d c e a b) ∙ q) in
              subst (MovesTo t u d c into name e) (sym (own_entry_other d c into name e far)) (moves_below e found far directory below)
        ] refl
  ]

  -- what is outside and isn't replaced stays, with its name
  remains : (e : Entry) → Has t e.of e.component e → ¬ (IsWithin t old e) → ¬ (StandsAt into name e) → Has u e.of e.component e
      × (name_of u (Held e) ≡ name_of t (Held e))
  remains e found beyond free = (
    found_still t d c into name other e found (λ a b. beyond (inl (at_old t d c old is e found (is_at-same d c e a b))))
        (λ a b. free (a, b)),
    name_else e found (elim (goes_below t.entries old e.of) as (λ (b : Bool). goes_below t.entries old e.of ≡ b → b ≡ false) [
      | true ↦ λ q. absurd (beyond (inr (and_parts (is_directory old.kind) (is_below t.entries (length t.entries) old.node e.of) q)))
      | false ↦ λ q. refl
    ] refl),
  )

-- the moved entry and all below it get the new front
pub within : (t u : Tree) (d : ℕ) (c : List ℕ) (into : ℕ) (name : List ℕ) (n : ℕ) (old e : Entry) → WellFormed t → leads t.entries n into
    ≡ true → IsComponent name → Has t d c old → rename t d c into name ≡ Ok u → IsMove t old into name
    → Has t e.of e.component e → IsWithin t old e → MovesTo t u d c into name e (place_one d c into name e)
within t u d c into name n old e well up proper is h move found inside =
    let a = accepted t u d c into name old is h move in
    let later = subst WellFormed (sym a.tree) (rename_keeps t u d c into name n well up proper h) in
    subst (λ (v : Tree). MovesTo t v d c into name e (place_one d c into name e)) a.tree
    (moves t well d c old is into name n up a.above a.apart a.loose later e found inside)

-- all other names stay
pub others : (t u : Tree) (d : ℕ) (c : List ℕ) (into : ℕ) (name : List ℕ) (n : ℕ) (old e : Entry) → WellFormed t → leads t.entries n into
    ≡ true → IsComponent name → Has t d c old → rename t d c into name ≡ Ok u → IsMove t old into name
    → Has t e.of e.component e → ¬ (IsWithin t old e) → ¬ (StandsAt into name e) → Has u e.of e.component e
    × (name_of u (Held e) ≡ name_of t (Held e))
others t u d c into name n old e well up proper is h move found beyond free =
    let a = accepted t u d c into name old is h move in
    let later = subst WellFormed (sym a.tree) (rename_keeps t u d c into name n well up proper h) in
    subst (λ (v : Tree). Has v e.of e.component e × (name_of v (Held e) ≡ name_of t (Held e))) a.tree
    (remains t well d c old is into name n up a.above a.apart a.loose later e found beyond free)

-- every entry after the move is one from before, moved or not
pub all : (t u : Tree) (d : ℕ) (c : List ℕ) (into : ℕ) (name : List ℕ) (old f : Entry) → WellFormed t → Has t d c old →
    rename t d c into name ≡ Ok u → IsMove t old into name → Has u f.of f.component f
    → (e : Entry) × Has t e.of e.component e × (f ≡ place_one d c into name e)
all t u d c into name old f well is h move found =
    let a = accepted t u d c into name old is h move in
    found_before t d c old is into name a.apart f (subst (λ (v : Tree). Has v f.of f.component f) (sym a.tree) found)
