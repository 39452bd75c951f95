-- A link leads to a new entry of the file, at the place that its path named.
use Rattle.std.proofs.Common.{◌≡◌, ℕ, ◌≤◌, Bool, true, false, List, [], ◌∷◌, ◌++◌, map, length, Some, None, Option, sym, refl, ap, ◌∙◌}
use Rattle.std.proofs.Common.{subst, arith, length-append, true≢false}
use Rattle.std.specs.Prelude.{if◌then◌else◌, Result, Ok, Err}
use Rattle.std.proofs.lemmas.List.{append-nil, map-append}
use Rattle.names.specs.declared.errors.Errno.{Errno}
use Rattle.names.specs.declared.errors.Errno.TheVariants.{EPERM, ENOENT, EBUSY, EEXIST, EINVAL, ENOSPC}
use Rattle.names.specs.Paths.{filled_parts, ends_with_slash}
use Rattle.directory_tree.specs.declared.node.NodeKind.{NodeKind}
use Rattle.directory_tree.specs.declared.node.NodeKind.TheVariants.{Directory, File, Link}
use Rattle.directory_tree.specs.declared.node.Last.TheVariants.{Follow, Stay}
use Rattle.directory_tree.specs.declared.change.Change.TheVariants as change
use Rattle.directory_tree.specs.Components.{Step, step_of, steps_of, slash}
use Rattle.directory_tree.specs.Components.Step.{Down}
use Rattle.directory_tree.specs.Tree.{Tree, Entry, WellFormed, root, find, is_directory, leads}
use Rattle.directory_tree.specs.Walk.{walk, resolve, max_links}
use Rattle.directory_tree.specs.Walk.Spot.{Held}
use Rattle.directory_tree.specs.Name.{directory_name, name_of, judged, judged_name}
use Rattle.directory_tree.specs.Place.{place_name, named_place}
use Rattle.directory_tree.specs.Apply.{Target, and_then, target_from, is_dots, tested, target_of, other_target, directory_at, parent_of}
use Rattle.directory_tree.specs.Apply.{entry, with_entry, is_file, link, link_to, link_from, apply}
use Rattle.names.specs.laws.Results.{err-ok, same_Ok}
use Rattle.directory_tree.specs.laws.Found.{find-append_new, is_at-same}
use Rattle.directory_tree.proofs.Texts.{steps_before}
use Rattle.directory_tree.proofs.Walks.{step_down}
use Rattle.directory_tree.proofs.Changes.{and_then_inv, other_good, parent_leads}
use Rattle.directory_tree.proofs.Reached.{IsGrown, grown_same, grown_more, directory_name_grown, resolve_on}

-- the parts of a target, put together again
target_whole : (x : List ℕ) (xs : List (List ℕ)) → (target_from x xs).before ++ (target_from x xs).last ∷ [] ≡ x ∷ xs
target_whole x [] = refl
target_whole x (y ∷ ys) = ap (λ (zs : List (List ℕ)). x ∷ zs) (target_whole y ys)

-- a path that passed the tests has no slash at its end, and these are its components
target_named : (refuse : Bool) (cs : List (List ℕ)) (a : Target) → target_of refuse cs ≡ Ok a → (refuse ≡ false)
    × (a.before ++ a.last ∷ [] ≡ cs)
target_named refuse [] a h = absurd (err-ok EBUSY a h)
target_named refuse (x ∷ xs) a h = elim refuse as (λ (k : Bool). (if k then Err EINVAL else tested (target_from x xs)) ≡ Ok a →
    (k ≡ false) × (a.before ++ a.last ∷ [] ≡ x ∷ xs)) [
      | true ↦ λ q. absurd (err-ok EINVAL a q)
      | false ↦ λ q. elim (is_dots (target_from x xs).last) as (λ (k : Bool). (if k then Err EINVAL else Ok (target_from x xs)) ≡ Ok a →
          (false ≡ false) × (a.before ++ a.last ∷ [] ≡ x ∷ xs)) [
            | true ↦ λ r. absurd (err-ok EINVAL a r)
            | false ↦ λ r. (
              refl,
              subst (λ (z : Target). z.before ++ z.last ∷ [] ≡ x ∷ xs) (same_Ok (target_from x xs) a r)
                  (target_whole x xs),
            )
          ] q
    ] h

-- a walk of the path takes the steps before the last, and then the last component
target_steps : (path : List ℕ) (a : Target) → other_target path ≡ Ok a → steps_of path ≡ map step_of a.before ++ Down a.last ∷ []
target_steps path a h =
    let (unclosed, whole) = target_named (ends_with_slash path) (filled_parts path) a h in
    steps_before path unclosed
    ∙ ap (map step_of) (sym whole)
    ∙ map-append step_of a.before (a.last ∷ [])
    ∙ ap (λ (x : Step). map step_of a.before ++ x ∷ []) (step_down a.last (other_good path a h))

-- what an accepted link makes
link_made : (t u : Tree) (room : Bool) (d : ℕ) (c : List ℕ) (into : ℕ) (name : List ℕ) → link t room d c into name ≡ Ok u
    → (e : Entry) × (find t.entries d c ≡ Some e) × (is_file e.kind ≡ true) × (find t.entries into name ≡ None)
    × (with_entry t (entry into name e.node e.kind) t.next ≡ u)
link_made t u room d c into name h =
    elim (find t.entries d c) as (λ (o : Option Entry). link_from t room into name o ≡ Ok u
    → (e : Entry) × (o ≡ Some e) × (is_file e.kind ≡ true) × (find t.entries into name ≡ None)
    × (with_entry t (entry into name e.node e.kind) t.next ≡ u)) [
      | None ↦ λ q. absurd (err-ok ENOENT u q)
      | Some e ↦ λ q. elim (is_file e.kind) as (λ (b : Bool). is_file e.kind ≡ b →
          (if b then link_to t room e into name (find t.entries into name) else Err EPERM) ≡ Ok u
          → (z : Entry) × (Some e ≡ Some z) × (is_file z.kind ≡ true) × (find t.entries into name ≡ None)
          × (with_entry t (entry into name z.node z.kind) t.next ≡ u)) [
            | false ↦ λ file r. absurd (err-ok EPERM u r)
            | true ↦ λ file r. let (free, made) = to_free e (find t.entries into name) r in (e, refl, file, free, made)
          ] refl q
    ] h
  where
    to_free : (e : Entry) (o : Option Entry) → link_to t room e into name o ≡ Ok u →
        (o ≡ None) × (with_entry t (entry into name e.node e.kind) t.next ≡ u)
    to_free e (Some z) r = absurd (err-ok EEXIST u r)
    to_free e None r = elim room as (λ (b : Bool). (if b then Ok (with_entry t (entry into name e.node e.kind) t.next) else Err ENOSPC)
        ≡ Ok u → (let n : Option Entry = None in n ≡ None) × (with_entry t (entry into name e.node e.kind) t.next ≡ u)) [
          | true ↦ λ p. (refl, same_Ok _ u p)
          | false ↦ λ p. absurd (err-ok ENOSPC u p)
        ] r

-- a file isn't a directory
file_other : (k : NodeKind) → is_file k ≡ true → is_directory k ≡ false
file_other Directory h = absurd (true≢false (sym h))
file_other File h = refl
file_other (Link text) h = refl

-- a path leads to the file that is in the directory found for it
came_to : (t u : Tree) → WellFormed t → IsGrown t u → (path : List ℕ) (a : Target) (d : ℕ) (e : Entry) → other_target path ≡ Ok a →
    parent_of t a ≡ Ok d → find u.entries d a.last ≡ Some e → is_file e.kind ≡ true
    → walk u Stay path ≡ Ok (Held e)
came_to t u well grown path a d e is at found file =
    let (s, reached, directory) = and_then_inv (resolve t Follow max_links root (map step_of a.before)) directory_at d at in
    ap (resolve u Stay max_links root) (target_steps path a is) ∙ resolve_on t u well grown d a.last e found file max_links root
    (map step_of a.before) s refl directory reached

-- the tree with one more entry of the file
module _ (t : Tree) (into : ℕ) (name : List ℕ) (e : Entry) (file : is_file e.kind ≡ true) where
  abbrev added : Entry
  added = entry into name e.node e.kind

  abbrev more : Tree
  more = with_entry t added t.next

  grown : IsGrown t more
  grown = grown_more t added t.next (file_other e.kind file)

  found_added : find t.entries into name ≡ None → find more.entries into name ≡ Some added
  found_added free = find-append_new t.entries added into name free ∙ ap (λ (b : Bool). if b then Some added else None)
      (is_at-same into name added refl refl)

  name_added : (n : ℕ) → leads t.entries n into ≡ true → name_of more (Held added) ≡ place_name t into name
  name_added n l =
      let long : length t.entries ≤ length more.entries = omega (arith, length-append t.entries (added ∷ [])) in
      (λ i. directory_name_grown t more grown n into l long i ++ slash ∷ (name ++ (if file_other e.kind file i then slash ∷ [] else [])))
      ∙ ap (λ (z : List ℕ). directory_name t into ++ slash ∷ z) (append-nil name)

-- the name of a place, where its directory was found
named_target : (t : Tree) (path : List ℕ) (b : Target) (into : ℕ) → other_target path ≡ Ok b → parent_of t b ≡ Ok into → named_place t path
    ≡ judged (place_name t into b.last)
named_target t path b into is at =
    ap (λ (r : Result Target Errno). and_then r (λ b. and_then (parent_of t b) (λ d. judged (place_name t d b.last)))) is
    ∙ ap (λ (r : Result ℕ Errno). and_then r (λ d. judged (place_name t d b.last))) at

-- the old path leads to the file, and the new path to the new entry, which has the name of the place
both_found : (t u : Tree) → WellFormed t → (old new : List ℕ) (a b : Target) (d into : ℕ) (e : Entry) → other_target old ≡ Ok a →
    other_target new ≡ Ok b → parent_of t a ≡ Ok d → parent_of t b ≡ Ok into
    → find t.entries d a.last ≡ Some e → is_file e.kind ≡ true → find t.entries into b.last ≡ None →
    with_entry t (entry into b.last e.node e.kind) t.next ≡ u → (from to : Entry) × (walk t Stay old ≡ Ok (Held from))
    × (walk u Stay new ≡ Ok (Held to)) × (to.node ≡ from.node) × (judged_name u (Held to) ≡ named_place t new)
both_found t u well old new a b d into e is_a is_b at_d at_into found file free made =
    let (n, l) = parent_leads t well b into at_into in
    subst (λ (v : Tree). (from to : Entry) × (walk t Stay old ≡ Ok (Held from)) × (walk v Stay new ≡ Ok (Held to)) × (to.node ≡ from.node)
    × (judged_name v (Held to) ≡ named_place t new)) made (
      e,
      entry into b.last e.node e.kind,
      came_to t t well (grown_same t) old a d e is_a at_d found file,
      came_to t (more t into b.last e file) well (grown t into b.last e file) new b into (entry into b.last e.node e.kind) is_b at_into
          (found_added t into b.last e file free) file,
      refl,
      ap judged (name_added t into b.last e file n l) ∙ sym (named_target t new b into is_b at_into),
    )

-- what holds after an accepted link
pub links_found : (t u : Tree) (room : Bool) (old new : List ℕ) → WellFormed t → apply t room (change.Link old new) ≡ Ok u
    → (from to : Entry) × (walk t Stay old ≡ Ok (Held from)) × (walk u Stay new ≡ Ok (Held to)) × (to.node ≡ from.node)
    × (judged_name u (Held to) ≡ named_place t new)
links_found t u room old new well h =
    let (a, is_a, more_a) = and_then_inv (other_target old)
    (λ (a : Target). and_then (other_target new)
    (λ b. and_then (parent_of t a) (λ d. and_then (parent_of t b) (λ into. link t room d a.last into b.last)))) u h in
    let (b, is_b, more_b) = and_then_inv (other_target new)
    (λ (b : Target). and_then (parent_of t a) (λ d. and_then (parent_of t b) (λ into. link t room d a.last into b.last))) u more_a in
    let (d, at_d, more_d) = and_then_inv (parent_of t a) (λ (d : ℕ). and_then (parent_of t b) (λ into. link t room d a.last into b.last))
    u more_b in
    let (into, at_into, done) = and_then_inv (parent_of t b) (λ (into : ℕ). link t room d a.last into b.last) u more_d in
    let (e, found, file, free, made) = link_made t u room d a.last into b.last done in
    both_found t u well old new a b d into e is_a is_b at_d at_into found file free made
