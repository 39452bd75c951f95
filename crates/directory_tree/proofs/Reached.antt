-- A walk that reached a directory also reaches it with one more entry of a file in the tree, and goes on to an entry there.
use Rattle.std.proofs.Common.{◌≡◌, ℕ, zero, suc, ◌≤◌, ◌==◌, ◌&&◌, Bool, true, false, List, [], ◌∷◌, ◌++◌, length, Some, None, Option, sym}
use Rattle.std.proofs.Common.{refl, ap, ◌∙◌, arith, ne_eqb, append_assoc, true≢false}
use Rattle.std.specs.Prelude.{if◌then◌else◌, Ok, Err}
use Rattle.names.specs.declared.errors.Errno.TheVariants.{ENOENT, ENOTDIR, ELOOP}
use Rattle.names.specs.Paths.{begins_with_slash}
use Rattle.directory_tree.specs.declared.node.NodeKind.{NodeKind}
use Rattle.directory_tree.specs.declared.node.NodeKind.TheVariants.{Directory, File, Link}
use Rattle.directory_tree.specs.declared.node.Last.TheVariants.{Follow, Stay}
use Rattle.directory_tree.specs.Components.{Step, steps_of, slash}
use Rattle.directory_tree.specs.Components.Step.{Here, Up, Down}
use Rattle.directory_tree.specs.Tree.{Tree, Entry, WellFormed, root, find, own_entry, is_directory, leads}
use Rattle.directory_tree.specs.Walk.{Spot, Walked, spot_of, above, at_entry, at_kind, start_of, is_last, onward, resolve}
use Rattle.directory_tree.specs.Walk.Spot.{Root, Held}
use Rattle.directory_tree.specs.Spots.{node_at}
use Rattle.directory_tree.specs.Name.{name_up, directory_name}
use Rattle.directory_tree.specs.Apply.{directory_at, is_file, with_entry}
use Rattle.names.specs.laws.Results.{err-ok, same_Ok}
use Rattle.directory_tree.specs.laws.Found.{find-append_old}
use Rattle.directory_tree.proofs.Depth.{deep, shallow}
use Rattle.directory_tree.proofs.Depth.{up_deep}
use Rattle.directory_tree.proofs.Presence.{placed_at}
use Rattle.directory_tree.proofs.Walks.{own_entry_found}
use Rattle.directory_tree.proofs.Presence.{spot_node}

-- what was there is still there, and the places of directories are the same
pub record IsGrown (t u : Tree) : Type 0 where
  pub finds : (d : ℕ) (c : List ℕ) (e : Entry) → find t.entries d c ≡ Some e → find u.entries d c ≡ Some e
  pub places : (d : ℕ) → own_entry u.entries d ≡ own_entry t.entries d

-- nothing is added
pub grown_same : (t : Tree) → IsGrown t t
grown_same t = record { finds = λ d c e h. h; places = λ d. refl }

-- an entry that isn't a directory's isn't the place of a directory
place-append_other : (es : List Entry) (x : Entry) (d : ℕ) → is_directory x.kind ≡ false → own_entry (es ++ x ∷ []) d ≡ own_entry es d
place-append_other [] x d h = ap (λ (b : Bool). if b then Some x else None) (and_no (x.node == d) (is_directory x.kind) h)
  where
    and_no : (a b : Bool) → b ≡ false → (a && b) ≡ false
    and_no true b h = h
    and_no false b h = refl
place-append_other (y ∷ es) x d h = ap (λ (o : Option Entry). if (y.node == d) && is_directory y.kind then Some y else o)
    (place-append_other es x d h)

-- an entry is added
pub grown_more : (t : Tree) (x : Entry) (next : ℕ) → is_directory x.kind ≡ false → IsGrown t (with_entry t x next)
grown_more t x next h = record {
  finds = λ d c e is. find-append_old t.entries x d c e is;
  places =
      λ d. place-append_other t.entries x d h;
}

-- the names of directories are the same, as far as `n` steps up say
name_grown : (t u : Tree) → IsGrown t u → (n d : ℕ) → name_up u.entries n d ≡ name_up t.entries n d
name_grown t u grown zero d = refl
name_grown t u grown (suc n) d =
    ap (λ (o : Option Entry). if d == root then [] else elim o as (λ _. List ℕ) [
      | None ↦ []
      | Some e ↦ name_up u.entries n e.of
          ++ slash ∷ e.component
    ]) (grown.places d)
    ∙ elim (own_entry t.entries d) as
    (λ (o : Option Entry). (if d == root then [] else elim o as (λ _. List ℕ) [
      | None ↦ []
      | Some e ↦ name_up u.entries n e.of
          ++ slash ∷ e.component
    ])
    ≡ (if d == root then [] else elim o as (λ _. List ℕ) [ None ↦ [] | Some e ↦ name_up t.entries n e.of ++ slash ∷ e.component ])) [
      | None ↦ refl
      | Some e ↦ ap (λ (z : List ℕ). if d == root then [] else z ++ slash ∷ e.component) (name_grown t u grown n e.of)
    ]

-- the names of directories are the same, though more steps up are counted
pub directory_name_grown : (t u : Tree) → IsGrown t u → (n d : ℕ) → leads t.entries n d ≡ true → length t.entries ≤ length u.entries →
    directory_name u d ≡ directory_name t d
directory_name_grown t u grown n d l long =
    let (m, low, up) = deep t.entries n d l in
    let most = shallow t.entries m d up in
    name_grown t u grown (length u.entries) d
    ∙ up_deep t.entries m (length u.entries) d up (omega arith)
    ∙ sym (up_deep t.entries m (length t.entries) d up most)

-- a walk that ends at this directory ends at a spot of this number
abbrev IsPlaced : Tree → ℕ → Type 0
IsPlaced t d = node_at (spot_of t d) ≡ d

-- the directories above are the same
above_grown : (t u : Tree) → IsGrown t u → (d : ℕ) → above u d ≡ above t d
above_grown t u grown d = ap (λ (o : Option Entry). if d == root then root else elim o as (λ _. ℕ) [ None ↦ d | Some e ↦ e.of ])
    (grown.places d)

-- a walk keeps that: up, down and at the start of a link's text
above_placed : (t : Tree) → WellFormed t → (d : ℕ) → IsPlaced t d → IsPlaced t (above t d)
above_placed t well d h =
    elim (d == root) as (λ (b : Bool). IsPlaced t (if b then root else elim (own_entry t.entries d) as
    (λ _. ℕ) [ None ↦ d | Some e ↦ e.of ])) [
      | true ↦ refl
      | false ↦ elim (own_entry t.entries d) as (λ (o : Option Entry). own_entry t.entries d ≡ o →
          IsPlaced t (elim o as (λ _. ℕ) [ None ↦ d | Some e ↦ e.of ])) [
            | None ↦ λ is. h
            | Some e ↦ λ is. let (n, l) = well.rooted e.of e.component e (own_entry_found t.entries d e well.distinct is).found in
                spot_node t well n e.of l
          ] refl
    ]

down_placed : (t : Tree) → WellFormed t → (d : ℕ) (c : List ℕ) (e : Entry) → find t.entries d c ≡ Some e → is_directory e.kind ≡ true →
    IsPlaced t e.node
down_placed t well d c e is directory =
    ap (λ (b : Bool). node_at (if b then Root else elim (own_entry t.entries e.node) as (λ _. Spot) [ None ↦ Root | Some z ↦ Held z ]))
    (ne_eqb e.node root (λ p. let l = (well.low d c e is).0 in absurd (omega arith)))
    ∙ ap (λ (o : Option Entry). node_at (elim o as (λ _. Spot) [ None ↦ Root | Some z ↦ Held z ])) (placed_at t well d c e is directory)

start_placed : (t : Tree) (text : List ℕ) (d : ℕ) → IsPlaced t d → IsPlaced t (start_of text d)
start_placed t text d h = elim (begins_with_slash text) as (λ (b : Bool). IsPlaced t (if b then root else d)) [ true ↦ refl | false ↦ h ]

-- the number of a spot that is a directory
directory_node : (s : Spot) (n : ℕ) → directory_at s ≡ Ok n → node_at s ≡ n
directory_node Root n h = same_Ok root n h
directory_node (Held e) n h = elim (is_directory e.kind) as (λ (b : Bool). (if b then Ok e.node else Err ENOTDIR) ≡ Ok n → e.node ≡ n) [
  | true ↦ λ q. same_Ok e.node n q
  | false ↦ λ q. absurd (err-ok ENOTDIR n q)
] h

-- a step that is followed by another isn't the last
last_more : (xs : List Step) (y : Step) → is_last (xs ++ y ∷ []) ≡ false
last_more [] y = refl
last_more (x ∷ xs) y = refl

-- if a walk reaches a directory, the entries on its way are directories and links that it follows
module _ (e : Entry) (n : ℕ) where
  on_kind : (k : NodeKind) → e.kind ≡ k → (ends : Bool) (go go' : Walked) (follow follow' : List ℕ → Walked) (s : Spot) (r : Walked) →
      directory_at s ≡ Ok n
      → (is_directory k ≡ true → go ≡ Ok s → go' ≡ r) → ((text : List ℕ) → follow text ≡ Ok s → follow' text ≡ r)
      → at_kind ends Follow (Ok (Held e)) go follow k ≡ Ok s → at_kind false Stay (Ok (Held e)) go' follow' k ≡ r
  on_kind Directory is ends go go' follow follow' s r at on link h = on refl h
  on_kind File is ends go go' follow follow' s r at on link h = elim ends as (λ (b : Bool). (if b then Ok (Held e) else Err ENOTDIR)
      ≡ Ok s → Err ENOTDIR ≡ r) [
        | true ↦ λ q. absurd (err-ok ENOTDIR n (sym (ap (λ (b : Bool). if b then Ok e.node else Err ENOTDIR) (ap is_directory is))
            ∙ ap directory_at (same_Ok (Held e) s q) ∙ at))
        | false ↦ λ q. absurd (err-ok ENOTDIR s q)
      ] h
  on_kind (Link text) is ends go go' follow follow' s r at on link h =
      elim ends as (λ (b : Bool). (if b && false then Ok (Held e) else follow text) ≡ Ok s → follow' text ≡ r) [
        | true ↦ λ q. link text q
        | false ↦ λ q. link text q
      ] h

-- a walk to the directory n goes the same way in the other tree, and on to the file that is there
module _ (t u : Tree) (well : WellFormed t) (grown : IsGrown t u) (n : ℕ) (c : List ℕ) (z : Entry) (there : find u.entries n c ≡ Some z)
    (file : is_file z.kind ≡ true) where
  file_here : (k : NodeKind) (go : Walked) (follow : List ℕ → Walked) → is_file k ≡ true → at_kind true Stay (Ok (Held z)) go follow k
      ≡ Ok (Held z)
  file_here Directory go follow h = absurd (true≢false (sym h))
  file_here File go follow h = refl
  file_here (Link text) go follow h = absurd (true≢false (sym h))

  onward_on : (follow follow' : ℕ → List Step → Walked) → ((d : ℕ) (xs : List Step) (s : Spot) → IsPlaced t d → directory_at s ≡ Ok n →
      follow d xs ≡ Ok s → follow' d (xs ++ Down c ∷ []) ≡ Ok (Held z))
      → (d : ℕ) (xs : List Step) (s : Spot) → IsPlaced t d → directory_at s ≡ Ok n → onward t Follow follow d xs ≡ Ok s →
      onward u Stay follow' d (xs ++ Down c ∷ []) ≡ Ok (Held z)
  onward_on follow follow' on d [] s placed at h =
      let same : n ≡ d = sym (directory_node s n at) ∙ ap node_at (sym (same_Ok (spot_of t d) s h)) ∙ placed in
      ap (at_entry true Stay (λ m. onward u Stay follow' m []) (λ text. follow' (start_of text d) (steps_of text ++ [])))
      (ap (λ (m : ℕ). find u.entries m c) (sym same) ∙ there)
      ∙ file_here z.kind (onward u Stay follow' z.node []) (λ text. follow' (start_of text d) (steps_of text ++ [])) file
  onward_on follow follow' on d (Here ∷ xs) s placed at h = onward_on follow follow' on d xs s placed at h
  onward_on follow follow' on d (Up ∷ xs) s placed at h =
      ap (λ (m : ℕ). onward u Stay follow' m (xs ++ Down c ∷ [])) (above_grown t u grown d) ∙ onward_on follow follow' on (above t d) xs s
      (above_placed t well d placed) at h
  onward_on follow follow' on d (Down q ∷ xs) s placed at h =
      elim (find t.entries d q) as (λ (o : Option Entry). find t.entries d q ≡ o → at_entry (is_last xs) Follow
      (λ m. onward t Follow follow m xs) (λ text. follow (start_of text d) (steps_of text ++ xs)) o ≡ Ok s
      → onward u Stay follow' d (Down q ∷ xs ++ Down c ∷ []) ≡ Ok (Held z)) [
        | None ↦ λ is r. absurd (err-ok ENOENT s r)
        | Some e ↦ λ is r.
            (λ i. at_entry (last_more xs (Down c) i) Stay (λ m. onward u Stay follow' m (xs ++ Down c ∷ []))
            (λ text. follow' (start_of text d) (steps_of text ++ (xs ++ Down c ∷ []))) (grown.finds d q e is i))
            ∙ on_kind e n e.kind refl (is_last xs) (onward t Follow follow e.node xs) (onward u Stay follow' e.node (xs ++ Down c ∷ []))
            (λ text. follow (start_of text d) (steps_of text ++ xs))
            (λ text. follow' (start_of text d) (steps_of text ++ (xs ++ Down c ∷ []))) s (Ok (Held z)) at
            (λ directory p. onward_on follow follow' on e.node xs s (down_placed t well d q e is directory) at p)
            (λ text p. ap (follow' (start_of text d)) (sym (append_assoc (steps_of text) xs (Down c ∷ []))) ∙ on (start_of text d)
            (steps_of text ++ xs) s (start_placed t text d placed) at p) r
      ] refl h

  pub resolve_on : (links d : ℕ) (xs : List Step) (s : Spot) → IsPlaced t d → directory_at s ≡ Ok n → resolve t Follow links d xs ≡ Ok s →
      resolve u Stay links d (xs ++ Down c ∷ []) ≡ Ok (Held z)
  resolve_on zero d xs s placed at h = onward_on (λ d xs. Err ELOOP) (λ d xs. Err ELOOP)
      (λ d xs s placed at q. absurd (err-ok ELOOP s q)) d xs s placed at h
  resolve_on (suc links) d xs s placed at h = onward_on (λ d xs. resolve t Follow links d xs) (λ d xs. resolve u Stay links d xs)
      (λ d xs s placed at q. resolve_on links d xs s placed at q) d xs s placed at h
