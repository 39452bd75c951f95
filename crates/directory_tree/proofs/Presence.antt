-- What a walk leads to is in the tree, and its name leads back to it.
use Rattle.std.proofs.Common.{◌≡◌, ℕ, zero, suc, ◌==◌, ◌&&◌, Bool, true, false, List, [], ◌∷◌, ◌++◌, map, length, Some, None, Option, sym}
use Rattle.std.proofs.Common.{refl, ap, ◌∙◌, subst, arith, eqb-true, eq-eqb, ne_eqb, append_assoc, true≢false}
use Rattle.std.specs.Prelude.{if◌then◌else◌, Ok, Err}
use Rattle.std.proofs.lemmas.List.{append-nil}
use Rattle.names.specs.declared.errors.Errno.TheVariants.{ENOENT, ENOTDIR, ELOOP}
use Rattle.directory_tree.specs.declared.node.NodeKind.{NodeKind}
use Rattle.directory_tree.specs.declared.node.NodeKind.TheVariants.{Directory, File, Link}
use Rattle.directory_tree.specs.declared.node.Last.{Last}
use Rattle.directory_tree.specs.declared.node.Last.TheVariants.{Stay}
use Rattle.names.specs.Paths.{filled_parts}
use Rattle.directory_tree.specs.Components.{Step, IsComponent, step_of, steps_of, slash, dot}
use Rattle.directory_tree.specs.Components.Step.{Here, Up, Down}
use Rattle.directory_tree.specs.Tree.{Tree, Entry, WellFormed, root, find, own_entry, is_at, is_directory, is_link, leads}
use Rattle.directory_tree.specs.Walk.{Spot, Walked, spot_of, above, stays, at_entry, at_kind, start_of, is_last, onward, resolve, walk}
use Rattle.directory_tree.specs.Walk.{max_links}
use Rattle.directory_tree.specs.Walk.Spot.{Root, Held}
use Rattle.directory_tree.specs.Name.{directory_name, name_of}
use Rattle.directory_tree.specs.Spots.{node_at}
use Rattle.directory_tree.specs.laws.Found.{found_at}
use Rattle.std.proofs.lemmas.Option.{none-some, same_Some}
use Rattle.names.specs.laws.Results.{err-ok, same_Ok}
use Rattle.directory_tree.proofs.Depth.{enough}
use Rattle.directory_tree.proofs.Texts.{ends_open}
use Rattle.directory_tree.proofs.Walks.{steps, own_entry_found, steps_more, steps_closed, one_down, back}

-- what is found is at its own key
pub own_key : (es : List Entry) (d : ℕ) (c : List ℕ) (e : Entry) → find es d c ≡ Some e → find es e.of e.component ≡ Some e
own_key es d c e h = let k = found_at es d c e h in (λ i. find es (k.0 i) (k.1 i)) ∙ h

has_place : (es : List Entry) (d : ℕ) (c : List ℕ) (e : Entry) → find es d c ≡ Some e → is_directory e.kind ≡ true →
    (z : Entry) × (own_entry es e.node ≡ Some z)
has_place [] d c e h directory = absurd (none-some e h)
has_place (y ∷ es) d c e h directory =
    elim ((y.node == e.node) && is_directory y.kind) as (λ (b : Bool). ((y.node == e.node) && is_directory y.kind) ≡ b →
    (z : Entry) × ((if b then Some y else own_entry es e.node) ≡ Some z)) [
      | true ↦ λ q. (y, refl)
      | false ↦ λ q. elim (is_at d c y) as (λ (b : Bool). (if b then Some y else find es d c) ≡ Some e →
          (z : Entry) × (own_entry es e.node ≡ Some z)) [
            | true ↦ λ r. absurd
                (true≢false (sym ((λ i. (eq-eqb _ _ (ap (λ (x : Entry). x.node) (same_Some y e r)) i) && is_directory
                (same_Some y e r i).kind) ∙ directory) ∙ q))
            | false ↦ λ r. has_place es d c e r directory
          ] h
    ] refl

-- a directory's entry is its place
pub placed_at : (t : Tree) → WellFormed t → (d : ℕ) (c : List ℕ) (e : Entry) → find t.entries d c ≡ Some e → is_directory e.kind ≡ true →
    own_entry t.entries e.node ≡ Some e
placed_at t well d c e h directory =
    let (z, is) = has_place t.entries d c e h directory in
    let p = own_entry_found t.entries e.node z well.distinct is in
    is ∙ ap Some (well.one_entry _ _ d c z e p.found h p.node p.directory)

unfoldable pub Stands : Tree → Spot → Type 0
Stands t Root = Unit {0}
Stands t (Held e) = find t.entries e.of e.component ≡ Some e

pub spot_stands : (t : Tree) → WellFormed t → (d : ℕ) → Stands t (spot_of t d)
unfolding Stands
spot_stands t well d =
    elim (d == root) as (λ (b : Bool). Stands t (if b then Root else elim (own_entry t.entries d) as (λ _. Spot)
    [ None ↦ Root | Some e ↦ Held e ])) [
      | true ↦ tt
      | false ↦ elim (own_entry t.entries d) as (λ (o : Option Entry). own_entry t.entries d ≡ o →
          Stands t (elim o as (λ _. Spot) [ None ↦ Root | Some e ↦ Held e ])) [
            | None ↦ λ is. tt
            | Some e ↦ λ is. (own_entry_found t.entries d e well.distinct is).found
          ] refl
    ]

kind_stands : (t : Tree) (k : NodeKind) (ends : Bool) (last : Last) (e : Entry) (go : Walked) (follow : List ℕ → Walked) (s : Spot) →
    Stands t (Held e) → (go ≡ Ok s → Stands t s) → ((text : List ℕ) → follow text ≡ Ok s → Stands t s)
    → at_kind ends last (Ok (Held e)) go follow k ≡ Ok s → Stands t s
kind_stands t Directory ends last e go follow s here on link h = on h
kind_stands t File ends last e go follow s here on link h = elim ends as (λ (b : Bool). (if b then Ok (Held e) else Err ENOTDIR) ≡ Ok s →
    Stands t s) [
      | true ↦ λ q. subst (Stands t) (same_Ok _ s q) here
      | false ↦ λ q. absurd (err-ok ENOTDIR s q)
    ] h
kind_stands t (Link text) ends last e go follow s here on link h = elim (ends && stays last) as
    (λ (b : Bool). (if b then Ok (Held e) else follow text) ≡ Ok s → Stands t s) [
      | true ↦ λ q. subst (Stands t) (same_Ok _ s q) here
      | false ↦ λ q. link text q
    ] h

stands : (t : Tree) (e : Entry) → find t.entries e.of e.component ≡ Some e → Stands t (Held e)
unfolding Stands
stands t e h = h

module _ (t : Tree) (last : Last) (well : WellFormed t) where
  onward_stands : (follow : ℕ → List Step → Walked) → ((d : ℕ) (xs : List Step) (s : Spot) → follow d xs ≡ Ok s → Stands t s) →
      (d : ℕ) (xs : List Step) (s : Spot) → onward t last follow d xs ≡ Ok s → Stands t s
  onward_stands follow later d [] s h = subst (Stands t) (same_Ok _ s h) (spot_stands t well d)
  onward_stands follow later d (Here ∷ xs) s h = onward_stands follow later d xs s h
  onward_stands follow later d (Up ∷ xs) s h = onward_stands follow later (above t d) xs s h
  onward_stands follow later d (Down c ∷ xs) s h =
      elim (find t.entries d c) as (λ (o : Option Entry). find t.entries d c ≡ o →
      at_entry (is_last xs) last (λ n. onward t last follow n xs) (λ text. follow (start_of text d) (steps_of text ++ xs)) o ≡ Ok s →
      Stands t s) [
        | None ↦ λ is q. absurd (err-ok ENOENT s q)
        | Some e ↦ λ is q. kind_stands t e.kind (is_last xs) last e (onward t last follow e.node xs)
            (λ text. follow (start_of text d) (steps_of text ++ xs)) s
            (stands t e (own_key t.entries d c e is)) (λ r. onward_stands follow later e.node xs s r)
            (λ text r. later (start_of text d) (steps_of text ++ xs) s r) q
      ] refl h

  pub resolve_stands : (links d : ℕ) (xs : List Step) (s : Spot) → resolve t last links d xs ≡ Ok s → Stands t s
  resolve_stands zero d xs s h = onward_stands (λ d xs. Err ELOOP) (λ d xs s q. absurd (err-ok ELOOP s q)) d xs s h
  resolve_stands (suc links) d xs s h = onward_stands (λ d xs. resolve t last links d xs)
      (λ d xs s q. resolve_stands links d xs s q) d xs s h

-- a walk that ends at such a node doesn't follow it
abbrev pub ends_there : Last → NodeKind → Bool
ends_there last Directory = true
ends_there last File = true
ends_there last (Link text) = stays last

pub stay_ends : (k : NodeKind) → ends_there Stay k ≡ true
stay_ends Directory = refl
stay_ends File = refl
stay_ends (Link text) = refl

pub no_link_ends : (last : Last) (k : NodeKind) → is_link k ≡ false → ends_there last k ≡ true
no_link_ends last Directory h = refl
no_link_ends last File h = refl
no_link_ends last (Link text) h = absurd (true≢false h)

found_last : (k : NodeKind) (last : Last) (found go : Walked) (follow : List ℕ → Walked) → is_directory k ≡ false → ends_there last k
    ≡ true → at_kind true last found go follow k ≡ found
found_last Directory last found go follow h ends = absurd (true≢false h)
found_last File last found go follow h ends = refl
found_last (Link text) last found go follow h ends = ap (λ (b : Bool). if b then found else follow text) ends

steps_open : (xs c : List ℕ) → IsComponent c → steps_of (xs ++ slash ∷ (c ++ [])) ≡ steps xs ++ Down c ∷ []
steps_open xs c h =
    ap (λ (z : List ℕ). steps_of (xs ++ slash ∷ z)) (append-nil c)
    ∙ ap (λ (b : Bool). map step_of (filled_parts (xs ++ slash ∷ c) ++ (if b then dot ∷ [] else []))) (ends_open xs c h.filled h.no_slash)
    ∙ ap (map step_of) (append-nil (filled_parts (xs ++ slash ∷ c)))
    ∙ steps_more xs c h

module _ (t : Tree) (last : Last) (well : WellFormed t) (follow : ℕ → List Step → Walked) (d : ℕ) (c : List ℕ) (e : Entry)
    (is : find t.entries d c ≡ Some e) where
  up : leads t.entries (length t.entries) e.of ≡ true
  up = let (n, l) = well.rooted d c e is in
      enough t.entries n e.of (subst (λ (z : ℕ). leads t.entries n z ≡ true) (sym (found_at t.entries d c e is).0) l)

  own : find t.entries e.of e.component ≡ Some e
  own = own_key t.entries d c e is

  spot_own : is_directory e.kind ≡ true → spot_of t e.node ≡ Held e
  spot_own directory =
      ap (λ (b : Bool). if b then Root else elim (own_entry t.entries e.node) as (λ _. Spot) [ None ↦ Root | Some e ↦ Held e ])
      (ne_eqb e.node root (λ p. let l = (well.low d c e is).0 in absurd (omega arith)))
      ∙ ap (λ (o : Option Entry). elim o as (λ _. Spot) [ None ↦ Root | Some e ↦ Held e ]) (placed_at t well d c e is directory)

  name_onward : ends_there last e.kind ≡ true → onward t last follow root (steps_of (name_of t (Held e))) ≡ Ok (Held e)
  name_onward ends =
      elim (is_directory e.kind) as (λ (b : Bool). is_directory e.kind ≡ b →
      onward t last follow root (steps_of (directory_name t e.of ++ slash ∷ (e.component ++ (if b then slash ∷ [] else []))))
      ≡ Ok (Held e)) [
        | true ↦ λ directory.
            ap (onward t last follow root)
            (ap steps_of (sym (append_assoc (directory_name t e.of) (slash ∷ e.component) (slash ∷ [])))
            ∙ steps_closed (directory_name t e.of ++ slash ∷ e.component)
            ∙ ap (λ (zs : List Step). zs ++ Here ∷ []) (steps_more (directory_name t e.of) e.component (well.named d c e is))
            ∙ append_assoc (steps (directory_name t e.of)) (Down e.component ∷ []) (Here ∷ []))
            ∙ back t last follow well (length t.entries) e.of (Down e.component ∷ Here ∷ []) up
            ∙ one_down t last follow e.of e.component e (Here ∷ []) own directory
            ∙ ap Ok (spot_own directory)
        | false ↦ λ directory.
            ap (onward t last follow root) (steps_open (directory_name t e.of) e.component (well.named d c e is))
            ∙ back t last follow well (length t.entries) e.of (Down e.component ∷ []) up
            ∙ ap (at_entry true last (λ n. onward t last follow n []) (λ text. follow (start_of text e.of) (steps_of text ++ []))) own
            ∙ found_last e.kind last (Ok (Held e)) (onward t last follow e.node [])
            (λ text. follow (start_of text e.of) (steps_of text ++ [])) directory ends
      ] refl

pub name_leads_back : (t : Tree) (last : Last) (d : ℕ) (c : List ℕ) (e : Entry) → WellFormed t → find t.entries d c ≡ Some e →
    ends_there last e.kind ≡ true → walk t last (name_of t (Held e)) ≡ Ok (Held e)
name_leads_back t last d c e well is ends = name_onward t last well (λ d xs. resolve t last 39 d xs) d c e is ends

pub stay_back : (t : Tree) (d : ℕ) (c : List ℕ) (e : Entry) → WellFormed t → find t.entries d c ≡ Some e →
    walk t Stay (name_of t (Held e)) ≡ Ok (Held e)
stay_back t d c e well is = name_leads_back t Stay d c e well is (stay_ends e.kind)

pub follow_back : (t : Tree) (last : Last) (d : ℕ) (c : List ℕ) (e : Entry) → WellFormed t → find t.entries d c ≡ Some e → is_link e.kind
    ≡ false → walk t last (name_of t (Held e)) ≡ Ok (Held e)
follow_back t last d c e well is other = name_leads_back t last d c e well is (no_link_ends last e.kind other)

pub walk_stands : (t : Tree) (last : Last) (text : List ℕ) (e : Entry) → WellFormed t → walk t last text ≡ Ok (Held e) →
    find t.entries e.of e.component ≡ Some e
unfolding Stands
walk_stands t last text e well h = resolve_stands t last well max_links root (steps_of text) (Held e) h

pub one_name : (t : Tree) (d : ℕ) (c : List ℕ) (d' : ℕ) (c' : List ℕ) (e e' : Entry) → WellFormed t → find t.entries d c ≡ Some e →
    find t.entries d' c' ≡ Some e' → name_of t (Held e) ≡ name_of t (Held e') → e ≡ e'
one_name t d c d' c' e e' well is is' same =
    held_inj e e' (same_Ok (Held e) (Held e') (sym (stay_back t d c e well is) ∙ ap (walk t Stay) same ∙ stay_back t d' c' e' well is'))
  where
    held_inj : (x y : Entry) → Held x ≡ Held y → x ≡ y
    held_inj x y h = ap (λ (s : Spot). elim s as (λ _. Entry) [ Root ↦ x | Held z ↦ z ]) h

-- a directory from which some climb leads to the root has its own number
pub spot_node : (t : Tree) → WellFormed t → (n d : ℕ) → leads t.entries n d ≡ true → node_at (spot_of t d) ≡ d
spot_node t well zero d h = let is : d ≡ root = eqb-true d root h in subst (λ (z : ℕ). node_at (spot_of t z) ≡ z) (sym is) refl
spot_node t well (suc n) d h =
    elim (d == root) as (λ (b : Bool). (d == root) ≡ b →
    (if b then true else elim (own_entry t.entries d) as (λ _. Bool) [ None ↦ false | Some e ↦ leads t.entries n e.of ]) ≡ true
    → node_at (if b then Root else elim (own_entry t.entries d) as (λ _. Spot) [ None ↦ Root | Some e ↦ Held e ]) ≡ d) [
      | true ↦ λ q r. sym (eqb-true d root q)
      | false ↦ λ q r. elim (own_entry t.entries d) as (λ (o : Option Entry). own_entry t.entries d ≡ o →
          (elim o as (λ _. Bool) [ None ↦ false | Some e ↦ leads t.entries n e.of ]) ≡ true
          → node_at (elim o as (λ _. Spot) [ None ↦ Root | Some e ↦ Held e ]) ≡ d) [
            | None ↦ λ is l. absurd (cc l)
            | Some e ↦ λ is l. (own_entry_found t.entries d e well.distinct is).node
          ] refl r
    ] refl h
