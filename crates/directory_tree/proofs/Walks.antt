-- The name of an entry leads back to it.
use Rattle.std.proofs.Common.{◌≡◌, ℕ, zero, suc, ◌==◌, ◌&&◌, Bool, true, false, List, [], ◌∷◌, ◌++◌, map, Some, None, Option, sym, refl}
use Rattle.std.proofs.Common.{ap, ◌∙◌, subst, eqb-true, append_assoc}
use Rattle.std.specs.Prelude.{if◌then◌else◌, Ok, bytes_eq}
use Rattle.std.proofs.lemmas.List.{map-append}
use Rattle.directory_tree.specs.declared.node.NodeKind.{NodeKind}
use Rattle.directory_tree.specs.declared.node.NodeKind.TheVariants.{Directory, File, Link}
use Rattle.directory_tree.specs.declared.node.Last.{Last}
use Rattle.names.specs.Paths.{filled_parts}
use Rattle.directory_tree.specs.Components.{Step, IsComponent, step_of, steps_of, slash, dot, dot_dot}
use Rattle.directory_tree.specs.Components.Step.{Here, Up, Down}
use Rattle.directory_tree.specs.Tree.{Tree, Entry, WellFormed, root, find, own_entry, is_at, is_directory, Distinct, leads}
use Rattle.directory_tree.specs.Walk.{Walked, at_entry, at_kind, start_of, is_last, onward}
use Rattle.directory_tree.specs.Walk.Spot.{Held}
use Rattle.directory_tree.specs.Name.{name_up}
use Rattle.directory_tree.specs.laws.Found.{at_once, is_at-same}
use Rattle.std.proofs.lemmas.Option.{none-some, same_Some}
use Rattle.std.proofs.lemmas.Bool.{and_parts}
use Rattle.directory_tree.proofs.Texts.{names_more, names_closed, ends_closed}

pub record IsPlace (es : List Entry) (d : ℕ) (e : Entry) : Type 0 where
  pub found : find es e.of e.component ≡ Some e
  pub node : e.node ≡ d
  pub directory : is_directory e.kind ≡ true

pub later : (y e : Entry) (es : List Entry) → find es y.of y.component ≡ None → find es e.of e.component ≡ Some e →
    find (y ∷ es) e.of e.component ≡ Some e
later y e es none is = elim (is_at e.of e.component y) as (λ (b : Bool). is_at e.of e.component y ≡ b →
    (if b then Some y else find es e.of e.component) ≡ Some e) [
      | true ↦ λ q. let k = at_once e.of e.component y.of y.component q in
          absurd (none-some e (sym none ∙ (λ i. find es (k.0 i) (k.1 i)) ∙ is))
      | false ↦ λ q. is
    ] refl

pub first : (e : Entry) (es : List Entry) → find (e ∷ es) e.of e.component ≡ Some e
first e es = ap (λ (b : Bool). if b then Some e else find es e.of e.component) (is_at-same e.of e.component e refl refl)

pub own_entry_found : (es : List Entry) (d : ℕ) (e : Entry) → Distinct es → own_entry es d ≡ Some e → IsPlace es d e
own_entry_found [] d e distinct h = absurd (none-some e h)
own_entry_found (y ∷ es) d e distinct h =
    elim ((y.node == d) && is_directory y.kind) as (λ (b : Bool). ((y.node == d) && is_directory y.kind) ≡ b →
    (if b then Some y else own_entry es d) ≡ Some e → IsPlace (y ∷ es) d e) [
      | true ↦ λ q r. let k = and_parts _ _ q in subst (IsPlace (y ∷ es) d) (same_Some y e r) record {
        found = first y es;
        node =
            eqb-true y.node d k.0;
        directory = k.1;
      }
      | false ↦ λ q r. let p = own_entry_found es d e distinct.1 r in record {
        found = later y e es distinct.0 p.found;
        node =
            p.node;
        directory = p.directory;
      }
    ] refl h

pub step_down : (c : List ℕ) → IsComponent c → step_of c ≡ Down c
step_down c h = ap (λ (b : Bool). if b then Here else if bytes_eq c dot_dot then Up else Down c) h.no_dot
    ∙ ap (λ (b : Bool). if b then Up else Down c) h.no_dot_dot

abbrev pub steps : List ℕ → List Step
steps text = map step_of (filled_parts text)

pub steps_more : (xs c : List ℕ) → IsComponent c → steps (xs ++ slash ∷ c) ≡ steps xs ++ Down c ∷ []
steps_more xs c h = ap (map step_of) (names_more xs c h.filled h.no_slash) ∙ map-append step_of (filled_parts xs) (c ∷ [])
    ∙ ap (λ (s : Step). steps xs ++ s ∷ []) (step_down c h)

pub steps_closed : (xs : List ℕ) → steps_of (xs ++ slash ∷ []) ≡ steps xs ++ Here ∷ []
steps_closed xs =
    (λ i. map step_of (names_closed xs i ++ (if ends_closed xs i then dot ∷ [] else [])))
    ∙ map-append step_of (filled_parts xs) (dot ∷ [])

go_in : (k : NodeKind) (ends : Bool) (last : Last) (found go : Walked) (follow : List ℕ → Walked) → is_directory k ≡ true →
    at_kind ends last found go follow k ≡ go
go_in Directory ends last found go follow h = refl
go_in File ends last found go follow h = absurd (cc h)
go_in (Link text) ends last found go follow h = absurd (cc h)

module _ (t : Tree) (last : Last) (follow : ℕ → List Step → Walked) where
  pub one_down : (d : ℕ) (c : List ℕ) (e : Entry) (xs : List Step) → find t.entries d c ≡ Some e → is_directory e.kind ≡ true →
      onward t last follow d (Down c ∷ xs) ≡ onward t last follow e.node xs
  one_down d c e xs is directory =
      ap (at_entry (is_last xs) last (λ n. onward t last follow n xs) (λ text. follow (start_of text d) (steps_of text ++ xs))) is
      ∙ go_in e.kind (is_last xs) last (Ok (Held e)) (onward t last follow e.node xs)
      (λ text. follow (start_of text d) (steps_of text ++ xs)) directory

  pub back : WellFormed t → (n d : ℕ) (ys : List Step) → leads t.entries n d ≡ true →
      onward t last follow root (steps (name_up t.entries n d) ++ ys) ≡ onward t last follow d ys
  back well zero d ys h = ap (λ (z : ℕ). onward t last follow z ys) (sym (eqb-true d root h))
  back well (suc n) d ys h =
      elim (d == root) as (λ (b : Bool). (d == root) ≡ b →
      (if b then true else elim (own_entry t.entries d) as (λ _. Bool) [ None ↦ false | Some e ↦ leads t.entries n e.of ]) ≡ true
      → onward t last follow root
      (steps (if b then [] else elim (own_entry t.entries d) as (λ _. List ℕ) [
        | None ↦ []
        | Some e ↦ name_up t.entries n e.of
            ++ slash ∷ e.component
      ]) ++ ys) ≡ onward t last follow d ys) [
        | true ↦ λ q r. ap (λ (z : ℕ). onward t last follow z ys) (sym (eqb-true d root q))
        | false ↦ λ q r. elim (own_entry t.entries d) as (λ (o : Option Entry). own_entry t.entries d ≡ o →
            (elim o as (λ _. Bool) [ None ↦ false | Some e ↦ leads t.entries n e.of ]) ≡ true
            → onward t last follow root
            (steps (elim o as (λ _. List ℕ) [ None ↦ [] | Some e ↦ name_up t.entries n e.of ++ slash ∷ e.component ]) ++ ys)
            ≡ onward t last follow d ys) [
              | None ↦ λ is l. absurd (cc l)
              | Some e ↦ λ is l.
                  let p = own_entry_found t.entries d e well.distinct is in
                  ap (λ (zs : List Step). onward t last follow root zs)
                  (ap (λ (zs : List Step). zs ++ ys) (steps_more (name_up t.entries n e.of) e.component (well.named _ _ e p.found))
                  ∙ append_assoc (steps (name_up t.entries n e.of)) (Down e.component ∷ []) ys)
                  ∙ back well n e.of (Down e.component ∷ ys) l
                  ∙ one_down e.of e.component e ys p.found p.directory
                  ∙ ap (λ (z : ℕ). onward t last follow z ys) p.node
            ] refl r
      ] refl h
