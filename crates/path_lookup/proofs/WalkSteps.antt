-- One step of a walk: the text that is left gets a component shorter, or a link's text is put in front of it.
use Rattle.std.proofs.Common.{◌≡◌, ℕ, zero, suc, ◌<◌, ◌-◌, ◌==◌, ◌≢◌, Bool, true, false, List, [], ◌∷◌, ◌++◌, length, sym, refl, ap, ◌∙◌}
use Rattle.std.proofs.Common.{subst, arith, ne_eqb}
use Rattle.std.specs.Prelude.{if◌then◌else◌, Result, Ok, Err, IfErr}
use Rattle.std.specs.Result.{IsErrAnd}
use Rattle.names.specs.declared.errors.Errno.{Errno}
use Rattle.names.specs.Paths.{begins_with_slash, components}
use Rattle.names.specs.laws.PathLemmas.{some_component}
use Rattle.path_lookup.specs.declared.fault.WalkFault.{WalkFault}
use Rattle.path_lookup.specs.declared.fault.WalkFault.TheVariants.{Refused, Torn}
use Rattle.path_lookup.specs.declared.arrival.Arrival.TheVariants as arrival
use Rattle.directory_tree.specs.declared.node.Last.{Last}
use Rattle.directory_tree.specs.declared.node.NodeKind.TheVariants.{Link}
use Rattle.directory_tree.specs.Components.{Step, steps_of}
use Rattle.directory_tree.specs.Tree.{Tree, root}
use Rattle.directory_tree.specs.Walk.{Spot, Walked, max_links, start_of, is_last, resolve, walk}
use Rattle.directory_tree.specs.Walk.Spot.{Root}
use Rattle.directory_tree.specs.Spots.{node_at, kind_at}
use Rattle.path_lookup.specs.World.{World}
use Rattle.path_lookup.specs.WalkFaults.{IsFault}
use Rattle.path_lookup.specs.inner.Steps.{IsDirectory, ArrivesAt, after_link, onward_from, start_at}
use Rattle.path_lookup.proofs.Joined.{some_step, resolve_joined}

-- a fault is one of every question that has the same answer
pub fault_along : {X : Type 0} (lacks : Type 0) (sees : World → Type 0) (f g : World → Result X Errno) (fault : WalkFault) →
    ((w : World) → sees w → g w ≡ f w) → IsFault lacks sees f fault → IsFault lacks sees g fault
fault_along lacks sees f g (Refused errno) same h = λ w seen. same w seen ∙ h w seen
fault_along lacks sees f g Torn same h = h

-- what is true of an error is true where `?` passes it on
pub passed_on : {T E : Type 0} (r : Result T E) (e : E) (P : E → Type 0) → IsErrAnd r (λ y. y ≡ e) → P e → IfErr r P
passed_on (Ok x) e P h p = absurd h
passed_on (Err y) e P h p = subst P (sym h) p

-- no step is left where no text is
pub ends_here : (rest : List ℕ) → is_last (steps_of rest) ≡ (length rest == 0)
ends_here [] = refl
ends_here (b ∷ rest) = some_step (components (b ∷ rest)) (some_component (b ∷ rest) (omega arith))
    ∙ sym (ne_eqb (length (b ∷ rest)) 0 (λ e. omega arith))

after_some : (t : Tree) (last : Last) (links d : ℕ) (xs : List Step) → links ≢ 0 → after_link t last links d xs
    ≡ resolve t last (links - 1) d xs
after_some t last zero d xs h = absurd (h refl)
after_some t last (suc links) d xs h = let one : links ≡ suc links - 1 = omega arith in ap (λ (n : ℕ). resolve t last n d xs) one

pub after_none : (t : Tree) (last : Last) (links d : ℕ) (xs : List Step) → links ≡ 0 → after_link t last links d xs
    ≡ after_link t last 0 d xs
after_none t last links d xs h = ap (λ (n : ℕ). after_link t last n d xs) h

start_node : (text : List ℕ) (s : Spot) → start_of text (node_at s) ≡ node_at (start_at text s)
start_node text s = elim (begins_with_slash text) as (λ (b : Bool). (if b then root else node_at s) ≡ node_at (if b then Root else s))
    [ true ↦ refl | false ↦ refl ]

start_directory : (t : Tree) (text : List ℕ) (s : Spot) → IsDirectory t s → IsDirectory t (start_at text s)
start_directory t text s h = elim (begins_with_slash text) as (λ (b : Bool). IsDirectory t (if b then Root else s))
    [ true ↦ refl | false ↦ h ]

linked : (t : Tree) (last : Last) (links : ℕ) (s p : Spot) (text rest left : List ℕ) → links ≢ 0 → p ≡ start_at text s →
    left ≡ text ++ rest → (0 < length rest → begins_with_slash rest ≡ true)
    → after_link t last links (start_of text (node_at s)) (steps_of text ++ steps_of rest) ≡ resolve t last (links - 1)
    (node_at p) (steps_of left)
linked t last links s p text rest left some start joined slash =
    after_some t last links (start_of text (node_at s)) (steps_of text ++ steps_of rest) some
    ∙ sym (resolve_joined t last (links - 1) (start_of text (node_at s)) text rest slash)
    ∙ ap (λ (n : ℕ). resolve t last (links - 1) n (steps_of (text ++ rest))) (start_node text s ∙ ap node_at (sym start))
    ∙ ap (λ (z : List ℕ). resolve t last (links - 1) (node_at p) (steps_of z)) (sym joined)

-- the text of a link was put in front of what is left
pub followed : (t : Tree) (last : Last) (links : ℕ) (s p link : Spot) (rest before left : List ℕ) (answer : Walked) → links ≢ 0 →
    before ≡ rest → (0 < length rest → begins_with_slash rest ≡ true) → IsDirectory t s
    → (text : List ℕ) × (kind_at link ≡ Link text)
    × (answer ≡ after_link t last links (start_of text (node_at s)) (steps_of text ++ steps_of rest))
    → ((text : List ℕ) → kind_at link ≡ Link text → (left ≡ text ++ before) × (p ≡ start_at text s))
    → (answer ≡ resolve t last (links - 1) (node_at p) (steps_of left)) × IsDirectory t p
followed t last links s p link rest before left answer some same slash directory (text, kind, is) put =
    let at = put text kind in (
      is ∙ linked t last links s p text rest left some at.1 (at.0 ∙ ap (λ (z : List ℕ). text ++ z) same) slash,
      subst (IsDirectory t) (sym at.1) (start_directory t text s directory),
    )

-- a walk that met a link before any other continues by the link's text, put in front of what follows it
module _ {E : Type 0} (means : E → World → Spot) (sees : World → Type 0) (last : Last) (directory next link : E) (text : List ℕ) where
  pub on_by_link : (rest before left : List ℕ) → before ≡ rest → (0 < length rest → begins_with_slash rest ≡ true)
      → ((w : World) → sees w → ArrivesAt means w last max_links (node_at (means directory w)) (steps_of rest) (walk w.tree last text)
      (arrival.Link link) × IsDirectory w.tree (means directory w))
      → ((w : World) (target : List ℕ) → sees w → kind_at (means link w) ≡ Link target
      → (left ≡ target ++ before) × (means next w ≡ start_at target (means directory w)))
      → (w : World) → sees w
      → (walk w.tree last text ≡ onward_from w last 39 (means next w) left) × IsDirectory w.tree (means next w)
  on_by_link rest before left same slash leads put w seen =
      let (arrives, from) = leads w seen in
      followed w.tree last 40 (means directory w) (means next w) (means link w) rest before left (walk w.tree last text)
      (λ e. absurd (omega arith)) same slash from arrives (λ target kind. put w target seen kind)
