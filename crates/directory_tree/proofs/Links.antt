-- A walk that may follow one more link.
use Rattle.std.proofs.Common.{◌≡◌, ℕ, zero, suc, ◌≢◌, ◌&&◌, Bool, true, false, List, [], ◌∷◌, ◌++◌, Some, None, Option, sym}
use Rattle.std.specs.Prelude.{if◌then◌else◌, Ok, Err}
use Rattle.names.specs.declared.errors.Errno.TheVariants.{ELOOP}
use Rattle.directory_tree.specs.declared.node.NodeKind.{NodeKind}
use Rattle.directory_tree.specs.declared.node.NodeKind.TheVariants.{Directory, File, Link}
use Rattle.directory_tree.specs.declared.node.Last.{Last}
use Rattle.directory_tree.specs.Components.{Step, steps_of}
use Rattle.directory_tree.specs.Components.Step.{Here, Up, Down}
use Rattle.directory_tree.specs.Tree.{Tree, Entry, find}
use Rattle.directory_tree.specs.Walk.{Walked, above, stays, at_entry, at_kind, start_of, is_last, onward, resolve}
use Rattle.directory_tree.specs.Walk.Spot.{Held}

kind_more : (k : NodeKind) (ends : Bool) (last : Last) (found go go' : Walked) (follow follow' : List ℕ → Walked) (r : Walked) →
    (go ≡ r → go' ≡ r) → ((text : List ℕ) → follow text ≡ r → follow' text ≡ r)
    → at_kind ends last found go follow k ≡ r → at_kind ends last found go' follow' k ≡ r
kind_more Directory ends last found go go' follow follow' r on link h = on h
kind_more File ends last found go go' follow follow' r on link h = h
kind_more (Link text) ends last found go go' follow follow' r on link h = elim (ends && stays last) as
    (λ (b : Bool). (if b then found else follow text) ≡ r → (if b then found else follow' text) ≡ r) [
      | true ↦ λ q. q
      | false ↦ λ q. link text q
    ] h

module _ (t : Tree) (last : Last) (r : Walked) where
  onward_more : (follow follow' : ℕ → List Step → Walked) → ((d : ℕ) (xs : List Step) → follow d xs ≡ r → follow' d xs ≡ r) →
      (d : ℕ) (xs : List Step) → onward t last follow d xs ≡ r → onward t last follow' d xs ≡ r
  onward_more follow follow' more d [] h = h
  onward_more follow follow' more d (Here ∷ xs) h = onward_more follow follow' more d xs h
  onward_more follow follow' more d (Up ∷ xs) h = onward_more follow follow' more (above t d) xs h
  onward_more follow follow' more d (Down c ∷ xs) h =
      elim (find t.entries d c) as (λ (o : Option Entry). at_entry (is_last xs) last (λ n. onward t last follow n xs)
      (λ text. follow (start_of text d) (steps_of text ++ xs)) o ≡ r → at_entry (is_last xs) last (λ n. onward t last follow' n xs)
      (λ text. follow' (start_of text d) (steps_of text ++ xs)) o ≡ r) [
        | None ↦ λ q. q
        | Some e ↦ λ q. kind_more e.kind (is_last xs) last (Ok (Held e)) (onward t last follow e.node xs) (onward t last follow' e.node xs)
            (λ text. follow (start_of text d) (steps_of text ++ xs)) (λ text. follow' (start_of text d) (steps_of text ++ xs)) r
            (onward_more follow follow' more e.node xs) (λ text p. more (start_of text d) (steps_of text ++ xs) p) q
      ] h

pub resolve_more : (t : Tree) (last : Last) (links d : ℕ) (xs : List Step) (r : Walked) → r ≢ Err ELOOP → resolve t last links d xs ≡ r →
    resolve t last (suc links) d xs ≡ r
resolve_more t last zero d xs r apart h = onward_more t last r (λ d xs. Err ELOOP) (λ d xs. resolve t last zero d xs)
    (λ d xs q. absurd (apart (sym q))) d xs h
resolve_more t last (suc links) d xs r apart h = onward_more t last r (λ d xs. resolve t last links d xs)
    (λ d xs. resolve t last (suc links) d xs) (λ d xs q. resolve_more t last links d xs r apart q) d xs h
