-- A walk is refused for links exactly if it meets one more link than it may follow.
use Rattle.std.proofs.Common.{◌≡◌, ◌≢◌, ◌↔◌, ℕ, zero, suc, pred, ◌&&◌, Bool, true, false, List, [], ◌∷◌, ◌++◌, Some, None, Option, sym}
use Rattle.std.proofs.Common.{refl, ap, ◌∙◌}
use Rattle.std.specs.Prelude.{if◌then◌else◌, Ok, Err}
use Rattle.names.specs.declared.errors.Errno.TheVariants.{ENOENT, ENOTDIR, ELOOP}
use Rattle.directory_tree.specs.declared.node.NodeKind.{NodeKind}
use Rattle.directory_tree.specs.declared.node.NodeKind.TheVariants.{Directory, File, Link}
use Rattle.directory_tree.specs.declared.node.Last.{Last}
use Rattle.directory_tree.specs.Components.{Step, steps_of}
use Rattle.directory_tree.specs.Components.Step.{Here, Up, Down}
use Rattle.directory_tree.specs.Tree.{Tree, Entry, find}
use Rattle.directory_tree.specs.Walk.{Spot, Walked, spot_of, above, stays, at_entry, at_kind, start_of, is_last, onward, resolve}
use Rattle.directory_tree.specs.Walk.Spot.{Held}
use Rattle.directory_tree.specs.Followed.{Onward, link_at, first_link, links_followed}

-- A walk that leads to something isn't refused for links.
ok_no_loop : (s : Spot) → (let w : Walked = Ok s in w) ≢ Err ELOOP
ok_no_loop s h = absurd (cc h)

-- Nor is one that leads to nothing.
missing_no_loop : (let w : Walked = Err ENOENT in w) ≢ Err ELOOP
missing_no_loop h = absurd (cc h)

-- Nor is one that would go on in a file.
file_no_loop : (let w : Walked = Err ENOTDIR in w) ≢ Err ELOOP
file_no_loop h = absurd (cc h)

-- What a walk gives, by the first link that it follows: if it follows none it isn't refused for links.
abbrev Meets : (ℕ → List Step → Walked) → Option Onward → Walked → Type 0
Meets follow None w = w ≢ Err ELOOP
Meets follow (Some next) w = w ≡ follow next.0 next.1

-- At an entry of any kind both definitions see the same link.
meets_kind : (follow : ℕ → List Step → Walked) (k : NodeKind) (ends : Bool) (last : Last) (found go : Walked) (on : Option Onward)
    (behind : List ℕ → Onward) → found ≢ Err ELOOP → Meets follow on go
    → Meets follow (link_at (ends && stays last) on behind k)
    (at_kind ends last found go (λ text. follow (behind text).0 (behind text).1) k)
meets_kind follow Directory ends last found go on behind ok h = h
meets_kind follow File ends last found go on behind ok h = elim ends as (λ (b : Bool). (if b then found else Err ENOTDIR) ≢ Err ELOOP)
    [ true ↦ ok | false ↦ file_no_loop ]
meets_kind follow (Link text) ends last found go on behind ok h =
    elim (ends && stays last) as (λ (b : Bool). Meets follow (if b then None else Some (behind text))
    (if b then found else follow (behind text).0 (behind text).1)) [ true ↦ ok | false ↦ refl ]

module _ (t : Tree) (last : Last) where
  -- A walk goes on after the first link that it follows.
  along : (follow : ℕ → List Step → Walked) (d : ℕ) (xs : List Step) → Meets follow (first_link t last d xs) (onward t last follow d xs)
  along follow d [] = ok_no_loop (spot_of t d)
  along follow d (Here ∷ xs) = along follow d xs
  along follow d (Up ∷ xs) = along follow (above t d) xs
  along follow d (Down c ∷ xs) =
      elim (find t.entries d c) as (λ (o : Option Entry). Meets follow
      (elim o as (λ _. Option Onward) [
        | None ↦ None
        | Some e ↦ link_at (is_last xs && stays last) (first_link t last e.node xs)
            (λ text. (start_of text d, steps_of text ++ xs)) e.kind
      ])
      (at_entry (is_last xs) last (λ n. onward t last follow n xs) (λ text. follow (start_of text d) (steps_of text ++ xs)) o)) [
        | None ↦ missing_no_loop
        | Some e ↦ meets_kind follow e.kind (is_last xs) last (Ok (Held e)) (onward t last follow e.node xs) (first_link t last e.node xs)
            (λ text. (start_of text d, steps_of text ++ xs))
            (ok_no_loop (Held e)) (along follow e.node xs)
      ]

  -- One more link is counted if a walk goes on after it.
  one_more : (n : ℕ) (follow : ℕ → List Step → Walked) (o : Option Onward) (w : Walked) → Meets follow o w
      → ((next : Onward) → (follow next.0 next.1 ≡ Err ELOOP) ↔ (links_followed t last n next.0 next.1 ≡ n))
      → (w ≡ Err ELOOP) ↔ ((elim o as (λ _. ℕ) [ None ↦ zero | Some next ↦ suc (links_followed t last n next.0 next.1) ]) ≡ suc n)
  one_more n follow None w h rest = ((λ q. absurd (h q)), (λ q. absurd (cc q)))
  one_more n follow (Some next) w h rest = ((λ q. ap suc ((rest next).0 (sym h ∙ q))), (λ q. h ∙ (rest next).1 (ap pred q)))

  -- A walk that may follow `n` links is refused for links exactly if there is one more.
  pub refused_past : (n d : ℕ) (xs : List Step) → (resolve t last n d xs ≡ Err ELOOP) ↔ (links_followed t last (suc n) d xs ≡ suc n)
  refused_past zero d xs = one_more zero (λ d xs. Err ELOOP) (first_link t last d xs) (onward t last (λ d xs. Err ELOOP) d xs)
      (along (λ d xs. Err ELOOP) d xs) (λ next. ((λ q. refl), (λ q. refl)))
  refused_past (suc n) d xs =
      one_more (suc n) (λ d xs. resolve t last n d xs) (first_link t last d xs) (onward t last (λ d xs. resolve t last n d xs) d xs)
      (along (λ d xs. resolve t last n d xs) d xs) (λ next. refused_past n next.0 next.1)
