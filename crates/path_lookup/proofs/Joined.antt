-- A walk along a text that is put together from a link's text and the rest of a path.
use Rattle.std.proofs.Common.{◌≡◌, ℕ, zero, suc, ◌<◌, Bool, true, false, List, [], ◌∷◌, ◌++◌, map, length, cond, sym, refl, ap, ◌∙◌}
use Rattle.std.proofs.Common.{append_assoc, arith, eqb-true, subst}
use Rattle.std.specs.Prelude.{Err, filter, not}
use Rattle.std.specs.List.{slice_split}
use Rattle.std.proofs.lemmas.List.{append-nil, map-append, length-append, drop_at}
use Rattle.std.proofs.lemmas.List.Elements.{filter-append}
use Rattle.names.specs.declared.errors.Errno.TheVariants.{ELOOP}
use Rattle.names.specs.Paths.{is_slash, is_empty, filled_parts, begins_with_slash, ends_with_slash, closing_component, components}
use Rattle.names.specs.laws.PathLaws.{split_joined}
use Rattle.names.specs.laws.PathLemmas.{some_component, ends_alike}
use Rattle.directory_tree.specs.declared.node.Last.{Last}
use Rattle.directory_tree.specs.Components.{Step, step_of, steps_of, slash, dot}
use Rattle.directory_tree.specs.Components.Step.{Here, Up, Down}
use Rattle.directory_tree.specs.Tree.{Tree, find}
use Rattle.directory_tree.specs.Walk.{Walked, above, at_entry, start_of, is_last, onward, resolve}

-- a `.` that something follows changes no answer
module _ (t : Tree) (last : Last) (ys : List Step) (some : is_last ys ≡ false) where
  ends_same : (xs : List Step) → is_last (xs ++ Here ∷ ys) ≡ is_last (xs ++ ys)
  ends_same [] = sym some
  ends_same (x ∷ xs) = refl

  onward_here : (follow : ℕ → List Step → Walked) → ((d : ℕ) (xs : List Step) → follow d (xs ++ Here ∷ ys) ≡ follow d (xs ++ ys)) →
      (d : ℕ) (xs : List Step) → onward t last follow d (xs ++ Here ∷ ys) ≡ onward t last follow d (xs ++ ys)
  onward_here follow same d [] = refl
  onward_here follow same d (Here ∷ xs) = onward_here follow same d xs
  onward_here follow same d (Up ∷ xs) = onward_here follow same (above t d) xs
  onward_here follow same d (Down c ∷ xs) =
      let on : (n : ℕ) → onward t last follow n (xs ++ Here ∷ ys) ≡ onward t last follow n (xs ++ ys) =
      λ n. onward_here follow same n xs in
      let after : (text : List ℕ) → follow (start_of text d) (steps_of text ++ (xs ++ Here ∷ ys)) ≡ follow (start_of text d)
      (steps_of text ++ (xs ++ ys)) =
      λ text.
      ap (follow (start_of text d)) (sym (append_assoc (steps_of text) xs (Here ∷ ys)))
      ∙ same (start_of text d) (steps_of text ++ xs)
      ∙ ap (follow (start_of text d)) (append_assoc (steps_of text) xs ys) in
      λ i. at_entry (ends_same xs i) last (λ n. on n i) (λ text. after text i) (find t.entries d c)

  pub resolve_here : (links d : ℕ) (xs : List Step) → resolve t last links d (xs ++ Here ∷ ys) ≡ resolve t last links d (xs ++ ys)
  resolve_here zero d xs = onward_here (λ d xs. Err ELOOP) (λ d xs. refl) d xs
  resolve_here (suc links) d xs = onward_here (λ d xs. resolve t last links d xs) (λ d xs. resolve_here links d xs) d xs

-- the components of a text before a slash, and those from the slash on
components_before : (xs ys : List ℕ) → components (xs ++ slash ∷ ys) ≡ filled_parts xs ++ components (slash ∷ ys)
components_before xs ys =
    (λ i. filter (λ part. not (is_empty part)) (split_joined xs ys i) ++ cond (ends i) (dot ∷ []) [])
    ∙ ap (λ (ps : List (List ℕ)). ps ++ closing_component (slash ∷ ys))
    (filter-append (λ part. not (is_empty part)) (slice_split is_slash xs) (slice_split is_slash ys))
    ∙ append_assoc (filled_parts xs) (filled_parts ys) (closing_component (slash ∷ ys))
  where
    ends : ends_with_slash (xs ++ slash ∷ ys) ≡ ends_with_slash (slash ∷ ys)
    ends =
        sym (ends_alike (xs ++ slash ∷ ys) (length xs) (omega (arith, length-append xs (slash ∷ ys))))
        ∙ ap ends_with_slash (drop_at xs (slash ∷ ys) (length xs) refl)

pub some_step : (xs : List (List ℕ)) → 0 < length xs → is_last (map step_of xs) ≡ false
some_step [] h = absurd (omega arith)
some_step (x ∷ xs) h = refl

module _ (t : Tree) (last : Last) (links d : ℕ) (text : List ℕ) where
  joined_at : (ys : List ℕ) → resolve t last links d (steps_of (text ++ slash ∷ ys)) ≡ resolve t last links d
      (steps_of text ++ steps_of (slash ∷ ys))
  joined_at ys =
      ap (λ (ps : List (List ℕ)). resolve t last links d (map step_of ps)) (components_before text ys)
      ∙ ap (resolve t last links d) (map-append step_of (filled_parts text) (components (slash ∷ ys)))
      ∙ elim (ends_with_slash text) as (λ (b : Bool). resolve t last links d (map step_of (filled_parts text) ++ steps_of (slash ∷ ys))
      ≡ resolve t last links d (map step_of (filled_parts text ++ cond b (dot ∷ []) []) ++ steps_of (slash ∷ ys))) [
        | true ↦
            sym (resolve_here t last (steps_of (slash ∷ ys))
            (some_step (components (slash ∷ ys)) (some_component (slash ∷ ys) (omega arith))) links d
            (map step_of (filled_parts text)))
            ∙ ap (resolve t last links d)
            (sym (append_assoc (map step_of (filled_parts text)) (Here ∷ []) (steps_of (slash ∷ ys)))
            ∙ ap (λ (xs : List Step). xs ++ steps_of (slash ∷ ys)) (sym (map-append step_of (filled_parts text) (dot ∷ []))))
        | false ↦ ap (λ (ps : List (List ℕ)). resolve t last links d (map step_of ps ++ steps_of (slash ∷ ys)))
            (sym (append-nil (filled_parts text)))
      ]

  -- the rest of a path is nothing, or begins with a slash
  pub resolve_joined : (rest : List ℕ) → (0 < length rest → begins_with_slash rest ≡ true) →
      resolve t last links d (steps_of (text ++ rest)) ≡ resolve t last links d (steps_of text ++ steps_of rest)
  resolve_joined [] h = ap (λ (z : List ℕ). resolve t last links d (steps_of z)) (append-nil text) ∙ ap (resolve t last links d)
      (sym (append-nil (steps_of text)))
  resolve_joined (b ∷ ys) h =
      let is : slash ≡ b = sym (eqb-true b slash (h (omega arith))) in
      subst (λ (z : ℕ). resolve t last links d (steps_of (text ++ z ∷ ys)) ≡ resolve t last links d (steps_of text ++ steps_of (z ∷ ys)))
      is (joined_at ys)
