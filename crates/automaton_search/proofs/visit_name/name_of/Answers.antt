-- From a visit to its parent.
use Rattle.std.proofs.Common.{◌≡◌, ◌∙◌, ◌<◌, ◌++◌, ◌∷◌, [], ℕ, List, Some, slice_get, slice_index_or, reverse, append-nil}
use Rattle.std.proofs.Common.{append_assoc, sym, ap, arith}
use Rattle.std.proofs.lemmas.List.{reverse-append}
use Rattle.std.proofs.lemmas.Option.{same_Some, slice_get-get_or}
use Rattle.automaton_search.specs.declared.walk.Trail.{Trail}
use Rattle.automaton_search.specs.inner.Trails.{AreNames}
use Rattle.automaton_search.proofs.visit_name.name_of.Goals as goal

abbrev no_trail : Trail
no_trail = record { parent = 0; byte = 0 }

-- the name so far: that of a visit, and bytes
abbrev IsSoFar : List (List ℕ) → ℕ → ℕ → List ℕ → Type 0
IsSoFar names index at bytes =
    (name : List ℕ) × (slice_get names at ≡ Some name) × (slice_get names index ≡ Some (name ++ reverse bytes))

-- one more byte
one_back : (trails : List Trail) (names : List (List ℕ)) (index at : ℕ) (t : Trail) (bytes new : List ℕ) → AreNames trails names →
    0 < at → slice_get trails at ≡ Some t → new ≡ bytes ++ t.byte ∷ [] → IsSoFar names index at bytes → IsSoFar names index t.parent new
one_back trails names index at t bytes new are some here added so_far =
    let h = are.later at t some here in
    let name : List ℕ = h.1.0 in
    let is : so_far.0 ≡ name ++ t.byte ∷ [] = same_Some so_far.0 (name ++ t.byte ∷ []) (sym so_far.1 ∙ h.1.2) in
    let back : reverse new ≡ t.byte ∷ reverse bytes = ap reverse added ∙ reverse-append bytes (t.byte ∷ []) in (
      name,
      h.1.1,
      so_far.2 ∙ ap Some (ap (λ z. z ++ reverse bytes) is ∙ append_assoc name (t.byte ∷ []) (reverse bytes)
          ∙ ap (λ z. name ++ z) (sym back)),
    )

pub loop-at-init : goal.loop-at-init
loop-at-init c = record {
  there = c.requires.there;
  so_far = λ names are.
      let name : List ℕ = slice_index_or names c.args.index [] in
      let at : slice_get names c.args.index ≡ Some name =
      slice_get-get_or names c.args.index [] (omega (arith, c.requires.there, are.each)) in
      (name, at, at ∙ ap Some (sym (ap (λ z. name ++ reverse z) c.new-bytes.ensures.items ∙ append-nil name)));
}

pub loop-at-smaller : goal.loop-at-smaller
loop-at-smaller c =
    c.requires.parents c.loop-at.at _ c.loop-at-test.true
    (slice_get-get_or c.args.trails.now c.loop-at.at no_trail c.loop-at.invariant.there)

pub loop-at-preserved : goal.loop-at-preserved
loop-at-preserved c =
    let t : Trail = slice_index_or c.args.trails.now c.loop-at.at no_trail in
    let here : slice_get c.args.trails.now c.loop-at.at ≡ Some t =
    slice_get-get_or c.args.trails.now c.loop-at.at no_trail c.loop-at.invariant.there in
    let less : t.parent < c.loop-at.at = c.requires.parents c.loop-at.at t c.loop-at-test.true here in
    record {
      there = omega (arith, less, c.loop-at.invariant.there);
      so_far = λ names are.
          one_back c.args.trails.now names c.args.index c.loop-at.at t c.loop-at.bytes.items c.push.new.self.items are
          c.loop-at-test.true here
          c.in_ok-push.ensures.items (c.loop-at.invariant.so_far names are);
    }
