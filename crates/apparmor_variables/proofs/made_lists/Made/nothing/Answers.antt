use Rattle.std.proofs.Common.{◌≡◌, ◌+◌, ◌<◌, ℕ, true, false, List, [], ◌∷◌, ◌++◌, None, length, sym, ap, ◌∙◌, subst, arith}
use Rattle.std.specs.Prelude.{Contains}
use Rattle.std.proofs.lemmas.List.{length-append}
use Rattle.apparmor_variables.specs.inner.Known.{list_made, is_marked}
use Rattle.apparmor_variables.proofs.FirstValue.{none_more, unmarked_more, nothing_known, nothing_free}
use Rattle.apparmor_variables.proofs.made_lists.Made.nothing.Goals as goal

one_more : {X : Type 0} (xs new : List X) (x : X) (n : ℕ) → new ≡ xs ++ x ∷ [] → length xs ≡ n → length new ≡ n + 1
one_more xs new x n is all = let more = ap length is in let both = length-append xs (x ∷ []) in omega (arith, more, both, all)

pub loop-place-preserved : goal.loop-place-preserved
loop-place-preserved c =
    let before = c.loop-place.invariant in
    record {
      lists = one_more c.loop-place.lists.items _ None c.loop-place.place c.in_ok-push.ensures.items before.lists;
      met = one_more c.loop-place.met.items _ c.loop-place.place c.loop-place.place c.in_ok-push-2.ensures.items before.met;
      marks = one_more c.loop-place.needs_first.items _ false c.loop-place.place c.in_ok-push-3.ensures.items before.marks;
      nothing = λ k. ap (λ lists. list_made lists k) c.in_ok-push.ensures.items ∙ none_more c.loop-place.lists.items k before.nothing;
      unmarked = λ k. ap (λ marks. is_marked marks k) c.in_ok-push-3.ensures.items ∙ unmarked_more c.loop-place.needs_first.items
          k before.unmarked;
    }

pub returns : goal.returns
returns c =
    let variables = c.args.declared.now in
    let lists = c.loop-place.lists.items in
    let marks = c.loop-place.needs_first.items in
    let none = c.loop-place.invariant in
    let unnoted : (place : ℕ) → Contains c.new.result.items place → ⊥ = λ place h. let low = subst (λ (xs : List ℕ). h.0 < length xs)
    c.new.ensures.items h.1 in omega (arith, low) in
    let all : c.loop-place.place ≡ length variables = omega arith in
    record {
      lists = none.lists ∙ all;
      met = none.met ∙ all;
      marks = none.marks ∙ all;
      levels = 0;
      right = λ name list e. absurd (nothing_known lists none.nothing variables name list e);
      free = λ value name list e. absurd (nothing_free lists none.nothing marks variables name list e);
      noted = λ place e. let not_so : true ≡ false = sym e ∙ none.unmarked place in absurd cc;
      within = λ place h. absurd (unnoted place h);
    }
