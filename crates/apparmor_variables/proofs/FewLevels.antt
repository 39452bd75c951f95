-- A variable that has a list has it within as many levels as there are variables: the names on the way to it all differ.
use Rattle.std.proofs.Common.{◌≡◌, ℕ, zero, suc, ◌+◌, ◌-◌, ◌≤◌, List, [], ◌∷◌, length, Option, Some, None, refl, sym, ap, ◌∙◌}
use Rattle.std.proofs.Common.{⊎_elim, arith}
use Rattle.std.specs.Prelude.{is_some, IsSome, Contains}
use Rattle.apparmor_pieces.specs.Pieces.{Text, pieces}
use Rattle.apparmor_variables.specs.PathTexts.{path_text}
use Rattle.apparmor_variables.specs.Variables.{Variable, HasList, values_of, list_at, list_of_values, names_needed}
use Rattle.apparmor_variables.specs.inner.Known.{place_of}
use Rattle.apparmor_variables.specs.inner.Way.{AreKnown, KnowsAll}
use Rattle.apparmor_variables.proofs.Gets.{contained}
use Rattle.apparmor_variables.proofs.KnownLists.{Agree, alike, and_both, both_steps, levels, stands_nowhere}
use Rattle.apparmor_variables.proofs.ListLaws.{one_list}
use Rattle.apparmor_variables.proofs.PathSteps.{text_more}
use Rattle.apparmor_variables.proofs.ProblemLaws.{IsBare, OnWay, list_needs, short_way, some_list}

-- where the same list is found for each of these names, both know the same of them
agreeing : (variables : List Variable) (n m : ℕ) (names : List Text) → AreKnown (list_at n variables) names →
    ((name : Text) (list : List Text) → list_at n variables name ≡ Some list → list_at m variables name ≡ Some list) →
    Agree (list_at n variables) (list_at m variables) names
agreeing variables n m [] known same = tt
agreeing variables n m (name ∷ names) known same =
    let some = some_list (list_at n variables name) known.0 in
    (some.1 ∙ sym (same name some.0 some.1), agreeing variables n m names known.1 same)

is_placed : (variables : List Variable) (name : Text) (values : List Text) (o : Option ℕ) → place_of variables name ≡ o →
    values_of variables name ≡ Some values → IsSome o
is_placed variables name values None e valued =
    let no : None ≡ Some values = sym (stands_nowhere variables name e) ∙ valued in absurd cc
is_placed variables name values (Some place) e valued = refl

no_room : (variables : List Variable) (way : List Text) (name : Text) → OnWay variables way → length variables ≤ length way →
    IsSome (place_of variables name) → (Contains way name → ⊥) → ⊥
no_room variables way name on full some new = let short = short_way variables (name ∷ way) (some, new, on) in omega (arith, short, full)

-- `room` more variables may still be pushed onto the way, on which none has a list within `n` levels
abbrev Within : List Variable → ℕ → Type 0
Within variables n = (room : ℕ) (way : List Text) → OnWay variables way → length variables ≤ room + length way →
    IsBare variables n way → (name : Text) (list : List Text) →
    list_at n variables name ≡ Some list → list_at room variables name ≡ Some list

bare_further : (variables : List Variable) (n : ℕ) (way : List Text) (name : Text) → IsBare variables (suc n) way →
    list_at n variables name ≡ None → IsBare variables n (name ∷ way)
bare_further variables n way name bare none other met m low list e = ⊎_elim
    (λ same.
    let more : list_at n variables name ≡ Some list = ap (list_at n variables) same ∙ deeper other list e in
    let no : None ≡ Some list = sym none ∙ more in absurd cc)
    (λ later. bare other later m (omega (arith, low)) list e)
    (contained name way other met)
  where
    deeper : KnowsAll (list_at m variables) (list_at n variables)
    deeper = levels variables (n - m) m n (omega (arith, low))

one_more : (variables : List Variable) (n : ℕ) → Within variables n → (room : ℕ) (way : List Text) → OnWay variables way →
    length variables ≤ room + length way → IsBare variables (suc n) way → (name : Text) (values list : List Text) →
    values_of variables name ≡ Some values → list_of_values (list_at n variables) values ≡ Some list →
    list_at n variables name ≡ None → (Contains way name → ⊥) → list_at room variables name ≡ Some list
unfolding list_at
one_more variables n within zero way on enough bare name values list valued e none new =
    absurd (no_room variables way name on (omega (arith, enough))
    (is_placed variables name values (place_of variables name) refl valued) new)
one_more variables n within (suc room) way on enough bare name values list valued e none new =
    let some = is_placed variables name values (place_of variables name) refl valued in
    let all = list_needs (list_at n variables) [] values list e in
    let same = agreeing variables n room (names_needed values) all
    (within room (name ∷ way) (some, new, on) (omega (arith, enough)) (bare_further variables n way name bare none)) in
    and_both (list_of_values (list_at room variables)) (values_of variables name) values list valued
    (sym (alike (list_at n variables) (list_at room variables) values same) ∙ e)

within_levels : (variables : List Variable) (n : ℕ) → Within variables n
unfolding list_at
within_levels variables zero room way on enough bare name list e = absurd cc
within_levels variables (suc n) room way on enough bare name list e =
    at (within_levels variables n) (list_at n variables name) refl
  where
    shallower : IsBare variables n way
    shallower other met m low = bare other met m (omega (arith, low))

    at : Within variables n → (o : Option (List Text)) → list_at n variables name ≡ o → list_at room variables name ≡ Some list
    at within (Some other) is =
        let one : other ≡ list = one_list variables name other list (n, is) (suc n, e) in
        within room way on enough shallower name list (is ∙ ap Some one)
    at within None is =
        let a = both_steps (list_of_values (list_at n variables)) (values_of variables name) list e in
        one_more variables n within room way on enough bare name a.0 list a.1 a.2 is
        (λ met. bare name met (suc n) (omega arith) list e)

pub few_levels : (variables : List Variable) (name : Text) (list : List Text) → HasList variables name list →
    list_at (length variables) variables name ≡ Some list
few_levels variables name list has = within_levels variables has.0 (length variables) [] tt (omega arith)
    (λ other met. absurd (omega (arith, met.1))) name list has.1

-- and so has a path its text
pub few_levels_of_texts : (variables : List Variable) (n : ℕ) (path text : Text) → path_text (list_at n variables) path ≡ Some text →
    path_text (list_at (length variables) variables) path ≡ Some text
few_levels_of_texts variables n path text e = text_more (list_at n variables) (list_at (length variables) variables)
    (λ name list known. few_levels variables name list (n, known)) [] (pieces path) text e
