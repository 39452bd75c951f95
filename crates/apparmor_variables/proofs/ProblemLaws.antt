-- A variable has one list or one problem, and not both.
use Rattle.std.proofs.Common.{◌≡◌, ℕ, zero, suc, ◌+◌, ◌≤◌, ◌<◌, Bool, true, false, eqb, List, [], ◌∷◌, ◌++◌, length, map, Option, Some}
use Rattle.std.proofs.Common.{None, refl, sym, ap, ◌∙◌, subst, ◌⊎◌, inl, inr, ⊎_elim, arith}
use Rattle.std.specs.Prelude.{is_some, IsSome, Contains, option_and_then, bytes_eq, unwrap_or, ◌||◌}
use Rattle.std.proofs.lemmas.List.{length-map}
use Rattle.std.specs.List.{IsDistinct, AllByRecursion, list_any}
use Rattle.std.specs.Cmp.Lexicographic.{bytes_decides}
use Rattle.std.proofs.lemmas.Bool.{ne_eqb, eqb-true}
use Rattle.std.proofs.lemmas.Map.Steps.{length-le_from_distinct_below}
use Rattle.apparmor_pieces.specs.Pieces.{Text, Piece, byte, escaped, use_of, pieces, names_in, used_names}
use Rattle.apparmor_variables.specs.Variables.{Variable, Known, values_of, list_at, list_of_values, names_needed, fitting, each_with}
use Rattle.apparmor_variables.specs.Variables.{texts_from, value_texts, list_from}
use Rattle.apparmor_variables.specs.Problems.{Problem, undefined, cycle, too_long, IsListed, AreListed, HasProblem, Undeclared, Met}
use Rattle.apparmor_variables.specs.Problems.{Through, Long}
use Rattle.apparmor_variables.specs.inner.Known.{place_of}
use Rattle.apparmor_variables.specs.inner.Way.{AreKnown, variable_at}
use Rattle.apparmor_variables.proofs.Gets.{contained, contained_first, contained_later}
use Rattle.apparmor_variables.proofs.KnownLists.{both_steps, and_both, levels, stands_at, stands_nowhere, are_known_more}
use Rattle.apparmor_variables.proofs.WayMade.{no_list}

-- ---- what has a list needs what has a list

module _ (known : Known) where
  front_known : (names more : List Text) → AreKnown known names → AreKnown known more → AreKnown known (names ++ more)
  front_known [] more h g = g
  front_known (name ∷ names) more h g = (h.0, front_known names more h.1 g)

  texts_need : (begun : List Text) (ps : List Piece) (texts : List Text) → texts_from known begun ps ≡ Some texts →
      AreKnown known (names_in ps)
  texts_need begun [] texts e = tt
  texts_need begun (byte b ∷ ps) texts e =
      let a = both_steps (λ longer. texts_from known longer ps) (fitting (each_with begun ((b ∷ []) ∷ []))) texts e in
      texts_need a.0 ps texts a.2
  texts_need begun (escaped b ∷ ps) texts e =
      let a = both_steps (λ longer. texts_from known longer ps) (fitting (each_with begun ((92 ∷ b ∷ []) ∷ []))) texts e in
      texts_need a.0 ps texts a.2
  texts_need begun (use_of name ∷ ps) texts e =
      let a = both_steps (λ choices. option_and_then (λ longer. texts_from known longer ps) (fitting (each_with begun choices)))
      (known name) texts e in
      let b = both_steps (λ longer. texts_from known longer ps) (fitting (each_with begun a.0)) texts a.2 in
      (ap is_some a.1, texts_need b.0 ps texts b.2)

  pub list_needs : (begun values list : List Text) → list_from known begun values ≡ Some list → AreKnown known (names_needed values)
  list_needs begun [] list e = tt
  list_needs begun (v ∷ vs) list e =
      let a = both_steps (λ texts. option_and_then (λ longer. list_from known longer vs) (fitting (begun ++ texts)))
      (value_texts known v) list e in
      let b = both_steps (λ longer. list_from known longer vs) (fitting (begun ++ a.0)) list a.2 in
      front_known (used_names v) (names_needed vs) (texts_need ([] ∷ []) (pieces v) a.0 a.1) (list_needs b.0 vs list b.2)

  of_middle : (before after : List Text) (used : Text) → AreKnown known (before ++ used ∷ after) → IsSome (known used)
  of_middle [] after used h = h.0
  of_middle (name ∷ before) after used h = of_middle before after used h.1

pub some_list : (o : Option (List Text)) → IsSome o → (list : List Text) × (o ≡ Some list)
some_list None h = absurd cc
some_list (Some list) h = (list, refl)

-- a list at `suc n` levels is made from the lists at `n` levels
below_list : (variables : List Variable) (n : ℕ) (name : Text) (values list : List Text) → values_of variables name ≡ Some values →
    list_at (suc n) variables name ≡ Some list
    → list_of_values (list_at n variables) values ≡ Some list
unfolding list_at
below_list variables n name values list valued e = sym (ap (option_and_then (list_of_values (list_at n variables))) valued) ∙ e

no_list_at_zero : (variables : List Variable) (name : Text) (list : List Text) → list_at zero variables name ≡ Some list → ⊥
unfolding list_at
no_list_at_zero variables name list e = absurd cc

no_list_undeclared : (variables : List Variable) (n : ℕ) (name : Text) (list : List Text) → values_of variables name ≡ None →
    list_at n variables name ≡ Some list → ⊥
unfolding list_at
no_list_undeclared variables zero name list none e = absurd cc
no_list_undeclared variables (suc n) name list none e =
    let no : None ≡ Some list = sym (ap (option_and_then (list_of_values (list_at n variables))) none) ∙ e in absurd cc

-- ---- a problem and a list exclude each other

-- no variable on the way has a list within `n` levels
abbrev pub IsBare : List Variable → ℕ → List Text → Type 0
IsBare variables n way = (name : Text) → Contains way name → (m : ℕ) → m ≤ n → (list : List Text) →
    list_at m variables name ≡ Some list → ⊥

abbrev Excluded : List Variable → ℕ → Type 0
Excluded variables n = (way : List Text) (name : Text) (problem : Problem) → IsBare variables n way →
    HasProblem variables way name problem → (list : List Text) → list_at n variables name ≡ Some list → ⊥

through_excluded : (variables : List Variable) (bound n : ℕ) → n ≤ suc bound → ((m : ℕ) → m ≤ bound → Excluded variables m)
    → (way : List Text) (name : Text) (values before after : List Text) (used : Text) (problem : Problem) → IsBare variables n way
    → (values_of variables name ≡ Some values) → (Contains way name → ⊥) → (names_needed values ≡ before ++ used ∷ after) →
    AreListed variables before → HasProblem variables (name ∷ way) used problem → (list : List Text) →
    list_at n variables name ≡ Some list → ⊥
through_excluded variables bound zero deep less way name values before after used problem bare valued new needs listed has list e =
    no_list_at_zero variables name list e
through_excluded variables bound (suc n) deep less way name values before after used problem bare valued new needs listed has list e =
    let all = list_needs (list_at n variables) [] values list (below_list variables n name values list valued e) in
    let some = some_list (list_at n variables used) (of_middle (list_at n variables) before after used
    (subst (AreKnown (list_at n variables)) needs all)) in
    less n (omega arith) (name ∷ way) used problem
    (λ other has_it m low l k. ⊎_elim
    (λ same. less m (omega arith) way name problem (λ x met j under li kk. bare x met j (omega arith) li kk)
    (Through way name values before after used problem valued new needs listed has) l (ap (list_at m variables) same ∙ k))
    (λ later. bare other later m (omega arith) l k)
    (contained name way other has_it))
    has some.0 some.1

long_excluded : (variables : List Variable) (n : ℕ) (name : Text) (values : List Text) → values_of variables name ≡ Some values →
    ((m : ℕ) → list_of_values (list_at m variables) values ≡ None)
    → (list : List Text) → list_at n variables name ≡ Some list → ⊥
long_excluded variables zero name values valued none list e = no_list_at_zero variables name list e
long_excluded variables (suc n) name values valued none list e =
    let no : None ≡ Some list = sym (none n) ∙ below_list variables n name values list valued e in absurd cc

by_case : (variables : List Variable) (bound n : ℕ) → n ≤ suc bound → ((m : ℕ) → m ≤ bound → Excluded variables m) → Excluded variables n
by_case variables bound n deep less _ _ _ bare (Undeclared way name none) list e = no_list_undeclared variables n name list none e
by_case variables bound n deep less _ _ _ bare (Met way name some met) list e = bare name met n (omega arith) list e
by_case variables bound n deep less _ _ _ bare (Through way name values before after used problem valued new needs listed has) list e =
    through_excluded variables bound n deep less way name values before after used problem bare valued new needs listed has list e
by_case variables bound n deep less _ _ _ bare (Long way name values valued new listed none) list e =
    long_excluded variables n name values valued none list e

excluded_up_to : (variables : List Variable) (bound n : ℕ) → n ≤ bound → Excluded variables n
excluded_up_to variables zero n deep way name problem bare has list e =
    let same : n ≡ 0 = omega arith in no_list_at_zero variables name list (subst (λ m. list_at m variables name ≡ Some list) same e)
excluded_up_to variables (suc bound) n deep way name problem bare has list e = by_case variables bound n deep
    (excluded_up_to variables bound) way name problem bare has list e

-- no variable on the way has a list
abbrev pub IsFree : List Variable → List Text → Type 0
IsFree variables way = (name : Text) → Contains way name → IsListed variables name → ⊥

pub problem_excludes : (variables : List Variable) (way : List Text) (name : Text) (problem : Problem) → IsFree variables way →
    HasProblem variables way name problem → IsListed variables name → ⊥
problem_excludes variables way name problem free has listed =
    excluded_up_to variables listed.1.0 listed.1.0 (omega arith) way name problem (λ other met m low list e. free other met (list, (m, e)))
    has listed.0 listed.1.1

pub none_on : (variables : List Variable) → IsFree variables []
none_on variables name met = absurd (omega (arith, met.1))

-- ---- one problem

pub same_use : (variables : List Variable) (before after before' after' : List Text) (used used' : Text) → before ++ used ∷ after ≡ before'
    ++ used' ∷ after' → AreListed variables before → AreListed variables before'
    → (IsListed variables used → ⊥) → (IsListed variables used' → ⊥) → used ≡ used'
same_use variables [] after [] after' used used' e h g n n' = cc
same_use variables [] after (x ∷ before') after' used used' e h g n n' = let same : used ≡ x = cc in
    absurd (n (subst (IsListed variables) (sym same) g.0))
same_use variables (x ∷ before) after [] after' used used' e h g n n' = let same : x ≡ used' = cc in
    absurd (n' (subst (IsListed variables) same h.0))
same_use variables (x ∷ before) after (y ∷ before') after' used used' e h g n n' =
    let tails : before ++ used ∷ after ≡ before' ++ used' ∷ after' = cc in same_use variables before after before' after' used
    used' tails h.1 g.1 n n'

pub listed_middle : (variables : List Variable) (before after : List Text) (used : Text) → AreListed variables (before ++ used ∷ after) →
    IsListed variables used
listed_middle variables [] after used h = h.0
listed_middle variables (x ∷ before) after used h = listed_middle variables before after used h.1

free_further : (variables : List Variable) (way : List Text) (name : Text) → IsFree variables way → (IsListed variables name → ⊥) →
    IsFree variables (name ∷ way)
free_further variables way name free none other met listed =
    ⊎_elim (λ same. none (subst (IsListed variables) (sym same) listed)) (λ later. free other later listed) (contained name way other met)

undeclared_only : (variables : List Variable) (way : List Text) (name : Text) (other : Problem) → values_of variables name ≡ None →
    HasProblem variables way name other → undefined name ≡ other
undeclared_only variables _ _ _ none (Undeclared way name none') = refl
undeclared_only variables _ _ _ none (Met way name some met) = let no : true ≡ false = sym some ∙ ap is_some none in absurd cc
undeclared_only variables _ _ _ none (Through way name values before after used problem valued new needs listed has) = let no : None
    ≡ Some values = sym none ∙ valued in absurd cc
undeclared_only variables _ _ _ none (Long way name values valued new listed never) = let no : None ≡ Some values =
    sym none ∙ valued in absurd cc

met_only : (variables : List Variable) (way : List Text) (name : Text) (other : Problem) → IsSome (values_of variables name) →
    Contains way name → HasProblem variables way name other → cycle name ≡ other
met_only variables _ _ _ some met (Undeclared way name none) = let no : true ≡ false = sym some ∙ ap is_some none in absurd cc
met_only variables _ _ _ some met (Met way name some' met') = refl
met_only variables _ _ _ some met (Through way name values before after used problem valued new needs listed has) = absurd (new met)
met_only variables _ _ _ some met (Long way name values valued new listed never) = absurd (new met)

long_only : (variables : List Variable) (way : List Text) (name : Text) (values : List Text) (other : Problem) → IsFree variables way →
    values_of variables name ≡ Some values → (Contains way name → ⊥)
    → (IsListed variables name → ⊥) → AreListed variables (names_needed values) → HasProblem variables way name other → too_long ≡ other
long_only variables _ _ values _ free valued new bare listed (Undeclared way name none) = let no : None ≡ Some values =
    sym none ∙ valued in absurd cc
long_only variables _ _ values _ free valued new bare listed (Met way name some met) = absurd (new met)
long_only variables _ _ values _ free valued new bare listed
    (Through way name values' before after used problem valued' new' needs listed' has) =
    let both : Some values ≡ Some values' = sym valued ∙ valued' in
    let same : values ≡ values' = cc in
    let all : AreListed variables (before ++ used ∷ after) = subst (AreListed variables) (ap names_needed same ∙ needs) listed in
    absurd (problem_excludes variables (name ∷ way) used problem (free_further variables way name free bare) has
    (listed_middle variables before after used all))
long_only variables _ _ values _ free valued new bare listed (Long way name values' valued' new' listed' never) = refl

through_only : (variables : List Variable) (way : List Text) (name : Text) (values before after : List Text) (used : Text)
    (problem other : Problem) → IsFree variables way → values_of variables name ≡ Some values → (Contains way name → ⊥)
    → (IsListed variables name → ⊥) → names_needed values ≡ before ++ used ∷ after → AreListed variables before →
    HasProblem variables (name ∷ way) used problem → ((q : Problem) → HasProblem variables (name ∷ way) used q → problem ≡ q) →
    HasProblem variables way name other → problem ≡ other
through_only variables _ _ values before after used problem _ free valued new bare needs listed has one (Undeclared way name none) =
    let no : None ≡ Some values = sym none ∙ valued in absurd cc
through_only variables _ _ values before after used problem _ free valued new bare needs listed has one (Met way name some met) =
    absurd (new met)
through_only variables _ _ values before after used problem _ free valued new bare needs listed has one
    (Through way name values' before' after' used' problem' valued' new' needs' listed' has') =
    let both : Some values ≡ Some values' = sym valued ∙ valued' in
    let same : values ≡ values' = cc in
    let further = free_further variables way name free bare in
    let u : used ≡ used' = same_use variables before after before' after' used used' (sym needs ∙ ap names_needed same ∙ needs')
    listed listed'
    (problem_excludes variables (name ∷ way) used problem further has)
    (problem_excludes variables (name ∷ way) used' problem' further has') in
    one problem' (subst (λ (x : Text). HasProblem variables (name ∷ way) x problem') (sym u) has')
through_only variables _ _ values before after used problem _ free valued new bare needs listed has one
    (Long way name values' valued' new' listed' never) =
    let both : Some values' ≡ Some values = sym valued' ∙ valued in
    let same : values' ≡ values = cc in
    let all : AreListed variables (before ++ used ∷ after) = subst (AreListed variables) (ap names_needed same ∙ needs) listed' in
    absurd (problem_excludes variables (name ∷ way) used problem (free_further variables way name free bare) has
    (listed_middle variables before after used all))

pub one_problem : (variables : List Variable) (way : List Text) (name : Text) (problem : Problem) → IsFree variables way →
    HasProblem variables way name problem → (other : Problem) → HasProblem variables way name other → problem ≡ other
one_problem variables _ _ _ free (Undeclared way name none) other has' = undeclared_only variables way name other none has'
one_problem variables _ _ _ free (Met way name some met) other has' = met_only variables way name other some met has'
one_problem variables _ _ _ free (Through way name values before after used problem valued new needs listed has) other has' =
    let bare = problem_excludes variables way name problem free
    (Through way name values before after used problem valued new needs listed has) in
    through_only variables way name values before after used problem other free valued new bare needs listed has
    (one_problem variables (name ∷ way) used problem (free_further variables way name free bare) has) has'
one_problem variables _ _ _ free (Long way name values valued new listed none) other has' =
    let bare = problem_excludes variables way name too_long free (Long way name values valued new listed none) in
    long_only variables way name values other free valued new bare listed has'

-- ---- a list or a problem

-- the names on the way are declared, and all different
abbrev pub OnWay : List Variable → List Text → Type 0
OnWay variables [] = Unit {0}
OnWay variables (name ∷ way) = IsSome (place_of variables name) × (Contains way name → ⊥) × OnWay variables way

abbrev place : List Variable → Text → ℕ
place variables name = unwrap_or (place_of variables name) 0

is_place : (o : Option ℕ) → IsSome o → o ≡ Some (unwrap_or o 0)
is_place None h = absurd cc
is_place (Some p) h = refl

-- names at the same place are the same
same_name : (variables : List Variable) (one other : Text) → IsSome (place_of variables one) → IsSome (place_of variables other) →
    place variables one ≡ place variables other → one ≡ other
same_name variables one other h g e =
    sym (stands_at variables one (place variables one) (is_place (place_of variables one) h)).named
    ∙ ap (λ p. (variable_at variables p).name) e
    ∙ (stands_at variables other (place variables other) (is_place (place_of variables other) g)).named

apart_places : (variables : List Variable) (way : List Text) (name : Text) → IsSome (place_of variables name) → (Contains way name → ⊥) →
    OnWay variables way → AllByRecursion (λ y. eqb (place variables name) y ≡ false) (map (place variables) way)
apart_places variables [] name some new on = tt
apart_places variables (x ∷ way) name some new on = (
  ne_eqb (place variables name) (place variables x) (λ e. new (contained_first x way name (sym (same_name variables name x some on.0 e)))),
  apart_places variables way name some (λ met. new (contained_later x way name met)) on.2,
)

distinct_places : (variables : List Variable) (way : List Text) → OnWay variables way → IsDistinct eqb (map (place variables) way)
unfolding IsDistinct
distinct_places variables [] on = tt
distinct_places variables (x ∷ way) on = (apart_places variables way x on.0 on.1 on.2, distinct_places variables way on.2)

one_or_other : (a b : Bool) → a || b ≡ true → (a ≡ true) ⊎ (b ≡ true)
one_or_other true b e = inl refl
one_or_other false b e = inr e

places_within : (variables : List Variable) (way : List Text) → OnWay variables way → (q : ℕ) →
    list_any (eqb q) (map (place variables) way) ≡ true → q < length variables
places_within variables [] on q e = absurd cc
places_within variables (x ∷ way) on q e =
    ⊎_elim
    (λ here. let same : q ≡ place variables x = eqb-true q (place variables x) here in let low =
    (stands_at variables x (place variables x) (is_place (place_of variables x) on.0)).within in omega (arith, same, low))
    (λ later. places_within variables way on.2 q later)
    (one_or_other (eqb q (place variables x)) (list_any (eqb q) (map (place variables) way)) e)

pub short_way : (variables : List Variable) (way : List Text) → OnWay variables way → length way ≤ length variables
short_way variables way on =
    let h = length-le_from_distinct_below (map (place variables) way) (length variables) (distinct_places variables way on)
    (places_within variables way on) in
    let n = length-map way (place variables) in
    omega (arith, h, n)

in_way : (way : List Text) (name : Text) → Contains way name ⊎ (Contains way name → ⊥)
in_way [] name = inr (λ met. omega (arith, met.1))
in_way (x ∷ way) name =
    let P : (t : Bool) → bytes_eq x name ≡ t → Contains (x ∷ way) name ⊎ (Contains (x ∷ way) name → ⊥) =
    λ t. elim t as (λ t. bytes_eq x name ≡ t → Contains (x ∷ way) name ⊎ (Contains (x ∷ way) name → ⊥)) [
      | true ↦ λ e. inl (contained_first x way name ((bytes_decides x name).0 e))
      | false ↦ λ e. ⊎_elim (λ later. inl (contained_later x way name later))
          (λ not_later. inr (λ met. ⊎_elim (λ same. let no : false ≡ true = sym e ∙ (bytes_decides x name).1 same in absurd cc) not_later
          (contained x way name met)))
          (in_way way name)
    ] in
    P (bytes_eq x name) refl

abbrev pub Outcome : List Variable → List Text → Text → Type 0
Outcome variables way name = IsListed variables name ⊎ ((problem : Problem) × HasProblem variables way name problem)

-- the first of the names that has a problem
pub record FirstProblem (variables : List Variable) (way : List Text) (names : List Text) : Type 0 where
  pub before : List Text
  pub after : List Text
  pub used : Text
  pub problem : Problem
  pub needs : names ≡ before ++ used ∷ after
  pub listed : AreListed variables before
  pub has : HasProblem variables way used problem

pub each_in_turn : (variables : List Variable) (way : List Text) (names : List Text) → ((name : Text) → Outcome variables way name) →
    AreListed variables names ⊎ FirstProblem variables way names
each_in_turn variables way [] outcome = inl tt
each_in_turn variables way (name ∷ names) outcome =
    ⊎_elim
    (λ list. ⊎_elim
    (λ all. inl (list, all))
    (λ first. inr (record {
      before = name ∷ first.before;
      after = first.after;
      used = first.used;
      problem = first.problem;
      needs =
          ap (λ (x : List Text). name ∷ x) first.needs;
      listed = (list, first.listed);
      has = first.has;
    }))
    (each_in_turn variables way names outcome))
    (λ found. inr (record { before = []; after = names; used = name; problem = found.0; needs = refl; listed = tt; has = found.1 }))
    (outcome name)

-- enough levels for all of them
pub levels_for : (variables : List Variable) (names : List Text) → AreListed variables names →
    (n : ℕ) × AreKnown (list_at n variables) names
levels_for variables [] h = (0, tt)
levels_for variables (name ∷ names) h =
    let rest = levels_for variables names h.1 in
    let m = h.0.1.0 in
    let n = rest.0 in (
      m + n,
      (
        ap is_some (levels variables n m (m + n) (omega arith) name h.0.0 h.0.1.1),
        are_known_more (list_at n variables)
            (list_at (m + n) variables) (levels variables m n (m + n) refl) names rest.1,
      ),
    )

with_all_listed : (variables : List Variable) (way : List Text) (name : Text) (values : List Text) → values_of variables name
    ≡ Some values → (Contains way name → ⊥) → (all : AreListed variables (names_needed values))
    → (o : Option (List Text)) → list_of_values (list_at (levels_for variables (names_needed values) all).0 variables) values ≡ o →
    Outcome variables way name
unfolding list_at
with_all_listed variables way name values valued new all (Some list) e =
    let n = (levels_for variables (names_needed values) all).0 in
    inl (list, (suc n, and_both (list_of_values (list_at n variables)) (values_of variables name) values list valued e))
with_all_listed variables way name values valued new all None e =
    let n = levels_for variables (names_needed values) all in
    inr (
      too_long,
      Long way name values valued new all (λ m. no_list variables (list_at n.0 variables) n.0 (λ x l k. k) values n.1 e m
          (list_of_values (list_at m variables) values) refl),
    )

declared_outcome : (variables : List Variable) (way : List Text) (name : Text) (values : List Text) → values_of variables name
    ≡ Some values → (Contains way name → ⊥)
    → AreListed variables (names_needed values) ⊎ FirstProblem variables (name ∷ way) (names_needed values) → Outcome variables way name
declared_outcome variables way name values valued new (inl all) =
    with_all_listed variables way name values valued new all
    (list_of_values (list_at (levels_for variables (names_needed values) all).0 variables) values) refl
declared_outcome variables way name values valued new (inr first) =
    inr (
      first.problem,
      Through way name values first.before first.after first.used first.problem valued new first.needs
          first.listed first.has,
    )

next_outcome : (variables : List Variable) (way : List Text) (name : Text) →
    ((p : ℕ) → place_of variables name ≡ Some p → (Contains way name → ⊥) → Outcome variables way name)
    → (o : Option ℕ) → place_of variables name ≡ o → Outcome variables way name
next_outcome variables way name new_one None e = inr (undefined name, Undeclared way name (stands_nowhere variables name e))
next_outcome variables way name new_one (Some p) e =
    ⊎_elim (λ met. inr (cycle name, Met way name (ap is_some (stands_at variables name p e).valued) met)) (λ new. new_one p e new)
    (in_way way name)

-- `room` more variables may still be pushed onto the way
outcome_within : (variables : List Variable) (room : ℕ) (way : List Text) → OnWay variables way → length variables ≤ room + length way →
    (name : Text) → Outcome variables way name
outcome_within variables zero way on enough name =
    next_outcome variables way name (λ p e new. let s = short_way variables (name ∷ way) (ap is_some e, new, on) in
    absurd (omega (arith, s))) (place_of variables name) refl
outcome_within variables (suc room) way on enough name =
    next_outcome variables way name
    (λ p e new. declared_outcome variables way name (variable_at variables p).values (stands_at variables name p e).valued new
    (each_in_turn variables (name ∷ way) (names_needed (variable_at variables p).values)
    (outcome_within variables room (name ∷ way) (ap is_some e, new, on) (omega arith))))
    (place_of variables name) refl

pub some_outcome : (variables : List Variable) (name : Text) → Outcome variables [] name
some_outcome variables name = outcome_within variables (length variables) [] tt (omega arith) name
