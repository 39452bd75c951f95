-- What is known, and lists that are found when more is known.
use Rattle.std.proofs.Common.{◌≡◌, ℕ, zero, suc, ◌+◌, ◌-◌, ◌<◌, Bool, true, false, cond, List, [], ◌∷◌, ◌++◌, length, take, get_or, Option}
use Rattle.std.proofs.Common.{Some, None, refl, sym, ap, ◌∙◌, subst, arith}
use Rattle.std.specs.Prelude.{slice_get, is_some, IsSome, bytes_eq, option_and_then, find, unwrap_or}
use Rattle.std.specs.Option.{option_map}
use Rattle.std.specs.Cmp.Lexicographic.{bytes_decides}
use Rattle.apparmor_pieces.specs.Pieces.{Text, Piece, byte, escaped, use_of, pieces, names_in, used_names}
use Rattle.apparmor_variables.specs.Variables.{Variable, Known, values_of, fitting, each_with, piece_texts, texts_from, value_texts}
use Rattle.apparmor_variables.specs.Variables.{list_from, list_of_values, list_at, names_needed}
use Rattle.apparmor_variables.specs.Problems.{AreListed}
use Rattle.apparmor_variables.specs.inner.Known.{place_of}
use Rattle.apparmor_variables.specs.inner.Way.{KnowsAll, AreKnown, variable_at}
use Rattle.std.proofs.lemmas.List.{take_more}
use Rattle.apparmor_variables.proofs.Gets.{get_is}
use Rattle.apparmor_variables.proofs.Places.{find_place, find_nothing}

-- ---- one step that may fail after another

-- both steps gave something
pub both_steps : {A B : Type 0} (f : A → Option B) (o : Option A) (y : B) → option_and_then f o ≡ Some y →
    (x : A) × (o ≡ Some x) × (f x ≡ Some y)
both_steps f None y e = absurd cc
both_steps f (Some x) y e = (x, refl, e)

pub and_both : {A B : Type 0} (f : A → Option B) (o : Option A) (x : A) (y : B) → o ≡ Some x → f x ≡ Some y → option_and_then f o ≡ Some y
and_both f o x y e g = ap (option_and_then f) e ∙ g

-- ---- more that is known

module _ (old new : Known) (more : KnowsAll old new) where
  pub piece_more : (p : Piece) (texts : List Text) → piece_texts old p ≡ Some texts → piece_texts new p ≡ Some texts
  piece_more (byte b) texts e = e
  piece_more (escaped b) texts e = e
  piece_more (use_of name) texts e = more name texts e

  texts_more : (begun : List Text) (ps : List Piece) (texts : List Text) → texts_from old begun ps ≡ Some texts →
      texts_from new begun ps ≡ Some texts
  texts_more begun [] texts e = e
  texts_more begun (p ∷ ps) texts e =
      let a = both_steps (λ choices. option_and_then (λ longer. texts_from old longer ps) (fitting (each_with begun choices)))
      (piece_texts old p) texts e in
      let b = both_steps (λ longer. texts_from old longer ps) (fitting (each_with begun a.0)) texts a.2 in
      and_both (λ choices. option_and_then (λ longer. texts_from new longer ps) (fitting (each_with begun choices))) (piece_texts new p)
      a.0 texts (piece_more p a.0 a.1) (and_both (λ longer. texts_from new longer ps) (fitting (each_with begun a.0)) b.0 texts b.1
      (texts_more b.0 ps texts b.2))

  list_more : (begun : List Text) (values : List Text) (list : List Text) → list_from old begun values ≡ Some list →
      list_from new begun values ≡ Some list
  list_more begun [] list e = e
  list_more begun (v ∷ vs) list e =
      let a = both_steps (λ texts. option_and_then (λ longer. list_from old longer vs) (fitting (begun ++ texts)))
      (value_texts old v) list e in
      let b = both_steps (λ longer. list_from old longer vs) (fitting (begun ++ a.0)) list a.2 in
      and_both (λ texts. option_and_then (λ longer. list_from new longer vs) (fitting (begun ++ texts))) (value_texts new v) a.0 list
      (texts_more ([] ∷ []) (pieces v) a.0 a.1) (and_both (λ longer. list_from new longer vs) (fitting (begun ++ a.0)) b.0 list b.1
      (list_more b.0 vs list b.2))

pub more_listed : (old new : Known) → KnowsAll old new → (values list : List Text) → list_of_values old values ≡ Some list →
    list_of_values new values ≡ Some list
more_listed old new more values list e = list_more old new more [] values list e

-- one more level gives no different list
pub one_level : (variables : List Variable) (n : ℕ) → KnowsAll (list_at n variables) (list_at (suc n) variables)
unfolding list_at
one_level variables zero name list e = absurd cc
one_level variables (suc n) name list e =
    let a = both_steps (list_of_values (list_at n variables)) (values_of variables name) list e in
    and_both (list_of_values (list_at (suc n) variables)) (values_of variables name) a.0 list a.1
    (more_listed (list_at n variables) (list_at (suc n) variables) (one_level variables n) a.0 list a.2)

pub levels : (variables : List Variable) (k n m : ℕ) → m ≡ k + n → KnowsAll (list_at n variables) (list_at m variables)
levels variables zero n m is name list e = let same : n ≡ m = omega arith in subst (λ j. list_at j variables name ≡ Some list) same e
levels variables (suc k) n m is name list e =
    let same : suc (k + n) ≡ m = omega arith in
    subst (λ j. list_at j variables name ≡ Some list) same
    (one_level variables (k + n) name list (levels variables k n (k + n) refl name list e))

-- ---- what is known of names

some_more : (a b : Option (List Text)) → ((list : List Text) → a ≡ Some list → b ≡ Some list) → IsSome a → IsSome b
some_more None b f h = absurd cc
some_more (Some list) b f h = ap is_some (f list refl)

pub are_known_more : (old new : Known) → KnowsAll old new → (names : List Text) → AreKnown old names → AreKnown new names
are_known_more old new more [] h = tt
are_known_more old new more (name ∷ names) h = (some_more (old name) (new name) (more name) h.0, are_known_more old new more names h.1)

the_list : (o : Option (List Text)) → IsSome o → (list : List Text) × (o ≡ Some list)
the_list None h = absurd cc
the_list (Some list) h = (list, refl)

-- what is known at some level is listed
pub are_listed : (variables : List Variable) (known : Known) (n : ℕ) → KnowsAll known (list_at n variables) → (names : List Text) →
    AreKnown known names → AreListed variables names
are_listed variables known n right [] h = tt
are_listed variables known n right (name ∷ names) h =
    let a = the_list (known name) h.0 in ((a.0, (n, right name a.0 a.1)), are_listed variables known n right names h.1)

-- ---- two that know the same about the names that values use give the same list

-- both say the same about these names
abbrev pub Agree : Known → Known → List Text → Type 0
Agree one other [] = Unit {0}
Agree one other (name ∷ names) = (one name ≡ other name) × Agree one other names

pub agree_front : (one other : Known) (names more : List Text) → Agree one other (names ++ more) → Agree one other names
agree_front one other [] more h = tt
agree_front one other (name ∷ names) more h = (h.0, agree_front one other names more h.1)

pub agree_back : (one other : Known) (names more : List Text) → Agree one other (names ++ more) → Agree one other more
agree_back one other [] more h = h
agree_back one other (name ∷ names) more h = agree_back one other names more h.1

-- what is known is the same for any that knows all of it
pub agree_known : (old new : Known) → KnowsAll old new → (names : List Text) → AreKnown old names → Agree old new names
agree_known old new more [] h = tt
agree_known old new more (name ∷ names) h =
    let a = the_list (old name) h.0 in (a.1 ∙ sym (more name a.0 a.1), agree_known old new more names h.1)

module _ (one other : Known) where
  rest_alike : (begun : List Text) (ps : List Piece) → ((longer : List Text) → texts_from one longer ps ≡ texts_from other longer ps) →
      (o : Option (List Text))
      → option_and_then (λ choices. option_and_then (λ longer. texts_from one longer ps) (fitting (each_with begun choices))) o
      ≡ option_and_then (λ choices. option_and_then (λ longer. texts_from other longer ps) (fitting (each_with begun choices))) o
  rest_alike begun ps same o =
      ap (λ (f : List Text → Option (List Text)). option_and_then (λ choices. option_and_then f (fitting (each_with begun choices))) o)
      (λ i longer. same longer i)

  texts_alike : (begun : List Text) (ps : List Piece) → Agree one other (names_in ps) → texts_from one begun ps ≡ texts_from other begun ps
  texts_alike begun [] h = refl
  texts_alike begun (byte b ∷ ps) h = rest_alike begun ps (λ longer. texts_alike longer ps h) (Some ((b ∷ []) ∷ []))
  texts_alike begun (escaped b ∷ ps) h = rest_alike begun ps (λ longer. texts_alike longer ps h) (Some ((92 ∷ b ∷ []) ∷ []))
  texts_alike begun (use_of name ∷ ps) h =
      ap (option_and_then (λ choices. option_and_then (λ longer. texts_from one longer ps) (fitting (each_with begun choices)))) h.0
      ∙ rest_alike begun ps (λ longer. texts_alike longer ps h.1) (other name)

  list_alike : (begun : List Text) (values : List Text) → Agree one other (names_needed values) → list_from one begun values
      ≡ list_from other begun values
  list_alike begun [] h = refl
  list_alike begun (v ∷ vs) h =
      ap (option_and_then (λ texts. option_and_then (λ longer. list_from one longer vs) (fitting (begun ++ texts))))
      (texts_alike ([] ∷ []) (pieces v) (agree_front one other (used_names v) (names_needed vs) h))
      ∙ ap (λ (f : List Text → Option (List Text)). option_and_then (λ texts. option_and_then f (fitting (begun ++ texts)))
      (value_texts other v)) (λ i longer. list_alike longer vs (agree_back one other (used_names v) (names_needed vs) h) i)

pub alike : (one other : Known) (values : List Text) → Agree one other (names_needed values) → list_of_values one values
    ≡ list_of_values other values
alike one other values h = list_alike one other [] values h

-- ---- variables at their places

passes : {X : Type 0} (test : X → Bool) (xs : List X) (x : X) → find test xs ≡ Some x → test x ≡ true
passes test [] x e = absurd cc
passes test (y ∷ xs) x e =
    let P : (t : Bool) → test y ≡ t → cond t (Some y) (find test xs) ≡ Some x → test x ≡ true =
    λ t. elim t as (λ t. test y ≡ t → cond t (Some y) (find test xs) ≡ Some x → test x ≡ true) [
      | true ↦ λ h g. let same : y ≡ x = cc in ap test (sym same) ∙ h
      | false ↦ λ h g. passes test xs x g
    ] in
    P (test y) refl e

-- the variable of a name, at this place
pub record StandsAt (variables : List Variable) (name : Text) (place : ℕ) : Type 0 where
  pub within : place < length variables
  pub valued : values_of variables name ≡ Some (variable_at variables place).values
  pub named : (variable_at variables place).name ≡ name

pub stands_at : (variables : List Variable) (name : Text) (place : ℕ) → place_of variables name ≡ Some place →
    StandsAt variables name place
stands_at variables name place e =
    let found = find_place (λ (v : Variable). bytes_eq v.name name) 0 variables place e in
    let same : place - 0 ≡ place = omega arith in
    let within : place < length variables = omega (arith, found.within) in
    let at = get_is variables place within in
    let there : find (λ (v : Variable). bytes_eq v.name name) variables ≡ Some at.0 = found.there ∙ ap (slice_get variables) same ∙ at.1 in
    let is : at.0 ≡ variable_at variables place = sym (ap (λ o. unwrap_or o (record { name = []; values = [] })) at.1) in
    record {
      within = within;
      valued = ap (option_map (λ (v : Variable). v.values)) there ∙ ap (λ (v : Variable). Some v.values) is;
      named = ap (λ (v : Variable). v.name) (sym is) ∙ (bytes_decides at.0.name name).0
          (passes (λ (v : Variable). bytes_eq v.name name) variables at.0 there);
    }

pub stands_nowhere : (variables : List Variable) (name : Text) → place_of variables name ≡ None → values_of variables name ≡ None
stands_nowhere variables name e = ap (option_map (λ (v : Variable). v.values))
    (find_nothing (λ (v : Variable). bytes_eq v.name name) 0 variables e)

-- ---- names known one after another

pub known_and_one : (known : Known) (names : List Text) (name : Text) → AreKnown known names → IsSome (known name) →
    AreKnown known (names ++ name ∷ [])
known_and_one known [] name h some = (some, tt)
known_and_one known (n ∷ names) name h some = (h.0, known_and_one known names name h.1 some)

pub known_more : (known : Known) (names : List Text) (i : ℕ) (name : Text) → i < length names → get_or names i name ≡ name →
    AreKnown known (take i names) → IsSome (known name) → AreKnown known (take (i + 1) names)
known_more known names i name low is h some =
    subst (AreKnown known) (ap (λ (x : Text). take i names ++ x ∷ []) (sym is) ∙ sym (take_more names i name low))
    (known_and_one known (take i names) name h some)
