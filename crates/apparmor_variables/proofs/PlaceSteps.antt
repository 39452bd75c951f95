-- The places of the variables of names, one variable at a time.
use Rattle.std.proofs.Common.{◌≡◌, ℕ, ◌+◌, ◌<◌, Bool, true, false, cond, List, length, take, get_or, Option, Some, None, Bor, refl, sym}
use Rattle.std.proofs.Common.{ap, ◌∙◌, arith}
use Rattle.std.specs.Prelude.{bytes_eq, is_some, not}
use Rattle.std.specs.Option.{option_copied}
use Rattle.std.specs.Cmp.Lexicographic.{bytes_decides}
use Rattle.std.proofs.lemmas.List.{take_more, length-take-le}
use Rattle.apparmor_pieces.specs.Pieces.{Text}
use Rattle.apparmor_variables.specs.Variables.{Variable}
use Rattle.apparmor_variables.specs.inner.Known.{place_of}
use Rattle.apparmor_variables.proofs.Places.{first_of_two, position_from-more}

pub place_more : (variables : List Variable) (i : ℕ) (v : Variable) → i < length variables → v ≡ get_or variables i v → (q : Text)
    → place_of (take (i + 1) variables) q ≡ first_of_two (place_of (take i variables) q) (cond (bytes_eq v.name q) (Some i) None)
place_more variables i v low is q =
    let test : Variable → Bool = λ x. bytes_eq x.name q in
    ap (λ vs. place_of vs q) (take_more variables i v low)
    ∙ position_from-more test 0 (take i variables) (get_or variables i v)
    ∙ (λ j. first_of_two (place_of (take i variables) q) (cond (bytes_eq (sym is j).name q) (Some (0 + length (take i variables))) None))
    ∙ ap (λ k. first_of_two (place_of (take i variables) q) (cond (bytes_eq v.name q) (Some k) None))
    (let h = length-take-le i variables (omega arith) in omega (arith, h))

one_or_none : {A : Type 0} (o : Option A) → first_of_two o None ≡ o
one_or_none None = refl
one_or_none (Some x) = refl

-- a name that wasn't met before is at the new place
pub new_placed : (old new : Text → Option ℕ) (name q : Text) (i : ℕ) → old name ≡ None → new q ≡ cond (bytes_eq name q) (Some i) (old q)
    → new q ≡ first_of_two (old q) (cond (bytes_eq name q) (Some i) None)
new_placed old new name q i none is =
    is ∙ elim (bytes_eq name q) as (λ (b : Bool). bytes_eq name q ≡ b → cond b (Some i) (old q) ≡ first_of_two (old q)
    (cond b (Some i) None)) [
      | true ↦ λ e. let same : old q ≡ None = ap old (sym ((bytes_decides name q).0 e)) ∙ none in
          ap (λ o. first_of_two o (Some i)) (sym same)
      | false ↦ λ e. sym (one_or_none (old q))
    ] refl

first_stays : {A : Type 0} (o x : Option A) → is_some o ≡ true → o ≡ first_of_two o x
first_stays None x h = absurd cc
first_stays (Some y) x h = refl

-- a name that was met before stays where it is
pub old_placed : (old : Text → Option ℕ) (name q : Text) (i : ℕ) → is_some (old name) ≡ true → old q ≡ first_of_two (old q)
    (cond (bytes_eq name q) (Some i) None)
old_placed old name q i some =
    elim (bytes_eq name q) as (λ (b : Bool). bytes_eq name q ≡ b → old q ≡ first_of_two (old q) (cond b (Some i) None)) [
      | true ↦ λ e. first_stays (old q) (Some i) (ap (λ n. is_some (old n)) (sym ((bytes_decides name q).0 e)) ∙ some)
      | false ↦ λ e. sym (one_or_none (old q))
    ] refl

pub none_found : (o : Option (Bor ℕ)) (r : Option ℕ) (b : Bool) → is_some o ≡ not b → b ≡ true → option_copied o ≡ r → r ≡ None
none_found None r b h e is = sym is
none_found (Some x) r b h e is = let g : true ≡ not true = h ∙ ap not e in absurd cc

pub some_found : (o : Option (Bor ℕ)) (r : Option ℕ) (b : Bool) → is_some o ≡ not b → b ≡ false → option_copied o ≡ r → is_some r ≡ true
some_found None r b h e is = let g : false ≡ not false = h ∙ ap not e in absurd cc
some_found (Some x) r b h e is = ap is_some (sym is)
