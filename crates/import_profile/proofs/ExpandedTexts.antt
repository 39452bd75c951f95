-- Texts of paths with their variables in place.
use Rattle.std.proofs.Common.{◌≡◌, ℕ, ◌≤◌, Bool, true, false, cond, List, [], length, Option, Some, None, refl, sym, ap, ◌∙◌}
use Rattle.std.specs.Prelude.{nat_le}
use Rattle.std.proofs.lemmas.Bool.{leb-true, le-leb}
use Rattle.apparmor_variables.proofs.FewLevels.{few_levels_of_texts}
use Rattle.apparmor_variables.proofs.PathLaws.{text_excludes}
use Rattle.apparmor_variables.specs.PathTexts.{path_text, IsSubstituted, PathProblem}
use Rattle.apparmor_variables.specs.Faults.{Tells}
use Rattle.apparmor_variables.specs.Problems.{Problem, undefined, cycle, too_long}
use Rattle.apparmor_variables.specs.declared.fault.ExpandFault.{ExpandFault}
use Rattle.apparmor_variables.specs.declared.fault.ExpandFault.TheVariants.{Undefined, Cycle, TooLong, NoMemory}
use Rattle.apparmor_variables.specs.Variables.{Variable, list_at, most_bytes}
use Rattle.import_profile.specs.Expanded.{expanded, short_or_empty}

abbrev at_most_levels : List Variable → List ℕ → Option (List ℕ)
at_most_levels variables path = path_text (list_at (length variables) variables) path

short_stays : (text : List ℕ) → length text ≤ most_bytes → short_or_empty (Some text) ≡ text
short_stays text short = at (nat_le (length text) most_bytes) (le-leb (length text) most_bytes short)
  where
    at : (b : Bool) → b ≡ true → cond b text [] ≡ text
    at true e = refl
    at false e = absurd cc

-- a path that has a text is expanded to it
pub is_expanded : (variables : List Variable) (path text : List ℕ) → IsSubstituted variables path text → text ≡ expanded variables path
is_expanded variables path text is =
    sym (ap short_or_empty (few_levels_of_texts variables is.levels path text is.is) ∙ short_stays text is.short)

-- one that has a problem is expanded to nothing
pub none_expanded : (variables : List Variable) (path : List ℕ) (problem : Problem) → PathProblem variables path problem →
    [] ≡ expanded variables path
none_expanded variables path problem has = of_text (at_most_levels variables path) refl
  where
    too_long_is_left_out : (text : List ℕ) → (length text ≤ most_bytes → ⊥) → [] ≡ short_or_empty (Some text)
    too_long_is_left_out text long = at (nat_le (length text) most_bytes) refl
      where
        at : (b : Bool) → nat_le (length text) most_bytes ≡ b → [] ≡ cond b text []
        at true e = absurd (long (leb-true (length text) most_bytes e))
        at false e = refl

    of_text : (o : Option (List ℕ)) → at_most_levels variables path ≡ o → [] ≡ short_or_empty o
    of_text None e = refl
    of_text (Some text) e = too_long_is_left_out text
        (λ short. text_excludes variables path text problem (record { levels = length variables; is = e; short = short }) has)

-- one whose fault is reported is expanded to nothing, unless memory ran out
pub fault_expanded : (variables : List Variable) (path : List ℕ) (fault : ExpandFault) → (fault ≡ NoMemory → ⊥) →
    Tells (PathProblem variables path) fault → [] ≡ expanded variables path
fault_expanded variables path (Undefined name) told has = none_expanded variables path (undefined name.now) has
fault_expanded variables path (Cycle name) told has = none_expanded variables path (cycle name.now) has
fault_expanded variables path TooLong told has = none_expanded variables path too_long has
fault_expanded variables path NoMemory told has = absurd (told refl)
