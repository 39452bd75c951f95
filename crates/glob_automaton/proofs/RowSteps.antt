-- The targets of a set. Bytes that are alike and that no place takes alone have one target.
use Rattle.std.proofs.Common.{◌≡◌, ◌≢◌, ⊎_elim, ℕ, zero, suc, ◌<◌, ◌&&◌, Bool, false, true≢false, nat_lt, List, [], length, Option, Some}
use Rattle.std.proofs.Common.{None, slice_get, slice_index_or, Contains, Result, Ok, Err, OnOk, refl, sym, ap, ◌∙◌, subst, arith}
use Rattle.std.proofs.Math.Bool.{and-false}
use Rattle.std.proofs.Math.ListN.{set, replicate}
use Rattle.std.proofs.lemmas.Bool.Decides.{eqb_tells}
use Rattle.std.proofs.lemmas.Grind.{get_or-set_at}
use Rattle.std.proofs.lemmas.List.{get_or-set_other, length-set, length-replicate}
use Rattle.std.proofs.lemmas.Option.{same_Some, none-some}
use Rattle.glob_automaton.specs.declared.chart.Chart.{Chart}
use Rattle.glob_automaton.specs.declared.chart.ChartPlace.{ChartPlace}
use Rattle.glob_automaton.specs.declared.chart.Label.{Label}
use Rattle.glob_automaton.specs.declared.chart.Label.TheVariants as label
use Rattle.glob_automaton.specs.inner.Alike.{least_of, AreAlike, AreNamed, NamesNone}
use Rattle.glob_automaton.specs.inner.ChartStates.{IsStepOf}
use Rattle.glob_automaton.specs.inner.Chart.{takes_byte}
use Rattle.glob_automaton.specs.inner.Drawings.{IsKnown, IsPartOfChart}
use Rattle.glob_automaton.specs.inner.Shared.{AreShared}
use Rattle.glob_automaton.specs.inner.States.{Keeps, IsTargetOf}
use Rattle.glob_automaton.proofs.SetSteps.{still_target}

-- where each is absent, none is there
none_at : (n o : ℕ) → slice_index_or (replicate {A = Option ℕ} n None) o None ≡ None
none_at zero o = refl
none_at (suc n) zero = refl
none_at (suc n) (suc o) = none_at n o

-- what follows from what holds on success
pub on_ok : {X E : Type 0} {P Q : Type 0} (r : Result X E) → (P → Q) → OnOk r P → OnOk r Q
on_ok (Ok x) follows h = follows h
on_ok (Err e) follows h = tt

-- another byte than its own is not taken
other_byte : (classes : List (List Bool)) (a b : ℕ) → a ≢ b → takes_byte classes (label.Byte a) b ≡ false
other_byte classes a b other = ⊎_elim
    (λ same. absurd (other same.1))
    (λ apart. ap (λ z. nat_lt 0 b && z) apart.0 ∙ and-false (nat_lt 0 b))
    (eqb_tells a b)

module _ (chart : Chart) (least : List ℕ) (part : IsPartOfChart chart) (alike : AreAlike chart least) where
  -- what doesn't take one byte alone takes both or none of two that are alike
  both_or_none : (by : Label) (b c : ℕ) → b < 256 → c < 256 → least_of least b ≡ least_of least c → IsKnown chart by → NamesNone by →
      takes_byte chart.classes.items by b ≡ takes_byte chart.classes.items by c
  both_or_none by b c small other same known none =
      sym (alike.taken_alike b by small known none) ∙ ap (λ z. takes_byte chart.classes.items by z) same
      ∙ alike.taken_alike c by other known none

  -- so does what takes a third byte alone
  unnamed_alike : (by : Label) (b c : ℕ) → b < 256 → c < 256 → least_of least b ≡ least_of least c → IsKnown chart by →
      by ≢ label.Byte b → by ≢ label.Byte c → takes_byte chart.classes.items by b ≡ takes_byte chart.classes.items by c
  unnamed_alike (label.Byte a) b c small other same known one two =
      other_byte chart.classes.items a b (λ e. one (ap label.Byte e))
      ∙ sym (other_byte chart.classes.items a c (λ e. two (ap label.Byte e)))
  unnamed_alike label.InComponent b c small other same known one two = both_or_none label.InComponent b c small other same known tt
  unnamed_alike label.Any b c small other same known one two = both_or_none label.Any b c small other same known tt
  unnamed_alike (label.Class n) b c small other same known one two = both_or_none (label.Class n) b c small other same known tt
  unnamed_alike label.Nothing b c small other same known one two = both_or_none label.Nothing b c small other same known tt

  module _ (places : List ℕ) (named : List Bool) (marks : AreNamed chart places named) where
    -- a byte that isn't marked is taken alone by no place of the set
    not_alone : (p b : ℕ) (place : ChartPlace) → Contains places p → slice_get chart.places.items p ≡ Some place → b < 256 →
        slice_index_or named b false ≡ false → place.takes ≢ label.Byte b
    not_alone p b place there at small unmarked alone = true≢false (sym (marks.each p b place there at alone small) ∙ unmarked)

    -- two bytes that are alike and aren't marked lead to the same set
    pub same_step : (b c : ℕ) (next : List ℕ) → b < 256 → c < 256 → least_of least b ≡ least_of least c →
        slice_index_or named b false ≡ false → slice_index_or named c false ≡ false → IsStepOf chart places b next →
        IsStepOf chart places c next
    same_step b c next small other same one two step = record {
      ascending = step.ascending;
      live = λ q. (
        λ h. let w = (step.live q).0 h in (w.0, w.1, w.2, w.3, sym (taken_alike w.0 w.1 w.2 w.3) ∙ w.4, w.5),
        λ w. (step.live q).1 (w.0, w.1, w.2, w.3, taken_alike w.0 w.1 w.2 w.3 ∙ w.4, w.5),
      );
    }
      where
        taken_alike : (p : ℕ) (place : ChartPlace) → Contains places p → slice_get chart.places.items p ≡ Some place →
            takes_byte chart.classes.items place.takes b ≡ takes_byte chart.classes.items place.takes c
        taken_alike p place there at = unnamed_alike place.takes b c small other same (part.1.there p place at).1
            (not_alone p b place there at small one) (not_alone p c place there at other two)

module _ (chart : Chart) (least : List ℕ) (named : List Bool) (places : List ℕ) where
  -- at first none is there
  pub none_shared : (n : ℕ) (sets : List (List ℕ)) → n ≡ 256 → AreShared chart least named sets places (replicate {A = Option ℕ} n None)
  none_shared n sets wide = record {
    wide = length-replicate n None ∙ wide;
    shared = λ o b target there small same unmarked. absurd (none-some target (sym (none_at n o) ∙ there));
  }

  module _ (old new : List (List ℕ)) (others : List (Option ℕ)) (kept : Keeps old new)
      (is : AreShared chart least named old places others) where
    -- they stay when sets are added
    pub shared_stay : AreShared chart least named new places others
    shared_stay = record {
      wide = is.wide;
      shared = λ o b t there small same unmarked. still_target chart old new places b t kept (is.shared o b t there small same unmarked);
    }

    -- the target of one byte is that of all that are alike to it
    pub one_more_shared : (k o target : ℕ) → k < 256 → IsTargetOf chart new places k target → IsPartOfChart chart → AreAlike chart least →
        AreNamed chart places named → least_of least k ≡ o → slice_index_or named k false ≡ false →
        AreShared chart least named new places (set others o (Some target))
    one_more_shared k o target room found part alike marks at free = record {
      wide = length-set others o (Some target) ∙ is.wide;
      shared = λ x b t there small same unmarked. ⊎_elim
          (λ here.
          let one : target ≡ t = same_Some target t (sym (get_or-set_at others o x (Some target) None here.1 fits_in) ∙ there) in
          subst (λ z. IsTargetOf chart new places b z) one (
            found.0,
            same_step chart least part alike places named marks k b (slice_index_or new target []) room small
                (at ∙ sym here.1 ∙ sym same) free unmarked found.1,
          ))
          (λ apart. still_target chart old new places b t kept
          (is.shared x b t (sym (get_or-set_other others o x (Some target) None apart.1) ∙ there) small same unmarked))
          (eqb_tells x o);
    }
      where
        fits_in : o < length others
        fits_in = omega (arith, at, alike.alike.below k room, room, is.wide)
