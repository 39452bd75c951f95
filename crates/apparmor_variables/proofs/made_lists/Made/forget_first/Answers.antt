use Rattle.std.proofs.Common.{◌≡◌, ◌<◌, ℕ, true, false, List, [], Some, ◌++◌, ◌∷◌, length, sym, ◌∙◌, subst, arith}
use Rattle.std.specs.Prelude.{Contains}
use Rattle.std.proofs.lemmas.List.{length-set}
use Rattle.std.proofs.lemmas.List.Elements.{Contains-append_left}
use Rattle.apparmor_variables.specs.Variables.{Variable, list_at, with_first_value}
use Rattle.apparmor_variables.specs.declared.made_lists.Made.{Made}
use Rattle.apparmor_variables.specs.inner.Known.{is_marked}
use Rattle.apparmor_variables.specs.inner.Way.{IsSound}
use Rattle.apparmor_variables.proofs.FirstValue.{known_is, free_is, same_length, set_twice, marked_before, fewer_known, fewer_free}
use Rattle.apparmor_variables.proofs.FirstValue.{noted_before, last_noted, known_free, none_marked}
use Rattle.apparmor_variables.proofs.made_lists.Made.forget_first.Goals as goal

-- the last place is one of the variables'
last_within : (variables : List Variable) (made : Made) (places : List ℕ) (place : ℕ) → made.needing_first.items ≡ places ++ place ∷ [] →
    IsSound variables made → place < length variables
last_within variables made places place is sound =
    sound.within place (subst (λ (xs : List ℕ). Contains xs place) (sym is) (last_noted places place))

pub index_mut-requires : goal.index_mut-requires
index_mut-requires c =
    let sound = c.loop-place.invariant c.requires.0 c.requires.1 in
    let low = last_within c.requires.0 c.loop-place.self c.pop.new.self.items c.in-Some.place c.in-Some.ensures.items sound in
    omega (arith, low, sound.lists)

pub index_mut-requires-in-Some : goal.index_mut-requires-in-Some
index_mut-requires-in-Some c =
    let sound = c.loop-place.invariant c.requires.0 c.requires.1 in
    let low = last_within c.requires.0 c.loop-place.self c.pop.new.self.items c.in-Some.place c.in-Some.ensures.items sound in
    omega (arith, low, sound.marks)

pub loop-place-preserved : goal.loop-place-preserved
loop-place-preserved c = λ variables before.
    let made = c.loop-place.self in
    let place = c.in-Some.place in
    let lists = made.lists.items in
    let marks = made.needs_first.items in
    let places = c.pop.new.self.items in
    let sound = c.loop-place.invariant variables before in
    let low = last_within variables made places place c.in-Some.ensures.items sound in
    let low_lists : place < length lists = omega (arith, low, sound.lists) in
    let low_marks : place < length marks = omega (arith, low, sound.marks) in
    record {
      lists = length-set lists place _ ∙ sound.lists;
      met = sound.met;
      marks = length-set marks place false ∙ sound.marks;
      levels = sound.levels;
      right = λ name list e. sound.right name list (fewer_known lists marks place low_lists low_marks variables name list e);
      free = λ value name list e. sound.free value name list (fewer_free lists marks place low_lists low_marks variables name list e);
      noted = λ other e.
          let parts = marked_before lists marks place low_lists low_marks other e in
          noted_before places place other parts.0 (subst (λ (xs : List ℕ). Contains xs other) c.in-Some.ensures.items
          (sound.noted other parts.1));
      within = λ other h. sound.within other (subst (λ (xs : List ℕ). Contains xs other) (sym c.in-Some.ensures.items)
          (Contains-append_left places (place ∷ []) other h));
    }

pub returns : goal.returns
returns c = λ variables before value.
    let made = c.loop-place.self in
    let lists = made.lists.items in
    let marks = made.needs_first.items in
    let changed = with_first_value variables value in
    let sound = c.loop-place.invariant variables before in
    let same = same_length variables value in
    let none = c.in_default.ensures.cases in
    let unnoted : (place : ℕ) → is_marked marks place ≡ true → ⊥ = λ place e. let h = sound.noted place e in omega (arith, h.1, none.0) in
    let unmarked : (place : ℕ) → is_marked marks place ≡ false = λ place. none_marked marks place (unnoted place) in
    record {
      lists = sound.lists ∙ sym same;
      met = sound.met ∙ sym same;
      marks = sound.marks ∙ sym same;
      levels = sound.levels;
      right = λ name list e. sound.free value name list (known_free lists marks unmarked variables name list
          (sym (known_is variables lists value name) ∙ e));
      free = λ other name list e.
          subst (λ (vs : List Variable). list_at sound.levels vs name ≡ Some list) (sym (set_twice variables value other))
          (sound.free other name list (sym (free_is variables lists marks value name) ∙ e));
      noted = λ place e. absurd (unnoted place e);
      within = λ place h. absurd (omega (arith, h.1, none.1));
    }
