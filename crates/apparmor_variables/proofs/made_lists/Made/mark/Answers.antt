use Rattle.std.proofs.Common.{◌≡◌, ◌<◌, ℕ, true, false, List, length, sym, ◌∙◌, subst, arith}
use Rattle.std.specs.Prelude.{Contains}
use Rattle.std.proofs.lemmas.List.{length-set}
use Rattle.apparmor_variables.proofs.FirstValue.{marked_itself, free_with_less, noted_too, all_within}
use Rattle.apparmor_variables.proofs.made_lists.Made.mark.Goals as goal

pub returns-in_err-push-clause-sound : goal.returns-in_err-push-clause-sound
returns-in_err-push-clause-sound c =
    let sound = c.requires.sound in
    let same = c.in_err-push.ensures.items in
    record {
      lists = sound.lists;
      met = sound.met;
      marks = sound.marks;
      levels = sound.levels;
      right = sound.right;
      free = sound.free;
      noted = λ place e. subst (λ (xs : List ℕ). Contains xs place) (sym same) (sound.noted place e);
      within = λ place h. sound.within place (subst (λ (xs : List ℕ). Contains xs place) same h);
    }

pub returns-in_ok-push-clause-sound : goal.returns-in_ok-push-clause-sound
returns-in_ok-push-clause-sound c =
    let variables = c.args.declared.now in
    let place = c.args.place in
    let lists = c.args.self.now.lists.items in
    let marks = c.args.self.now.needs_first.items in
    let places = c.args.self.now.needing_first.items in
    let sound = c.requires.sound in
    let more = c.in_ok-push.ensures.items in
    let low : place < length marks = omega (arith, c.requires.within, sound.marks) in
    record {
      lists = sound.lists;
      met = sound.met;
      marks = length-set marks place true ∙ sound.marks;
      levels = sound.levels;
      right = sound.right;
      free = λ value name list e. sound.free value name list (free_with_less lists marks place low variables name list e);
      noted = λ other e. subst (λ (xs : List ℕ). Contains xs other) (sym more)
          (noted_too lists marks place low places sound.noted other e);
      within = λ other h. all_within places place (length variables) sound.within c.requires.within other
          (subst (λ (xs : List ℕ). Contains xs other) more h);
    }

pub returns-in_ok-push-clause-free : goal.returns-in_ok-push-clause-free
returns-in_ok-push-clause-free c = λ unmarked.
    let marks = c.args.self.now.needs_first.items in
    let low : c.args.place < length marks = omega (arith, c.requires.within, c.requires.sound.marks) in
    let not_so : true ≡ false = sym (marked_itself c.args.self.now.lists.items marks c.args.place low) ∙ unmarked in
    absurd cc
