use Rattle.std.proofs.Common.{◌≡◌, List, [], Some, None, sym, ap, ◌∙◌, subst, suc}
use Rattle.std.specs.Prelude.{slice_get, unwrap_or}
use Rattle.std.proofs.lemmas.List.{length-set}
use Rattle.apparmor_pieces.specs.Pieces.{Text}
use Rattle.apparmor_variables.specs.Variables.{Variable, list_of_values}
use Rattle.apparmor_variables.specs.inner.Known.{known_in}
use Rattle.apparmor_variables.specs.inner.Way.{Lists, AreKnown, variable_at, needed_at}
use Rattle.apparmor_variables.proofs.WayMade.{right_still}
use Rattle.apparmor_variables.proofs.FirstValue.{free_still}
use Rattle.apparmor_variables.proofs.made_lists.Made.finish.Goals as goal

pub returns-clause-sound : goal.returns-clause-sound
returns-clause-sound c =
    let variables = c.args.declared.now in
    let place = c.args.place in
    let old = c.args.self.now.lists.items in
    let lists = c.mark.new.self.lists.items in
    let marks = c.mark.new.self.needs_first.items in
    let list : List Text = c.in_ok-list.list in
    let same : lists ≡ old = c.in_ok-mark.ensures.lists in
    let sound = c.in_ok-mark.ensures.sound in
    let unmade : slice_get lists place ≡ Some None = ap (λ (l : Lists). slice_get l place) same ∙ c.requires.unmade in
    let all : AreKnown (known_in variables lists) (needed_at variables place) =
    subst (λ (l : Lists). AreKnown (known_in variables l) (needed_at variables place)) (sym same) c.requires.known in
    let at : c.variable.result.now ≡ variable_at variables place =
    sym (ap (λ o. unwrap_or o (record { name = []; values = [] })) c.variable.ensures) in
    let values = c.values-values.ensures ∙ ap (λ (v : Variable). v.values) at in
    let is : list_of_values (known_in variables lists) (variable_at variables place).values ≡ Some list =
    ap (λ (l : Lists). list_of_values (known_in variables l) (variable_at variables place).values) (same ∙ sym c.deref.ensures.value)
    ∙ ap (list_of_values (known_in variables c.deref.result.now)) (sym values) ∙ c.in_ok-list.ensures in
    record {
      lists = length-set lists place (Some list) ∙ sound.lists;
      met = sound.met;
      marks = sound.marks;
      levels = suc sound.levels;
      right = right_still lists place list unmade variables sound.levels sound.right is;
      free = λ value. free_still lists marks place list unmade variables sound.levels value (sound.free value)
          c.in_ok-mark.ensures.free all is;
      noted = sound.noted;
      within = sound.within;
    }
