-- What commands compose, and what is printed of it.
use Rattle.std.proofs.Common.{◌≡◌, List, ℕ, [], ◌∷◌, Option, Some, None, Result, Ok, Err, Vec, Global, ◌∙◌, subst}
use Rattle.event_machine.specs.Machine.{Machine}
use Rattle.trace_script.specs.declared.stop.Stop.{Stop}
use Rattle.trace_script.specs.Engine.{IsPut, IsText}
use Rattle.trace_script.specs.FollowedScripts.{IsPrinted}
use Rattle.trace_script.specs.laws.FollowedScripts.{nothing_printed, printed}
use Rattle.trace_steps.specs.StepLines.{Lines}
use Rattle.trace_steps.specs.inner.Actions.{HasLine, IsDone}

-- ---- composed lines

pub has_line : (Prints : Lines → Type 0) (text : List ℕ) (result : Result (Vec ℕ Global) Stop) → IsText text result → Prints (text ∷ []) →
    HasLine Prints result
has_line Prints text (Ok bytes) is prints = (text, is, prints)
has_line Prints text (Err stop) is prints = is

pub has_line_so : (Prints Wanted : Lines → Type 0) (result : Result (Vec ℕ Global) Stop) →
    ((lines : Lines) → Prints lines → Wanted lines) → HasLine Prints result → HasLine Wanted result
has_line_so Prints Wanted (Ok bytes) so (text, is, prints) = (text, is, so (text ∷ []) prints)
has_line_so Prints Wanted (Err stop) so h = h

pub is_done_so : (Prints Wanted : Lines → Type 0) (result : Result (Option (Vec ℕ Global)) Stop) →
    ((lines : Lines) → Prints lines → Wanted lines) → IsDone Prints result → IsDone Wanted result
is_done_so Prints Wanted (Ok None) so prints = so [] prints
is_done_so Prints Wanted (Ok (Some bytes)) so (text, is, prints) = (text, is, so (text ∷ []) prints)
is_done_so Prints Wanted (Err stop) so h = h

-- ---- printed lines

module _ {T : Type 0} (Does : Lines → Machine → Type 0) (new : Machine) where
  -- a command's line was composed and passed on, whether or not it is printed
  pub line_put : (bytes : Vec ℕ Global) (seen : List ℕ) (before after : Option (List ℕ)) (result : Result T Stop) →
      seen ≡ bytes.items → HasLine (λ lines. Does lines new) (Ok bytes) → IsPut before after seen result →
      IsPrinted Does new before after result
  line_put bytes seen before after result same (text, is, does) put = printed Does new seen text before after result (same ∙ is) does put

  pub done_put : (outcome : Option (Vec ℕ Global)) (bytes : Vec ℕ Global) (seen : List ℕ) (before after : Option (List ℕ))
      (result : Result T Stop)
      → outcome ≡ Some bytes → seen ≡ bytes.items → IsDone (λ lines. Does lines new) (Ok outcome) → IsPut before after seen result →
      IsPrinted Does new before after result
  done_put outcome bytes seen before after result is same did put =
      let P : Option (Vec ℕ Global) → Type 0 = λ outcome. IsDone (λ lines. Does lines new) (Ok outcome) in
      line_put bytes seen before after result same (subst P is did) put

  -- the command has no line
  pub done_silently : (outcome : Option (Vec ℕ Global)) (known : Option (List ℕ)) (over : T) → outcome ≡ None →
      IsDone (λ lines. Does lines new) (Ok outcome) → IsPrinted Does new known known (Ok over)
  done_silently outcome known over is did =
      let P : Option (Vec ℕ Global) → Type 0 = λ outcome. IsDone (λ lines. Does lines new) (Ok outcome) in
      nothing_printed Does new known over (subst P is did)
