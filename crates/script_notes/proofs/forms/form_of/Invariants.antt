-- None of the forms before begins with this word.
use Rattle.std.proofs.Common.{◌≡◌, drop, map}
use Rattle.script_notes.specs.Forms.{form_of}
use Rattle.script_notes.proofs.forms.form_of.Given as goal

abbrev pub invariant-loop-form : goal.invariant-loop-form
invariant-loop-form l = form_of (map (λ form. form.now) (drop l.form-index l.forms)) l.word
    ≡ form_of (map (λ form. form.now) l.forms) l.word
