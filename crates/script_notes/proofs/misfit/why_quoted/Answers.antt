use Rattle.std.proofs.Common.{◌≡◌, ◌∙◌, map, ap, sym}
use Rattle.std.proofs.lemmas.Result.{IfOk-weaker}
use Rattle.script_notes.specs.Forms.{no_command, test_forms, why_quoted, why_words}
use Rattle.test_script.specs.LineValues.{words_value}
use Rattle.script_notes.proofs.misfit.why_quoted.Goals as goal

pub returns-in-Ok-clause-word : goal.returns-in-Ok-clause-word
returns-in-Ok-clause-word c =
    let same : map (λ slice. slice.now) c.deref-in-Ok.result.now ≡ map (λ word. word.items) c.in-Some.words.items =
    rw (c.deref-in-Ok.ensures.value, ← c.deref.ensures.value) c.in-Ok.ensures in
    let is = ap (λ words. (why_quoted (words_value words)).word) (sym c.in-Some.is) in
    IfOk-weaker c.why_words.result _ _ (λ _ h. h ∙ ap (λ words. (why_words no_command test_forms words).word) same ∙ is)
    c.why_words.ensures.word

pub returns-in-Ok-clause-said : goal.returns-in-Ok-clause-said
returns-in-Ok-clause-said c =
    let same : map (λ slice. slice.now) c.deref-in-Ok.result.now ≡ map (λ word. word.items) c.in-Some.words.items =
    rw (c.deref-in-Ok.ensures.value, ← c.deref.ensures.value) c.in-Ok.ensures in
    let is = ap (λ words. (why_quoted (words_value words)).said) (sym c.in-Some.is) in
    IfOk-weaker c.why_words.result _ _ (λ _ h. h ∙ ap (λ words. (why_words no_command test_forms words).said) same ∙ is)
    c.why_words.ensures.said
