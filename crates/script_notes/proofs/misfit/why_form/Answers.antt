use Rattle.std.proofs.Common.{◌≡◌, ◌∙◌, map, option_map, ap, sym}
use Rattle.std.proofs.lemmas.Result.{IfOk-weaker}
use Rattle.script_notes.specs.Forms.{misfit_of, why_form}
use Rattle.trace_script.specs.Script.{words_of}
use Rattle.script_notes.proofs.misfit.why_form.Goals as goal

pub returns-in_ok-words_in-in-Some-clause-word : goal.returns-in_ok-words_in-in-Some-clause-word
returns-in_ok-words_in-in-Some-clause-word c =
    let same : map (λ word. word.now) c.deref.result.now ≡ words_of c.in-Some.form.now =
    rw (c.deref.ensures.value, ← c.as_bytes.ensures.value) c.in_ok-words_in-in-Some.ensures in
    let words = map (λ word. word.now) c.args.words.now in
    let is = ap (λ form. (why_form c.args.unknown.now (option_map (λ form. form.now) form) words).word) (sym c.in-Some.is) in
    IfOk-weaker c.misfit_of.result _ _ (λ _ h. h ∙ ap (λ parts. (misfit_of c.in-Some.form.now parts words).word) same ∙ is)
    c.misfit_of.ensures.word

pub returns-in_ok-words_in-in-Some-clause-said : goal.returns-in_ok-words_in-in-Some-clause-said
returns-in_ok-words_in-in-Some-clause-said c =
    let same : map (λ word. word.now) c.deref.result.now ≡ words_of c.in-Some.form.now =
    rw (c.deref.ensures.value, ← c.as_bytes.ensures.value) c.in_ok-words_in-in-Some.ensures in
    let words = map (λ word. word.now) c.args.words.now in
    let is = ap (λ form. (why_form c.args.unknown.now (option_map (λ form. form.now) form) words).said) (sym c.in-Some.is) in
    IfOk-weaker c.misfit_of.result _ _ (λ _ h. h ∙ ap (λ parts. (misfit_of c.in-Some.form.now parts words).said) same ∙ is)
    c.misfit_of.ensures.said
