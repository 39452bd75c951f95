-- The parts of the line, one after the other.
use Rattle.std.proofs.Common.{◌≡◌, ◌∙◌, ◌++◌, ◌∷◌, ℕ, List, [], ap, append_assoc}
use Rattle.std.specs.Prelude.{codes}
use Rattle.std.proofs.lemmas.Result.{on_ok_weaker}
use Rattle.names.specs.Permissions.{letter}
use Rattle.rule_explain.specs.Explanations.{reason_text}
use Rattle.rule_explain.specs.Reasons.{reason}
use Rattle.rule_profile.specs.declared.profile.Span.{Span}
use Rattle.trace_questions.specs.Differences.{ReadText, reason_in, sign}
use Rattle.trace_questions.specs.Shown.{shown_name}
use Rattle.trace_questions.specs.inner.Differences.{versions_value}
use Rattle.trace_questions.proofs.changes.put_text_line.Goals as goal

line_added : (t t1 t2 t3 t4 t5 t6 t7 t8 t9 s n r o s_here n_here r_here o_here : List ℕ) (l l_here : ℕ) →
    t1 ≡ t ++ s_here → t2 ≡ t1 ++ l_here ∷ [] →
    t3 ≡ t2 ++ codes " " → t4 ≡ t3 ++ n_here → t5 ≡ t4 ++ codes ": " → t6 ≡ t5 ++ r_here → t7 ≡ t6 ++ codes "; was: " →
    t8 ≡ t7 ++ o_here → t9 ≡ t8 ++ codes "\n" → s_here ≡ s → n_here ≡ n → r_here ≡ r → o_here ≡ o → l_here ≡ l →
    t9 ≡ t ++ (s ++ l ∷ codes " " ++ n ++ codes ": " ++ r ++ codes "; was: " ++ (o ++ codes "\n"))
line_added t t1 t2 t3 t4 t5 t6 t7 t8 t9 s n r o s_here n_here r_here o_here l l_here e1 e2 e3 e4 e5 e6 e7 e8 e9 es en er eo el =
    rw (e9, e8, e7, e6, e5, e4, e3, e2, e1, es, en, er, eo, el) (simp append_assoc)

pub returns : goal.returns
returns c before after =
    let v = versions_value c.args.versions.now in
    let name : List ℕ = c.args.name.now in
    let told : ReadText → List Span → List ℕ = λ t spans. reason_text t.text t.rules spans (reason t.rules name c.args.permission) in
    let shown : c.deref.result.now ≡ shown_name name = c.deref.ensures.value ∙ c.in_ok-shown_name.ensures in
    let now : c.deref-2.result.now ≡ reason_in v.new c.args.permission name =
    c.deref-2.ensures.value ∙ c.in_ok-reason_text.ensures ∙ ap (told v.new) after in
    let was : c.deref-3.result.now ≡ reason_in v.old c.args.permission name =
    c.deref-3.ensures.value ∙ c.in_ok-reason_text-2.ensures ∙ ap (told v.old) before in
    on_ok_weaker c.put-9.result
    (λ last. line_added c.args.text.now.items c.put.new.text.items c.put-2.new.text.items c.put-3.new.text.items c.put-4.new.text.items
    c.put-5.new.text.items c.put-6.new.text.items c.put-7.new.text.items c.put-8.new.text.items c.put-9.new.text.items
    (sign c.args.side) (shown_name name) (reason_in v.new c.args.permission name) (reason_in v.old c.args.permission name)
    c.sign.result.now c.deref.result.now c.deref-2.result.now c.deref-3.result.now (letter c.args.permission) c.letter.result
    c.in_ok-put.ensures c.in_ok-put-2.ensures c.in_ok-put-3.ensures c.in_ok-put-4.ensures
    c.in_ok-put-5.ensures c.in_ok-put-6.ensures c.in_ok-put-7.ensures c.in_ok-put-8.ensures last c.sign.ensures shown now
    was c.letter.ensures)
    c.put-9.ensures
