use Rattle.std.proofs.Common.{◌≡◌, List, ℕ, Bor, Vec, Global, Option, map, sym, ap, ◌∙◌}
use Rattle.test_script.specs.LineValues.{words_value}
use Rattle.test_script.specs.TestScript.{quoted_kind, words_kind}
use Rattle.test_script.proofs.line.quoted_kind.Goals as goal

pub returns-in_ok-slices-in-Some : goal.returns-in_ok-slices-in-Some
returns-in_ok-slices-in-Some c =
    let number = c.args.number in
    c.words_kind.ensures
    ∙ ap (λ (slices : List (Bor (List ℕ))). words_kind number (map (λ (s : Bor (List ℕ)). s.now) slices)) c.deref-in-Some.ensures.value
    ∙ ap (words_kind number) c.in_ok-slices-in-Some.ensures
    ∙ ap (λ (ws : List (Vec ℕ Global)). words_kind number (map (λ (w : Vec ℕ Global). w.items) ws)) c.deref.ensures.value
    ∙ sym (ap (λ (ws : Option (Vec (Vec ℕ Global) Global)). quoted_kind number (words_value ws)) c.in-Some.is)
