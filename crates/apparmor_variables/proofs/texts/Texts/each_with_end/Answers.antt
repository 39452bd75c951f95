use Rattle.std.proofs.Common.{List, arith, ◌≡◌, ◌≤◌, ◌++◌, ◌∷◌, [], length, map, refl, ap, sym, ◌∙◌, append-nil}
use Rattle.std.proofs.lemmas.Bool.{eqb-true}
use Rattle.std.proofs.lemmas.List.{length-map}
use Rattle.apparmor_pieces.specs.Pieces.{Text}
use Rattle.apparmor_variables.specs.Variables.{byte_count, each_with, most_texts}
use Rattle.apparmor_variables.proofs.TextLists.{Bytes, items, refused_end, seen_length, each_with_one, ended_bytes, made}
use Rattle.apparmor_variables.proofs.texts.Texts.each_with_end.Goals as goal

pub returns-in_default : goal.returns-in_default
returns-in_default c =
    refused_end c.args.self c.args.end.now c.self.inside.bytes c.len.result (c.self.invariant.0 ∙ ap byte_count c.self.view_is)
    (seen_length c.self.inside.texts.items c.args.self c.len.result c.self.view_is (omega arith)) (c.in_default.ensures.none refl)

few : (old new : List Bytes) (end : Text) → length old ≤ most_texts → items new ≡ map (λ (text : Text). text ++ end) (items old) →
    length new ≤ most_texts
few old new end h is =
    let a = length-map old (λ (text : Bytes). text.items) in
    let b = length-map new (λ (text : Bytes). text.items) in
    let d = length-map (items old) (λ (text : Text). text ++ end) in
    let e = ap length is in
    omega (arith, a, b, d, e)

pub invariant_of-result-2 : goal.invariant_of-result-2
invariant_of-result-2 c =
    let old = c.self.inside.texts.items in
    let new = c.extend_each.new.texts.items in (
      ended_bytes (items old) (items new) c.args.end.now c.self.inside.bytes c.len.result c.in-Some.bytes c.in-Some.ensures.some.0
          c.self.invariant.0 (seen_length old (items old) c.len.result refl (omega arith)) c.in_ok-extend_each.ensures,
      few old new c.args.end.now c.self.invariant.1 c.in_ok-extend_each.ensures,
      c.in-Some.ensures.some.1,
    )

pub returns : goal.returns
returns c =
    let new = c.extend_each.new.texts.items in
    let h : c.in-Some.bytes ≡ byte_count (items new) = (invariant_of-result-2 c).0 in
    made (each_with c.args.self (c.args.end.now ∷ [])) new
    (c.in_ok-extend_each.ensures ∙ ap (map (λ (text : Text). text ++ c.args.end.now)) c.self.view_is
    ∙ sym (each_with_one c.args.self c.args.end.now))
    (invariant_of-result-2 c).1 (omega (arith, h, c.in-Some.ensures.some.1))

with_nothing : (firsts : List Text) (end : Text) → length end ≡ 0 → map (λ (first : Text). first ++ end) firsts ≡ firsts
with_nothing [] end none = refl
with_nothing (first ∷ firsts) [] none = ap (λ (x : Text). x ∷ map (λ (y : Text). y ++ []) firsts) (append-nil first)
    ∙ ap (λ (xs : List Text). first ∷ xs) (with_nothing firsts [] none)
with_nothing (first ∷ firsts) (b ∷ end) none = absurd (omega (arith, none))

pub returns-then-is_empty : goal.returns-then-is_empty
returns-then-is_empty c =
    let end = c.args.end.now in
    let none : length end ≡ 0 = eqb-true (length end) 0 (sym c.is_empty.ensures ∙ c.if-is_empty.true) in
    let h : c.self.inside.bytes ≡ byte_count (items c.self.inside.texts.items) = c.self.invariant.0 in
    made (each_with c.args.self (end ∷ [])) c.self.inside.texts.items
    (c.self.view_is ∙ sym (each_with_one c.args.self end ∙ with_nothing c.args.self end none)) c.self.invariant.1
    (omega (arith, h, c.self.invariant.2))
