use Rattle.std.proofs.Common.{◌<◌, ℕ, List, [], length, map, get_or, Bor, sym, ap, ◌∙◌, arith}
use Rattle.std.proofs.lemmas.List.{length-map, get_or-map}
use Rattle.std.proofs.lemmas.List.Folds.{list_any_at}
use Rattle.apparmor_pieces.specs.Pieces.{Text}
use Rattle.apparmor_variables.specs.inner.Known.{is_named_marked}
use Rattle.apparmor_variables.proofs.made_lists.is_one_marked.Goals as goal

abbrev Lent : Type 0
Lent = Bor (List ℕ)

pub returns-then-is_marked : goal.returns-then-is_marked
returns-then-is_marked c =
    let test = is_named_marked c.args.declared.now c.args.marks.now in
    let names = c.args.names.now in
    let i = c.loop-name.name-index in
    let d : Lent = record { ref_ptr = (0, 0); now = [] } in
    let name : Text = (get_or names i d).now in
    let low : i < length names = omega arith in
    sym (list_any_at test (map (λ (n : Lent). n.now) names) i name (let h = length-map names (λ (n : Lent). n.now) in omega (arith, h))
    (ap test (get_or-map (λ (n : Lent). n.now) names i d name low) ∙ sym c.is_marked.ensures ∙ c.if-is_marked.true))
