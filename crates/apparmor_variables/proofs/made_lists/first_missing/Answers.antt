use Rattle.std.proofs.Common.{◌≡◌, ◌<◌, ℕ, List, [], length, map, get_or, true, Bor, Option, Some, None, refl, sym, ap, ◌∙◌, arith}
use Rattle.std.specs.Prelude.{is_some, IsSome}
use Rattle.std.specs.Option.{option_map}
use Rattle.std.proofs.lemmas.List.{length-map, get_or-map}
use Rattle.apparmor_pieces.specs.Pieces.{Text}
use Rattle.apparmor_variables.specs.inner.Known.{known_in}
use Rattle.apparmor_variables.proofs.KnownLists.{known_more}
use Rattle.apparmor_variables.proofs.made_lists.first_missing.Goals as goal

abbrev Lent : Type 0
Lent = Bor (List ℕ)

-- a list that is found is found, whatever it is
some_seen : {A B : Type 0} (f : A → B) (o : Option A) → is_some o ≡ true → IsSome (option_map f o)
some_seen f None h = absurd cc
some_seen f (Some x) h = refl

pub loop-place-preserved : goal.loop-place-preserved
loop-place-preserved c =
    let names = c.args.names.now in
    let place = c.loop-place.place in
    let d : Lent = record { ref_ptr = (0, 0); now = [] } in
    let name : Text = (get_or names place d).now in
    let low : place < length names = omega arith in
    known_more (known_in c.args.declared.now c.args.lists.now) (map (λ (n : Lent). n.now) names) place name
    (let h = length-map names (λ (n : Lent). n.now) in omega (arith, h)) (get_or-map (λ (n : Lent). n.now) names place d name low)
    c.loop-place.invariant (ap is_some (sym c.known.ensures) ∙ some_seen (λ list. list.now) c.known.result c.if-is_none.ensures)
