use Rattle.std.proofs.Common.{◌≡◌, ◌-◌, ◌<◌, ◌≤◌, List, ℕ, Option, Bor, get_or, ap, refl, sym, ◌∙◌, length, Some, None}
use Rattle.std.specs.Prelude.{slice_get, reverse, IfSome, MatchOption}
use Rattle.std.specs.List.{HoldsAt}
use Rattle.std.specs.Option.{option_copied}
use Rattle.std.proofs.lemmas.Option.{slice_get_past, slice_get_read}
use Rattle.import_scope.specs.Scopes.{Head, first_number}
use Rattle.import_scope.proofs.Opened.{last_is_innermost}
use Rattle.import_scope.proofs.outline.Outline.innermost.Goals as goal

copied_is : (o : Option (Bor Head)) (xs : List Head) (i : ℕ) → IfSome o (λ x. x.now ≡ get_or xs i x.now) → MatchOption o (length xs ≤ i)
    (λ x. (i < length xs) × HoldsAt (λ y. x.now ≡ y) xs i) → option_copied o ≡ slice_get xs i
copied_is None xs i here there = sym (slice_get_past xs i there)
copied_is (Some x) xs i here there = sym (slice_get_read xs (length xs) i x.now refl there.0 here)

pub returns : goal.returns
returns c =
    let open_ones = c.args.self.now.within.items in
    let first : first_number (reverse open_ones) ≡ Some c.in_ok-number.number.now =
    sym (c.in_ok-number.ensures.value ∙ ap (λ (xs : List ℕ). slice_get xs (length xs - 1)) c.deref.ensures.value
    ∙ last_is_innermost open_ones) in
    let found = copied_is c.get.result c.deref-2.result.now c.in_ok-number.number.now c.get.ensures.lookup.1 c.get.ensures.lookup.3 in
    rw first (found ∙ ap (λ (heads : List Head). slice_get heads c.in_ok-number.number.now) c.deref-2.ensures.value)
