use Rattle.std.proofs.Common.{◌≡◌, ℕ, ◌+◌, Option, Some, None, BTreeMap, Vec, take, cond, ap, sym, ◌∙◌, arith}
use Rattle.std.specs.Prelude.{bytes_eq, is_some}
use Rattle.std.specs.BTreeMap.{get_by}
use Rattle.std.specs.Cmp.Lexicographic.{slice_cmp}
use Rattle.std.specs.Ordering.{nat_cmp}
use Rattle.std.specs.declared.alloc.Global.{Global}
use Rattle.apparmor_pieces.specs.Pieces.{Text}
use Rattle.apparmor_variables.specs.inner.Known.{place_of}
use Rattle.names.specs.laws.ByteKeys.{updates_bytes}
use Rattle.apparmor_variables.proofs.Places.{first_of_two}
use Rattle.apparmor_variables.proofs.PlaceSteps.{place_more, new_placed, old_placed, none_found, some_found}
use Rattle.apparmor_variables.proofs.declared.places_of.Goals.{then-is_none+in_ok-from_slice+in_ok-insert, else-is_none}
use Rattle.apparmor_variables.proofs.declared.places_of.Goals as goal

abbrev found : BTreeMap (Vec ℕ Global) ℕ → Text → Option ℕ
found places name = get_by (λ key. slice_cmp nat_cmp name key.items) places

pub loop-place-preserved : goal.loop-place-preserved
loop-place-preserved c = λ q.
    let old = c.loop-place.places in
    let i = c.loop-place.place in
    let v = c.index-variables-place.result in
    let name : c.name-name.result.now ≡ v.name = c.name-name.ensures in
    let more : first_of_two (found old q) (cond (bytes_eq v.name q) (Some i) None) ≡ place_of (take (i + 1) c.args.variables.now) q =
    ap (λ o. first_of_two o (cond (bytes_eq v.name q) (Some i) None)) (c.loop-place.invariant q)
    ∙ sym (place_more c.args.variables.now i v (omega arith) c.index-variables-place.is q) in
    elim c.if-is_none.branch [
      | then-is_none+in_ok-from_slice+in_ok-insert w ↦
          let key = w.in_ok-from_slice.field-0.items in
          let is : key ≡ v.name = w.in_ok-from_slice.ensures.items ∙ name in
          let none : found old v.name ≡ None = ap (found old) (sym name) ∙ none_found c.get.result (found old c.name-name.result.now)
          c.is_none.result c.is_none.ensures w.if-is_none.true c.get.ensures.value in
          ap (λ m. found m q) w.places-is
          ∙ new_placed (found old) (found w.insert.new.self) v.name q i none
          (updates_bytes key old w.insert.new.self (Some i) w.in_ok-insert.ensures.updates q
          ∙ ap (λ (n : Text). cond (bytes_eq n q) (Some i) (found old q)) is)
          ∙ more
      | else-is_none w ↦
          ap (λ m. found m q) w.places-is
          ∙ old_placed (found old) v.name q i (ap (λ n. is_some (found old n)) (sym name) ∙ some_found c.get.result
          (found old c.name-name.result.now) c.is_none.result c.is_none.ensures w.if-is_none.false c.get.ensures.value)
          ∙ more
    ]
