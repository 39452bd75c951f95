-- One more state is packed.
use Rattle.std.proofs.Common.{◌≡◌, ◌⊎◌, inl, inr, ⊎_elim, ◌∙◌, ◌+◌, ◌-◌, ◌<◌, ◌++◌, [], ◌∷◌, List, ℕ, min, Some, slice_get}
use Rattle.std.proofs.Common.{slice_index_or, sym, ap, subst, arith}
use Rattle.std.specs.List.{Contains}
use Rattle.automaton_rows.specs.Automata.{target}
use Rattle.tables.specs.Tables.{Table, depth_of, table_value}
use Rattle.table_image.specs.Chains.{source}
use Rattle.table_image.specs.inner.PackSteps.{AreOthers, IsPacked, without_cell}
use Rattle.table_image.proofs.PackedStates.{one_packed, new_table}
use Rattle.table_image.proofs.packer.push_state.Goals as goal

pub place_row-requires-clause-below : goal.place_row-requires-clause-below
place_row-requires-clause-below c = λ b h. (c.in_ok-others_of.ensures.only b
    (subst (λ (z : List ℕ). Contains z b) c.deref-2.ensures.value h)).0

pub returns-clause-packed : goal.returns-clause-packed
returns-clause-packed c =
    let a = c.args.dfa.now in
    let s = c.args.state in
    let old = table_value c.args.packing.now.table in
    let targets = c.others_of.new.targets in
    let bytes = c.deref-2.result.now in
    let base = c.in_ok-base.base in
    let default : ℕ = c.choose-choice.result.default in
    let depth : ℕ = c.choose-choice.result.depth in
    let bound = c.max-packing.result in
    let choice = c.choose-choice.ensures.choice in
    let src : c.min-source.result ≡ source a s = c.min-source.ensures ∙ ap (λ z. min s (z - 1)) c.states.ensures.count in
    let others : AreOthers (target a (source a s)) (without_cell a default depth) bytes targets =
    subst (λ (z : List ℕ). AreOthers (target a (source a s)) (without_cell a default depth) z targets) (sym c.deref-2.ensures.value)
    (subst (λ z. AreOthers (target a z) (without_cell a default depth) c.others_of.new.bytes.items targets) src
    c.in_ok-others_of.ensures) in
    let chain : (depth ≡ 0) ⊎ ((default < s) × (depth_of old default < depth)) = ⊎_elim
    (λ flat. inl flat)
    (λ on. inr (
      omega (arith, on.0, c.min-source.ensures),
      omega (arith, on.1, ap (λ (z : List ℕ). slice_index_or z default 0) c.deref.ensures.value),
    ))
    choice.lawful in
    subst (λ (z : Table). IsPacked a z c.place_row.new.taken (s + 1))
    (new_table old default base c.in_ok-number.number depth c.place_row.new.next.items c.place_row.new.check.items
    c.number_of.new.records.items bound c.push_number.new.list.items c.push_number-2.new.list.items c.push_number-3.new.list.items
    c.push_number-4.new.list.items
    (c.in_ok-push_number.ensures ∙ ap (λ z. old.default ++ z ∷ []) c.from.ensures) c.in_ok-push_number-2.ensures
    c.in_ok-push_number-3.ensures (c.in_ok-push_number-4.ensures ∙ ap (λ z. old.depth ++ z ∷ []) c.from-2.ensures))
    (one_packed a c.states.ensures.whole old c.args.packing.now.taken s c.requires.few c.requires.packed
    c.record_at.result c.in_ok-number.number c.number_of.new.records.items (subst (λ z. slice_get a.records z ≡ Some c.record_at.result)
    src c.record_at.ensures) c.in_ok-number.ensures.number default choice.there depth bound (omega (arith, c.max-packing.ensures))
    (omega (arith, c.max-packing.ensures)) chain bytes targets others base
    c.place_row.new.next.items c.place_row.new.check.items c.place_row.new.taken c.in_ok-base.ensures.placed)
