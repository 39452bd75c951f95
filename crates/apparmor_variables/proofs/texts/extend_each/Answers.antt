use Rattle.std.proofs.Common.{◌≡◌, ◌+◌, ◌<◌, ◌++◌, ℕ, List, Vec, map, length, take, drop, ap, sym, ◌∙◌, get_or, set, rules, arith}
use Rattle.std.proofs.lemmas.List.{map-set, length-map, get_or-map}
use Rattle.std.proofs.lemmas.List.Edits.{map_over_more}
use Rattle.std.specs.declared.alloc.Global.{Global}
use Rattle.apparmor_pieces.specs.Pieces.{Text}
use Rattle.apparmor_variables.proofs.texts.extend_each.Goals as goal

abbrev Bytes : Type 0
Bytes = Vec ℕ Global

abbrev items : List Bytes → List Text
items texts = map (λ (text : Bytes). text.items) texts

-- one more text has the bytes appended
more : (old now : List Bytes) (end : Text) (i : ℕ) (one d : Bytes) → i < length now → length now ≡ length old →
    one.items ≡ (get_or now i d).items ++ end
    → items now ≡ map (λ (text : Text). text ++ end) (take i (items old)) ++ drop i (items old)
    → items (set now i one) ≡ map (λ (text : Text). text ++ end) (take (i + 1) (items old)) ++ drop (i + 1) (items old)
more old now end i one d low same is before =
    map-set (λ (text : Bytes). text.items) now i one
    ∙ ap (set (items now) i) is
    ∙ map_over_more (λ (text : Text). text ++ end) (items old) (items now) i (get_or now i d).items
    (omega (arith, length-map old (λ (text : Bytes). text.items))) before
    (sym (get_or-map (λ (text : Bytes). text.items) now i d (get_or now i d).items low))

pub loop-text-preserved : goal.loop-text-preserved
loop-text-preserved c =
    let whole : c.deref_mut-text-items.result.now ≡ c.args.texts.now.items = search rules in
    more c.args.texts.now.items c.loop-text.text-items c.args.end.now c.loop-text.text-index c.extend_from_slice.new.self
    c.text-item.result (omega arith) (omega (arith, ap length whole, c.loop-text.auto.text-items)) (search rules) c.loop-text.invariant
